use Rattle.std.proofs.Common.{◌++◌, refl, ap, ◌∙◌, List, Option}
use Rattle.std.specs.Option.{option_to_list}
use Rattle.sq_value.specs.declared.value.Cmp.TheVariants.{Eq}
use Rattle.remote_lookup.specs.Asks.{ask_by}
use Rattle.remote_lookup.proofs.AskLemmas.{on_ok, pushed}
use Rattle.remote_lookup.specs.declared.asks.Ask.{Ask}
use Rattle.remote_lookup.proofs.asks.push_asks.Goals as goal

pub returns : goal.returns
returns c =
    let block = c.args.block.now in
    let remotes = c.args.remotes.now in
    let x = c.in-Some.left.now in
    let y = c.in-Some.right.now in
    let old = c.args.asks.now.items in
    on_ok c.push_found-2.result
    (λ made. pushed block remotes c.args.cond.now x y Eq c.in-Some.ensures refl old c.push_found-2.new.asks.items
    (made
    ∙ ap (λ (o : Option Ask). c.push_found.new.asks.items ++ option_to_list o) c.ask_by-2.ensures
    ∙ ap (λ (l : List Ask). l ++ option_to_list (ask_by block remotes y x)) (c.in_ok-push_found.ensures ∙ ap (λ (o : Option Ask). old ++ option_to_list o) c.ask_by.ensures)))
    c.push_found-2.ensures
