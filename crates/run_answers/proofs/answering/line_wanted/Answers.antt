use Rattle.std.proofs.Common.{◌≡◌, Bool, true, Some, length, rules, refl, sym, subst}
use Rattle.std.specs.String.{string_bytes}
use Rattle.run_base.specs.Items.{item_over}
use Rattle.run_answers.specs.Answering.{IsLineFor}
use Rattle.run_answers.specs.Tally as tell
use Rattle.run_answers.proofs.TallyLemmas.{line_right}
use Rattle.run_answers.proofs.answering.line_wanted.Goals as goal

pub returns-in-Ok-clause-right : goal.returns-in-Ok-clause-right
returns-in-Ok-clause-right g c = λ gives tables h.
    let on : c.args.engine.now.settings.now.tally ≡ true = search rules in
    let is : string_bytes c.in-Ok.line ≡ tell.line_of_counts c.args.number (length c.args.bound.now.block.aliases) c.args.cached.now.answered.built.items
    c.args.cached.now.answered.most_hops (length c.args.cached.now.answered.looked.items) (tell.hits_told c.args.engine.now.settings.now.cache c.args.cached.now.hits) = search rules in
    subst (λ (t : Bool). IsLineFor t (tell.IsTally c.args.engine.now.settings.now.cache gives) c.args.number (item_over tables c.args.bound.now) (Some (string_bytes c.in-Ok.line))) (sym on)
    (line_right gives c.args.number (item_over tables c.args.bound.now) c.args.cached.now.answered.combos.items c.args.cached.now.answered.built.items
    c.args.cached.now.answered.built.items c.args.cached.now.answered.looked.items c.args.cached.now.answered.most_hops c.args.cached.now.hits (string_bytes c.in-Ok.line) h refl is)
