use Rattle.std.proofs.Common.{◌≡◌, ◌+◌, ◌++◌, List, map, take, drop, ap, sym, ◌∙◌}
use Rattle.std.specs.List.{flat_map}
use Rattle.std.proofs.lemmas.List.{take-map}
use Rattle.sq_parse.specs.declared.tree.Source.{Source}
use Rattle.sq_bind.specs.Condition.{calling}
use Rattle.sq_bind.specs.Visible.{Alias}
use Rattle.sq_bind.specs.Statement.{part_seeing, joins_from, part_conjuncts}
use Rattle.sq_bind.specs.Seen.{seen}
use Rattle.sq_bind.specs.declared.conjunct.Placed.{Placed}
use Rattle.sq_bind.proofs.PartLemmas.{next_join}
use Rattle.sq_bind.proofs.part.push_joins.Goals as goal

pub loop-index-preserved : goal.loop-index-preserved
loop-index-preserved g c =
    let calls = calling (g.F.Predicates.number_of c.args.functions.now) (g.F.Predicates.kinds_of c.args.functions.now) in
    let aliases = map seen c.args.aliases.now in
    let sources = c.args.sources.now in
    let i = c.loop-index.index in
    let x = c.index-sources-index.result in
    let all = c.args.aliases.now in
    let next = λ (these : List Alias) (s : Source). flat_map (part_conjuncts calls) (part_seeing these s.on) in
    let rest = flat_map (part_conjuncts calls) (joins_from aliases (i + 1) (drop (i + 1) sources)) in
    let pushed : c.push_part.new.placed.items ≡ c.loop-index.placed.items ++ next (map seen (take (i + 1) all)) x = c.in_ok-push_part.ensures in
    let few : map seen (take (i + 1) all) ≡ take (i + 1) aliases = sym (take-map seen (i + 1) all) in
    ap (λ (xs : List Placed). xs ++ rest) (pushed
    ∙ ap (λ (these : List Alias). c.loop-index.placed.items ++ next these x) few
    ∙ ap (λ (s : Source). c.loop-index.placed.items ++ next (take (i + 1) aliases) s) c.index-sources-index.is)
    ∙ next_join calls aliases sources i x c.loop-index.placed.items _ c.loop-index-test.true c.loop-index.invariant
