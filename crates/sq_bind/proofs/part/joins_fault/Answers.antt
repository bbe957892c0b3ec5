use Rattle.std.proofs.Common.{◌≡◌, ◌+◌, List, Option, map, take, drop, ap, sym, ◌∙◌}
use Rattle.std.specs.List.{flat_map}
use Rattle.std.proofs.lemmas.List.{take-map}
use Rattle.sq_parse.specs.declared.tree.Source.{Source}
use Rattle.sq_bind.specs.Condition.{calling}
use Rattle.sq_bind.specs.Fault.{sooner, first_of}
use Rattle.sq_bind.specs.Visible.{Alias}
use Rattle.sq_bind.specs.Statement.{part_seeing, joins_from, part_faults}
use Rattle.sq_bind.specs.Seen.{seen}
use Rattle.sq_bind.specs.declared.fault.BindFault.{BindFault}
use Rattle.sq_bind.proofs.PartLemmas.{next_join_fault}
use Rattle.sq_bind.proofs.part.joins_fault.Goals as goal

pub loop-index-preserved : goal.loop-index-preserved
loop-index-preserved g c =
    let calls = calling (g.F.Predicates.number_of c.args.functions.now) (g.F.Predicates.kinds_of c.args.functions.now) in
    let aliases = map seen c.args.aliases.now in
    let sources = c.args.sources.now in
    let i = c.loop-index.index in
    let x = c.index-sources-index.result in
    let all = c.args.aliases.now in
    let next = λ (these : List Alias) (s : Source). first_of (flat_map (part_faults calls) (part_seeing these s.on)) in
    let rest = first_of (flat_map (part_faults calls) (joins_from aliases (i + 1) (drop (i + 1) sources))) in
    let told : c.part_fault.result ≡ next (map seen (take (i + 1) all)) x = c.part_fault.ensures in
    let few : map seen (take (i + 1) all) ≡ take (i + 1) aliases = sym (take-map seen (i + 1) all) in
    ap (λ (f : Option BindFault). sooner f rest) (c.sooner-fault.ensures
    ∙ ap (sooner c.loop-index.fault) (told ∙ ap (λ (these : List Alias). next these x) few
    ∙ ap (λ (s : Source). next (take (i + 1) aliases) s) c.index-sources-index.is))
    ∙ next_join_fault calls aliases sources i x c.loop-index.fault _ c.loop-index-test.true c.loop-index.invariant
