use Rattle.std.proofs.Common.{List, Option, map, ap, sym, ◌∙◌}
use Rattle.std.specs.List.{flat_map}
use Rattle.sq_parse.specs.declared.tree.Source.{Source}
use Rattle.sq_bind.specs.Condition.{calling}
use Rattle.sq_bind.specs.Fault.{sooner, first_of}
use Rattle.sq_bind.specs.Statement.{part_seeing, joins_from, parts_of, part_faults}
use Rattle.sq_bind.specs.Seen.{seen}
use Rattle.sq_bind.specs.declared.fault.BindFault.{BindFault}
use Rattle.sq_bind.proofs.PartLemmas.{faults_of_both}
use Rattle.sq_bind.proofs.part.parts_fault.Goals as goal

pub returns : goal.returns
unfolding parts_of
returns g c =
    let calls = calling (g.F.Predicates.number_of c.args.functions.now) (g.F.Predicates.kinds_of c.args.functions.now) in
    let aliases = map seen c.args.aliases.now in
    let joins = c.joins_fault.ensures
    ∙ ap (λ (ss : List Source). first_of (flat_map (part_faults calls) (joins_from aliases 0 ss))) c.as_slice.ensures in
    c.sooner.ensures ∙ ap (λ (f : Option BindFault). sooner f c.part_fault.result) joins
    ∙ ap (sooner (first_of (flat_map (part_faults calls) (joins_from aliases 0 c.args.statement.now.sources)))) c.part_fault.ensures
    ∙ sym (faults_of_both calls aliases (joins_from aliases 0 c.args.statement.now.sources) (part_seeing aliases c.args.statement.now.condition))
