use Rattle.std.proofs.Common.{Bool, List, map, ap, ◌∙◌}
use Rattle.sq_parse.specs.Shaped.{is_grouped}
use Rattle.sq_expr.specs.declared.cond.ColumnOf.{ColumnOf}
use Rattle.sq_expr.specs.declared.shape.Cell.{Cell}
use Rattle.sq_bind.specs.Seen.{seen}
use Rattle.sq_bind.specs.Statement.{Sorting, grouping_of}
use Rattle.sq_bind.proofs.binding.fault_of.Goals as goal

abbrev sorting_with : Bool → Bool → List ColumnOf → List Cell → Sorting
sorting_with d b ks cs = record { distinct = d; grouped = b; keys = ks; cells = cs }

pub rest_fault-requires-clause-by : goal.rest_fault-requires-clause-by
rest_fault-requires-clause-by g c =
    let s = c.args.statement.now in
    ap (λ (b : Bool). sorting_with s.distinct b c.args.keys.now c.args.cells.now) c.is_grouped.ensures
    ∙ ap (λ (ks : List ColumnOf). sorting_with s.distinct (is_grouped s) ks c.args.cells.now) c.requires.keys
    ∙ ap (λ (cs : List Cell). sorting_with s.distinct (is_grouped s) (grouping_of (map seen c.args.aliases.now) s.groups) cs)
    c.requires.cells
