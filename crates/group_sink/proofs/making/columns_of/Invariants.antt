use Rattle.std.proofs.Common.{◌≡◌, ◌<◌, ℕ, length, map, take}
use Rattle.sq_expr.specs.declared.shape.Cell.{Cell}
use Rattle.group_sink.specs.Cells.{cell_over}
use Rattle.group_sink.specs.Columns.{cells_at}
use Rattle.group_sink.specs.Lines.{scale_of}
use Rattle.group_sink.specs.Parts.{value_over}
use Rattle.group_sink.specs.Picked.{picked}
use Rattle.group_sink.proofs.making.columns_of.Given as goal

abbrev pub invariant-loop-cell : goal.invariant-loop-cell
invariant-loop-cell l = record {
  long : length l.columns.items ≡ l.cell-index;
  each : (group : ℕ) → group < l.groups → cells_at l.columns.items group
      ≡ map (λ (cell : Cell). cell_over (scale_of l.block l.tables cell.column) cell.agg (picked group l.numbers (map (value_over l.block l.tables cell.column) l.members)))
      (take l.cell-index l.cells);
}
