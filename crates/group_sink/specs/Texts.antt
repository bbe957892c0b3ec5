-- Serves proofs: the text of one line.
use Rattle.std.specs.Prelude.{ℕ, List, map}
use Rattle.csv.specs.Writing.{row_text, default_writer}
use Rattle.sq_expr.specs.declared.shape.Cell.{Cell}
use Rattle.sq_expr.specs.declared.shape.Shape.{Shape}
use Rattle.group_sink.specs.Lines.{out_text}
use Rattle.group_sink.specs.declared.line.Line.{Line}

abbrev pub heading_fields : List Cell → List (List ℕ)
heading_fields cells = map (λ (c : Cell). c.name) cells

abbrev pub heading_text : Shape → List ℕ
heading_text shape = row_text default_writer (heading_fields shape.cells)

abbrev pub line_text : Line → List ℕ
line_text line = row_text default_writer (map out_text line.cells)
