-- The text of lines, and digits of a number.
use Rattle.std.proofs.Common.{◌≡◌, ℕ, List, ◌++◌, map, ap}
use Rattle.std.specs.List.{flat_map}
use Rattle.std.proofs.lemmas.List.Folds.{flat_map-map}
use Rattle.csv.specs.Writing.{row_text, default_writer}
use Rattle.sq_expr.specs.declared.shape.Shape.{Shape}
use Rattle.group_sink.specs.Lines.{lines_text, out_text}
use Rattle.group_sink.specs.Texts.{heading_text, line_text}
use Rattle.group_sink.specs.declared.line.Line.{Line}
use Rattle.group_sink.specs.declared.line.Out.{Out}

-- the text of lines: the heading, and the text of each
pub lines_text-is : (shape : Shape) (lines : List Line)
    → lines_text shape (map (λ (line : Line). line.cells) lines) ≡ heading_text shape ++ flat_map line_text lines
unfolding lines_text
lines_text-is shape lines =
    ap (λ (z : List ℕ). heading_text shape ++ z)
    (flat_map-map (λ (cells : List Out). row_text default_writer (map out_text cells)) (λ (line : Line). line.cells) lines)
