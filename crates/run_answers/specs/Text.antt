-- The text of the answers of statements, one behind another.
use Rattle.std.specs.Prelude.{ℕ, ◌+◌, ◌==◌, List, [], ◌∷◌, ◌++◌, Option, Some, None, if◌then◌else◌}
use Rattle.std.specs.List.{flat_map}
use Rattle.sq_value.specs.declared.value.Value.{Value}
use Rattle.sq_value.specs.declared.value.Truth.{Truth}
use Rattle.sq_expr.specs.declared.block.Block.{Block}
use Rattle.sq_expr.specs.declared.shape.Shape.{Shape}
use Rattle.bag_meaning.specs.Bag.{bag}
use Rattle.bag_meaning.specs.Answer.{answer, answer_text}
use Rattle.group_sink.specs.Lines.{lines_of, lines_text}
use Rattle.group_sink.specs.declared.line.Out.{Out}
use Rattle.run_base.specs.Items.{Item}
use Rattle.run_base.specs.declared.bound.Bound.{Bound}

-- the bound statement of a block and a shape, if there is one
abbrev pub bound_as : Block → Option Shape → Bound
bound_as block shape = record { block = block; shape = shape }

-- the rows of a statement's answer, each as the rows of its aliases
abbrev pub answer_rows : (ℕ → Value → Value → Truth) → Item → List (List ℕ)
answer_rows gives item = answer gives item.bound.block item.tables

-- the lines of a statement with groups, DISTINCT or LIMIT: what its shape makes of all matches, in the order of the
-- product
abbrev pub answer_lines : (ℕ → Value → Value → Truth) → Item → Shape → List (List Out)
answer_lines gives item shape =
    lines_of item.bound.block item.tables shape (bag gives item.bound.block item.tables)

-- the text of an answer without a shape: its rows
abbrev pub plain_text : (ℕ → Value → Value → Truth) → Item → List ℕ
plain_text gives item = answer_text item.bound.block item.tables (answer_rows gives item)

-- the text of an answer with this shape: its lines
abbrev pub shaped_text : (ℕ → Value → Value → Truth) → Item → Shape → List ℕ
shaped_text gives item shape = lines_text shape (answer_lines gives item shape)

-- the text of a statement's answer, by its shape
abbrev pub text_by : (ℕ → Value → Value → Truth) → Item → Option Shape → List ℕ
text_by gives item None = plain_text gives item
text_by gives item (Some shape) = shaped_text gives item shape

abbrev pub item_text : (ℕ → Value → Value → Truth) → Item → List ℕ
item_text gives item = text_by gives item item.bound.shape

-- the text of an answer behind others, with one empty line before it
abbrev pub behind_line : (ℕ → Value → Value → Truth) → Item → List ℕ
behind_line gives item = 10 ∷ item_text gives item

-- the text of the answer of the statement with this number, which counts from 1: the first has no line before it
abbrev pub numbered_text : (ℕ → Value → Value → Truth) → ℕ → Item → List ℕ
numbered_text gives number item = if number == 1 then item_text gives item else behind_line gives item

-- the texts of all answers, in order, with one empty line between two
unfoldable pub text_of : (ℕ → Value → Value → Truth) → List Item → List ℕ
text_of gives [] = []
text_of gives (item ∷ more) = item_text gives item ++ flat_map (behind_line gives) more
