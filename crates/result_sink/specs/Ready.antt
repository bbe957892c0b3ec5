-- When combinations can be put in order and written: the columns that are compared and shown are there. And what was
-- added where there was no memory for a record.
use Rattle.std.specs.Prelude.{◌≡◌, ◌≢◌, ℕ, ◌≤◌, List, [], ◌++◌, length, take, Option, IsSome, All}
use Rattle.csv.specs.Writing.{row_text, default_writer}
use Rattle.sq_value.specs.Relation.{Relation}
use Rattle.sq_expr.specs.Fits.{kind_in}
use Rattle.sq_expr.specs.declared.cond.ColumnOf.{ColumnOf}
use Rattle.sq_expr.specs.declared.block.Block.{Block}
use Rattle.sq_expr.specs.declared.block.OutCol.{OutCol}
use Rattle.sq_expr.specs.declared.block.OrderKey.{OrderKey}
use Rattle.bag_meaning.specs.Bag.{uses_of}
use Rattle.bag_meaning.specs.Answer.{row_fields}
use Rattle.bag_meaning.specs.declared.combo.Combo.{Combo}
use Rattle.outside.specs.Told.{Adds}

-- a column of an alias is there
abbrev pub HasColumn : Block → List Relation → ColumnOf → Type 0
HasColumn block tables column = IsSome (kind_in tables (uses_of block) column)

-- the column that an output column shows
abbrev pub shown_column : OutCol → ColumnOf
shown_column shown = record { alias = shown.alias; column = shown.column }

-- a block has at most 12 aliases and its output columns are there, as those of a block that fits
pub record IsShown (block : Block) (tables : List Relation) : Type 0 where
  pub few : length block.aliases ≤ 12
  pub output : All (λ shown. HasColumn block tables (shown_column shown)) block.output

-- the column of a key of ORDER BY
abbrev pub column_of_key : OrderKey → ColumnOf
column_of_key key = record { alias = key.alias; column = key.column }

-- a block has at most 12 aliases and the columns of its ORDER BY are there, as those of a block that fits
pub record IsOrdered (block : Block) (tables : List Relation) : Type 0 where
  pub few : length block.aliases ≤ 12
  pub order : All (λ key. HasColumn block tables (column_of_key key)) block.order

-- the row of each alias of a combination
abbrev pub rows_of_combo : Block → Combo → List ℕ
rows_of_combo block combo = take (length block.aliases) combo.rows

-- two combinations differ in the row of an alias
abbrev pub Differs : Block → Combo → Combo → Type 0
Differs block x y = rows_of_combo block x ≡ rows_of_combo block y → ⊥

-- the text of the record of a combination
abbrev pub record_text : Block → List Relation → Combo → List ℕ
record_text block tables combo = row_text default_writer (row_fields block tables (rows_of_combo block combo))

-- a front of a text was added, and not the whole text
abbrev pub AddsPart : Option (List ℕ) → Option (List ℕ) → List ℕ → Type 0
AddsPart before now text =
    (front : List ℕ) × (rest : List ℕ) × (text ≡ front ++ rest) × (rest ≢ []) × Adds before now front
