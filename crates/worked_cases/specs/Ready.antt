-- Serves tests: the columns of a table, blocks whose answers can be put in order and written, and combinations whose
-- rows fall.
use Rattle.std.specs.Prelude.{◌<◌, List, [], ◌∷◌, length, AllPairs, slice_index, codes}
use Rattle.sq_value.specs.Relation.{Relation}
use Rattle.sq_value.specs.declared.table.Column.{Column}
use Rattle.sq_value.specs.declared.value.ColType.TheVariants as kind
use Rattle.sq_expr.specs.declared.block.Block.{Block}
use Rattle.bag_meaning.specs.declared.combo.Combo.{Combo}
use Rattle.result_sink.specs.Ready.{IsShown, IsOrdered}

-- n INTEGER, t TEXT, d DECIMAL(2), e DECIMAL(4)
abbrev pub answer_columns : List Column
answer_columns =
    record { name = codes "n"; kind = kind.Integer }
    ∷ record { name = codes "t"; kind = kind.Text }
    ∷ record { name = codes "d"; kind = kind.Decimal 2 }
    ∷ record { name = codes "e"; kind = kind.Decimal 4 }
    ∷ []

-- a block has an alias, and its answer can be put in order and written
pub record IsReady (tables : List Relation) (block : Block) : Type 0 where
  pub some : 0 < length block.aliases
  pub shown : IsShown block tables
  pub ordered : IsOrdered block tables

-- the rows of alias 0 fall
abbrev pub Fall : List Combo → Type 0
Fall combos = AllPairs (λ (x y : Combo). slice_index y.rows 0 < slice_index x.rows 0) combos
