-- Serves tests: each column of their conditions is one of a table's, at alias 0 or 1, which both use that table.
use Rattle.std.specs.Prelude.{◌≡◌, ℕ, zero, suc, ◌<◌, Bool, true, false, List, [], ◌∷◌, Option, Some, None, replicate, codes}
use Rattle.sq_value.specs.Relation.{Relation}
use Rattle.sq_value.specs.declared.value.ColType.{ColType}
use Rattle.sq_value.specs.declared.value.ColType.TheVariants.{Integer, Text, Decimal}
use Rattle.sq_value.specs.declared.table.Column.{Column}
use Rattle.sq_value.specs.declared.predicate.Kinds.{Kinds}
use Rattle.sq_expr.specs.Fits.{Class, Numbers, Texts, kind_in, FitsHere}
use Rattle.sq_expr.specs.declared.cond.ColumnOf.{ColumnOf}
use Rattle.sq_expr.specs.declared.cond.Cond.{Cond, every-Cond}

-- cid INTEGER, amt INTEGER, name TEXT, cost DECIMAL(2), rate DECIMAL(3), top DECIMAL(0)
abbrev pub sample_columns : List Column
sample_columns =
    record { name = codes "cid"; kind = Integer } ∷ record { name = codes "amt"; kind = Integer }
    ∷ record { name = codes "name"; kind = Text } ∷ record { name = codes "cost"; kind = Decimal 2 }
    ∷ record { name = codes "rate"; kind = Decimal 3 } ∷ record { name = codes "top"; kind = Decimal 0 } ∷ []

-- the class that a flag names
abbrev pub class_named : Bool → Class
class_named true = Texts
class_named false = Numbers

-- one predicate, of two integers
abbrev pub sample_kinds : ℕ → Option Kinds
sample_kinds zero = Some (record { first = Integer; second = Integer })
sample_kinds (suc number) = None

-- a column of this type
abbrev pub IsSampleColumn : List Relation → ColumnOf → ColType → Type 0
IsSampleColumn tables c kind = (c.alias < 2) × (kind_in tables (replicate 12 0) c ≡ Some kind)

-- a condition over such columns
abbrev pub IsSample : List Relation → Cond → Type 0
IsSample tables cond = every-Cond (FitsHere sample_kinds (IsSampleColumn tables)) cond
