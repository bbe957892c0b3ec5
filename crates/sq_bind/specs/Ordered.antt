-- Serves proofs: what the cells of a name mean, kept under the names in lower case.
use Rattle.std.specs.Prelude.{◌≡◌, ℕ, ◌+◌, Bool, true, ◌&&◌, ◌==◌, if◌then◌else◌, List, [], ◌∷◌, Option, None, Some, Result, Ok, Err, String, string_bytes}
use Rattle.std.specs.Cmp.Lexicographic.{slice_cmp}
use Rattle.std.specs.Ordering.{is_eq, nat_cmp}
use Rattle.std.specs.Map.{lookup}
use Rattle.sq_value.specs.Name.{lower}
use Rattle.sq_expr.specs.declared.shape.AggKind.{AggKind}
use Rattle.sq_expr.specs.declared.shape.Cell.{Cell}
use Rattle.sq_expr.specs.declared.shape.SortOn.{SortOn}
use Rattle.sq_expr.specs.declared.shape.SortOn.TheVariants as sort
use Rattle.sq_bind.specs.Statement.{agg_number, is_one_column, has_name}
use Rattle.sq_expr.specs.declared.cond.ColumnOf.{ColumnOf}
use Rattle.sq_bind.specs.declared.output.Meant.{Meant}
use Rattle.sq_bind.specs.declared.fault.BindFault.{BindFault}
use Rattle.sq_bind.specs.declared.fault.BindFault.TheVariants.{AmbiguousColumn}

-- whether a cell shows a set function or a column
abbrev pub is_at : Option AggKind → ColumnOf → Cell → Bool
is_at agg first c = (agg_number agg == agg_number c.agg) && is_one_column first c.column

-- what a name means with one more cell of it, at a place
abbrev pub meant_with : ℕ → Option Meant → Cell → Meant
meant_with place None c = record { place = place; agg = c.agg; column = c.column; is_one = true }
meant_with place (Some m) c =
    record { place = m.place; agg = m.agg; column = m.column; is_one = m.is_one && is_at m.agg m.column c }

-- the same, where the cell may have another name
abbrev pub meant_after : List ℕ → ℕ → Option Meant → Cell → Option Meant
meant_after name place known c = if has_name name c then Some (meant_with place known c) else known

-- the same of cells that count from a number on
unfoldable pub meant_from : List ℕ → ℕ → Option Meant → List Cell → Option Meant
meant_from name first known [] = known
meant_from name first known (c ∷ cs) = meant_from name (first + 1) (meant_after name first known c) cs

-- what the cells of a name mean, where there is one
abbrev pub meant_among : List ℕ → List Cell → Option Meant
meant_among name cells = meant_from name 0 None cells

-- the cell of the name, or a fault
unfoldable pub told : ℕ → Meant → Result SortOn BindFault
told at m = if m.is_one then Ok (sort.Cell m.place) else Err (AmbiguousColumn at)

-- what is kept under each name is what its cells mean
unfoldable pub HoldsCells : {A : Type 0} → List (String A × Meant) → List Cell → Type 0
HoldsCells entries cells =
    (name : List ℕ)
    → lookup (λ key. is_eq (slice_cmp nat_cmp (lower name) (string_bytes key))) entries ≡ meant_among name cells
