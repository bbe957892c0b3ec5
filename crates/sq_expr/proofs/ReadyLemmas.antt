-- A condition that fits, over rows that are there, may be evaluated.
use Rattle.std.proofs.Common.{◌≡◌, ℕ, ◌<◌, List, length, Option, Some, None, refl, ap, sym, subst, ◌∙◌, arith}
use Rattle.std.specs.Prelude.{slice_get, slice_index, option_and_then}
use Rattle.std.specs.Option.{option_map}
use Rattle.std.proofs.lemmas.Option.{slice_get_within, get_or_from_slice_get, same_Some, option_and_then_some}
use Rattle.sq_value.specs.Relation.{Relation}
use Rattle.sq_value.specs.declared.value.ColType.{ColType}
use Rattle.sq_value.specs.declared.table.Column.{Column}
use Rattle.sq_value.specs.declared.predicate.Kinds.{Kinds}
use Rattle.sq_expr.specs.declared.cond.ColumnOf.{ColumnOf}
use Rattle.sq_expr.specs.declared.cond.Cond.{Cond}
use Rattle.sq_expr.specs.Fits.{FitsCond, Covers, HasRow, kind_in, column_kind}
use Rattle.sq_expr.specs.Reading.{IsInRange, IsSeen, IsReadyOver}
use Rattle.sq_expr.proofs.WeakerLemmas.{every-also}

-- a column with a type stands in its table
column_within : (t : Relation) (column : ℕ) (k : ColType) → option_map (λ (c : Column). c.kind) (slice_get t.columns column) ≡ Some k → column < length t.columns
column_within t column k e = by (slice_get t.columns column) refl e
  where
    by : (o : Option Column) → slice_get t.columns column ≡ o → option_map (λ (c : Column). c.kind) o ≡ Some k → column < length t.columns
    by None is e = absurd cc
    by (Some c) is e = slice_get_within t.columns column c is

-- a column that has a type, of an alias that has a row
IsSeen-row : (tables : List Relation) (uses rows : List ℕ) (c : ColumnOf) (k : ColType) → length uses ≡ 12
    → kind_in tables uses c ≡ Some k → HasRow tables uses rows c.alias → IsSeen tables uses rows c k
IsSeen-row tables uses rows c k n e r = record { range = range; kind = e }
  where
    range : IsInRange tables uses rows c
    range = option_and_then_some (λ table. column_kind tables table c.column) (slice_get uses c.alias) k e (λ table used of_table.
        let at : slice_index uses c.alias ≡ table = get_or_from_slice_get uses c.alias table 0 used in
        let here : slice_get tables table ≡ Some r.table = ap (slice_get tables) (sym at) ∙ r.is in
        let of_column : option_map (λ (col : Column). col.kind) (slice_get r.table.columns c.column) ≡ Some k =
        ap (λ (o : Option Relation). option_map (λ (col : Column). col.kind) (option_and_then (λ (t : Relation). slice_get t.columns c.column) o)) (sym here) ∙ of_table in
        let same = λ (t : Relation) (is : slice_get tables (slice_index uses c.alias) ≡ Some t). same_Some r.table t (sym r.is ∙ is) in
        let in_uses = slice_get_within uses c.alias table used in
        record {
          alias = omega (arith, in_uses, n);
          table = slice_get_within tables (slice_index uses c.alias) r.table r.is;
          row = λ t is. subst (λ (u : Relation). slice_index rows c.alias < length u.rows) (same t is) r.row;
          column = λ t is. subst (λ (u : Relation). c.column < length u.columns) (same t is) (column_within r.table c.column k of_column);
        })

pub IsReady-fits : (kinds : ℕ → Option Kinds) (tables : List Relation) (uses rows : List ℕ) (span : ℕ) (c : Cond) → length uses ≡ 12
    → FitsCond kinds tables uses c → Covers tables uses rows span c → IsReadyOver kinds tables uses rows c
IsReady-fits kinds tables uses rows span c n fits covers =
    every-also kinds (λ col k. kind_in tables uses col ≡ Some k) (IsSeen tables uses rows) c fits
    (λ col k m e. IsSeen-row tables uses rows col k n e (covers.chosen col.alias m))
