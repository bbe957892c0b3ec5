-- The files of keys are in order: what has another key gives no rows.
use Rattle.std.proofs.Common.{◌≡◌, ℕ, ◌+◌, Bool, true, false, cond, List, [], ◌∷◌, length, get_or, Option, Some, None, refl, ap, sym, subst}
use Rattle.std.specs.Prelude.{ℤ, nat_lt, All, slice_get, Result, Ok, Err}
use Rattle.std.specs.Cmp.{signed_Decides}
use Rattle.std.proofs.lemmas.Bool.{false≢true}
use Rattle.std.proofs.lemmas.List.Elements.{All-nil, All-cons}
use Rattle.sq_value.specs.Columns.{are_same_columns}
use Rattle.sq_value.specs.Relation.{Relation}
use Rattle.sq_value.specs.declared.table.Column.{Column}
use Rattle.sq_value.specs.declared.value.Value.{Value}
use Rattle.sq_value.specs.declared.value.Value.TheVariants as value
use Rattle.table_csv.specs.TableFile.{table_of_bytes}
use Rattle.table_csv.specs.declared.fault.TableFault.{TableFault}
use Rattle.remote_lookup.specs.Filled.{keys_at, AreInOrder}
use Rattle.remote_lookup.specs.Rounds.{TooLong, Bad, rows_of_file}
use Rattle.remote_lookup.specs.declared.remote.KeyFault.TheVariants as fault
use Rattle.remote_lookup.specs.KeyFiles.{KeyBytes, is_that_integer, other_key, unless_other, rows_for, rows_in, table_columns, file_in, key_file_of}
use Rattle.remote_lookup.specs.declared.remote.Remote.{Remote}
use Rattle.remote_lookup.specs.declared.remote.RemoteKey.{RemoteKey}

integer-is : (key : ℤ) (o : Option Value) → is_that_integer key o ≡ true → o ≡ Some (value.Int key)
integer-is key None e = absurd (false≢true e)
integer-is key (Some value.Null) e = absurd (false≢true e)
integer-is key (Some (value.Int n)) e = ap (λ (m : ℤ). let o : Option Value = Some (value.Int m) in o) ((signed_Decides n key).0 e)
integer-is key (Some (value.Text t)) e = absurd (false≢true e)
integer-is key (Some (value.Decimal d)) e = absurd (false≢true e)

module _ (column : ℕ) (key : ℤ) where
  abbrev Has : List Value → Type 0
  Has row = slice_get row column ≡ Some (value.Int key)

  none_other : (number : ℕ) (rows : List (List Value)) → other_key column key number rows ≡ None → All Has rows
  none_other number [] e = All-nil Has
  none_other number (row ∷ rows) e = by (is_that_integer key (slice_get row column)) refl e (none_other (number + 1) rows)
    where
      by : (b : Bool) → is_that_integer key (slice_get row column) ≡ b → cond b (other_key column key (number + 1) rows) (Some number) ≡ None
          → (other_key column key (number + 1) rows ≡ None → All Has rows) → All Has (row ∷ rows)
      by true is e again = All-cons Has row rows (integer-is key (slice_get row column) is) (again e)
      by false is e again = absurd (some_none e)
        where
          some_none : {n : ℕ} → Some n ≡ None → ⊥
          some_none e = cc

  checked : (rows : List (List Value)) (o : Option ℕ) → other_key column key 1 rows ≡ o → All Has (rows_of_file (unless_other rows o))
  checked rows None e = none_other 1 rows e
  checked rows (Some rec) e = All-nil Has

  of_table : (columns : List Column) (r : Result Relation TableFault) → All Has (rows_of_file (rows_for columns column key r))
  of_table columns (Err f) = All-nil Has
  of_table columns (Ok t) = by (are_same_columns t.columns columns)
    where
      by : (b : Bool) → All Has (rows_of_file (cond b (unless_other t.rows (other_key column key 1 t.rows)) (Err (Bad fault.Columns))))
      by true = checked t.rows (other_key column key 1 t.rows) refl
      by false = All-nil Has

  of_bytes : (columns : List Column) (o : Option (List ℕ)) → All Has (rows_of_file (rows_in columns column key o))
  of_bytes columns None = All-nil Has
  of_bytes columns (Some bytes) = by (nat_lt 67108864 (length bytes))
    where
      by : (b : Bool) → All Has (rows_of_file (cond b (Err TooLong) (rows_for columns column key (table_of_bytes bytes))))
      by true = All-nil Has
      by false = of_table columns (table_of_bytes bytes)

-- so the rows of any keys' files are in order
pub files_in_order : (tables : List Relation) (remotes : List Remote) (found : KeyBytes) (keys : List RemoteKey)
    → AreInOrder remotes (λ r k. rows_of_file (key_file_of tables remotes found r k)) keys
unfolding key_file_of
files_in_order tables remotes found keys remote r is k d low =
    let key = get_or (keys_at keys remote) k d in
    subst (λ (o : Option Remote). All (λ (row : List Value). slice_get row r.column ≡ Some (value.Int key)) (rows_of_file (file_in tables (found remote key) key o))) (sym is)
    (of_bytes r.column key (table_columns tables r.table) (found remote key))
