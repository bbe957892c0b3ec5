-- Why a table isn't that of a key.
use Rattle.std.proofs.Common.{◌≡◌, ℕ, ◌+◌, ◌<◌, Bool, true, false, cond, List, [], drop, get_or, length, Option, Some, ap, sym, ◌∙◌}
use Rattle.std.specs.Prelude.{ℤ, option_and_then, slice_get, Result, Ok, Err}
use Rattle.std.proofs.lemmas.List.{drop_more}
use Rattle.std.proofs.lemmas.Option.{slice_get-get_or}
use Rattle.sq_value.specs.Columns.{are_same_columns}
use Rattle.sq_value.specs.Relation.{Relation, cell}
use Rattle.sq_value.specs.declared.table.Column.{Column}
use Rattle.sq_value.specs.declared.value.Value.{Value}
use Rattle.table_csv.specs.declared.fault.TableFault.{TableFault}
use Rattle.remote_lookup.specs.KeyFiles.{is_that_integer, other_key, unless_other, rows_for}
use Rattle.remote_lookup.specs.Rounds.{Cause, Bad}
use Rattle.remote_lookup.specs.declared.remote.KeyFault.TheVariants as fault

-- a row more
pub other_at : (t : Relation) (i column : ℕ) (key : ℤ) (v : Value) → i < length t.rows → cell t i column ≡ Some v
    → other_key column key (i + 1) (drop i t.rows)
    ≡ cond (is_that_integer key (Some v)) (other_key column key (i + 1 + 1) (drop (i + 1) t.rows)) (Some (i + 1))
other_at t i column key v low there =
    let row : List Value = get_or t.rows i [] in
    let at : slice_get t.rows i ≡ Some row = slice_get-get_or t.rows i [] low in
    let got : slice_get row column ≡ Some v = sym (ap (λ (o : Option (List Value)). option_and_then (λ (cells : List Value). slice_get cells column) o) at) ∙ there in
    ap (other_key column key (i + 1)) (drop_more t.rows i [] low)
    ∙ ap (λ (o : Option Value). let r : Option ℕ = cond (is_that_integer key o) (other_key column key (i + 1 + 1) (drop (i + 1) t.rows)) (Some (i + 1)) in r) got

module _ (columns : List Column) (column : ℕ) (key : ℤ) (r : Result Relation TableFault) (t : Relation) (is : r ≡ Ok t) where
  -- one of other columns
  pub other_columns : are_same_columns t.columns columns ≡ false → rows_for columns column key r ≡ Err (Bad fault.Columns)
  other_columns e =
      ap (rows_for columns column key) is
      ∙ ap (λ (b : Bool). let o : Result (List (List Value)) Cause = cond b (unless_other t.rows (other_key column key 1 t.rows)) (Err (Bad fault.Columns)) in o) e

  -- and one whose columns are the same, by its records
  pub by_records : are_same_columns t.columns columns ≡ true → (o : Option ℕ) → other_key column key 1 t.rows ≡ o → rows_for columns column key r ≡ unless_other t.rows o
  by_records e o other =
      ap (rows_for columns column key) is
      ∙ ap (λ (b : Bool). let q : Result (List (List Value)) Cause = cond b (unless_other t.rows (other_key column key 1 t.rows)) (Err (Bad fault.Columns)) in q) e
      ∙ ap (unless_other t.rows) other
