-- How many cells of a column are null, row by row.
use Rattle.std.proofs.Common.{◌≡◌, ℕ, zero, suc, ◌+◌, ◌≤◌, Bool, true, false, cond, [], ◌∷◌, length, Option, ap, refl, ◌∙◌, arith}
use Rattle.std.specs.Prelude.{filter}
use Rattle.std.proofs.lemmas.List.{length-append}
use Rattle.std.proofs.lemmas.List.FromFn.{filter_of_map_range_with_len_more}
use Rattle.sq_value.specs.Relation.{Relation, cell}
use Rattle.sq_value.specs.declared.value.Value.{Value}
use Rattle.table_view.specs.Columns.{column_cells, is_null, nulls}

-- the number of what a row adds
abbrev one : Bool → ℕ
one b = cond b 1 0

count : (b : Bool) (n : Option Value) → length (cond b (n ∷ []) []) ≡ one b
count true n = refl
count false n = refl

nulls_more : (table : Relation) (column row : ℕ) → nulls table column (row + 1) ≡ nulls table column row + one (is_null (cell table row column))
unfolding nulls
nulls_more table column row =
    let it = cell table row column in
    let before = filter is_null (column_cells table column row) in
    ap (length {A = Option Value}) (filter_of_map_range_with_len_more is_null (λ (n : ℕ). cell table n column) 0 row row (omega arith))
    ∙ length-append before (cond (is_null it) (it ∷ []) [])
    ∙ ap (λ (k : ℕ). length before + k) (count (is_null it) it)

pub null_more : (table : Relation) (column row : ℕ) (b : Bool) → is_null (cell table row column) ≡ b → nulls table column (row + 1) ≡ nulls table column row + one b
null_more table column row b e = nulls_more table column row ∙ ap (λ (t : Bool). nulls table column row + one t) e

at_most : (b : Bool) → one b ≤ 1
at_most true = omega arith
at_most false = omega arith

pub nulls_within : (table : Relation) (column rows : ℕ) → nulls table column rows ≤ rows
unfolding nulls
nulls_within table column zero =
    let none : nulls table column 0 ≡ 0 = refl in
    omega (arith, none)
nulls_within table column (suc rows) =
    let same : suc rows ≡ rows + 1 = omega arith in
    omega (arith, ap (nulls table column) same, nulls_more table column rows, nulls_within table column rows, at_most (is_null (cell table rows column)))
