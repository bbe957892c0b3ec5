-- Counts and sums of a group are totals of its values.
use Rattle.std.proofs.Common.{◌≡◌, ℕ, suc, Bool, true, false, cond, List, [], ◌∷◌, length, refl, ap, ◌∙◌, arith}
use Rattle.std.specs.Prelude.{ℤ, pos, ◌+ℤ◌, filter}
use Rattle.std.proofs.lemmas.Bool.{ne_eqb}
use Rattle.std.proofs.lemmas.Int.{ints}
use Rattle.sq_value.specs.declared.value.Value.{Value}
use Rattle.sq_value.specs.declared.value.Value.TheVariants as value
use Rattle.group_sink.specs.Cells.{is_known, units_of, total, sum_of}
use Rattle.group_sink.specs.Columns.{shown_sum}
use Rattle.group_sink.specs.Totals.{addend_of, total_by}
use Rattle.group_sink.specs.declared.line.Out.TheVariants as out
use Rattle.group_sink.specs.declared.totals.Addend.TheVariants.{One, Known, Units}

one_more : (n : ℕ) → pos 1 +ℤ pos n ≡ pos (suc n)
one_more n = omega (arith, ints)

none_more : (z : ℤ) → pos 0 +ℤ z ≡ z
none_more z = omega (arith, ints)

-- one for each value
pub total_by-One : (values : List Value) → total_by (addend_of One) values ≡ pos (length values)
total_by-One [] = refl
total_by-One (v ∷ values) = ap (λ (z : ℤ). pos 1 +ℤ z) (total_by-One values) ∙ one_more (length values)

-- one for each value that isn't null
pub total_by-Known : (values : List Value) → total_by (addend_of Known) values ≡ pos (length (filter is_known values))
total_by-Known [] = refl
total_by-Known (v ∷ values) = ap (λ (z : ℤ). addend_of Known v +ℤ z) (total_by-Known values) ∙ by (is_known v)
  where
    by : (b : Bool) → cond b (pos 1) (pos 0) +ℤ pos (length (filter is_known values)) ≡ pos (length (cond b (v ∷ filter is_known values) (filter is_known values)))
    by true = one_more (length (filter is_known values))
    by false = none_more (pos (length (filter is_known values)))

-- the units of each
pub total_by-Units : (values : List Value) → total_by (addend_of Units) values ≡ total (filter is_known values)
total_by-Units [] = refl
total_by-Units (v ∷ values) = ap (λ (z : ℤ). units_of v +ℤ z) (total_by-Units values) ∙ by v
  where
    by : (v : Value) → units_of v +ℤ total (filter is_known values) ≡ total (cond (is_known v) (v ∷ filter is_known values) (filter is_known values))
    by value.Null = none_more (total (filter is_known values))
    by (value.Int n) = refl
    by (value.Text t) = refl
    by (value.Decimal d) = refl

-- a sum, by how many are summed
pub shown_sum-is : (scale : ℕ) (values : List Value) → shown_sum (pos (length values)) (total values) scale ≡ sum_of scale values
shown_sum-is scale [] = refl
shown_sum-is scale (v ∷ values) =
    ap (λ (b : Bool). cond b out.Null (out.Number (total (v ∷ values)) scale)) (ne_eqb (suc (length values)) 0 (λ e. omega (arith, e)))

pub sum-is : (scale : ℕ) (values : List Value)
    → shown_sum (total_by (addend_of Known) values) (total_by (addend_of Units) values) scale ≡ sum_of scale (filter is_known values)
sum-is scale values =
    ap (λ (n : ℤ). shown_sum n (total_by (addend_of Units) values) scale) (total_by-Known values)
    ∙ ap (λ (z : ℤ). shown_sum (pos (length (filter is_known values))) z scale) (total_by-Units values)
    ∙ shown_sum-is scale (filter is_known values)
