-- The types of columns, from what was learned of all their fields.
use Rattle.std.proofs.Common.{◌≡◌, ℕ, zero, suc, ◌+◌, Bool, true, false, List, [], ◌∷◌, length, drop, fold, Option, Some, None, cond, refl, sym, ap, ◌∙◌, inl, inr, rules, add-one}
use Rattle.std.specs.Prelude.{◌⊎◌, not, ◌&&◌, ◌||◌, replicate, slice_get, unwrap_or, if◌then◌else◌}
use Rattle.std.specs.List.{list_all, list_any}
use Rattle.sq_value.specs.declared.value.ColType.{ColType}
use Rattle.sq_value.specs.declared.value.ColType.TheVariants as kind
use Rattle.table_csv.specs.declared.types.Seen.{Seen}
use Rattle.table_csv.specs.declared.types.Seen.TheVariants as seen
use Rattle.table_csv.specs.Fields.{is_null_field}
use Rattle.std.proofs.Math.Seq.{drop-nil}
use Rattle.sq_value.specs.declared.table.Column.{Column}
use Rattle.table_csv.specs.Marks.{column_name, marked_kind}
use Rattle.table_csv.specs.Heading.{column_fields, columns_from, is_canonical, type_of_column, type_of_fields}
use Rattle.table_csv.specs.Work.{all_learned, column_of_head, completed, head_of, heads_from, learned, type_of}

-- whether a field is empty or a canonical integer, and whether it isn't empty
abbrev fits : List ℕ → Bool
fits field = is_null_field field || is_canonical field

abbrev some : List ℕ → Bool
some field = not (is_null_field field)

-- what is known after fields, from what was known before them
abbrev known : Seen → List (List ℕ) → Seen
known seen.Other fields = seen.Other
known seen.Integers fields = if list_all fits fields then seen.Integers else seen.Other
known seen.Nulls fields = if list_all fits fields then (if list_any some fields then seen.Integers else seen.Nulls) else seen.Other

fold-known : (s : Seen) (fields : List (List ℕ)) → fold learned s fields ≡ known s fields
fold-known seen.Other [] = refl
fold-known seen.Integers [] = refl
fold-known seen.Nulls [] = refl
fold-known seen.Other (f ∷ fs) = fold-known seen.Other fs
fold-known seen.Integers (f ∷ fs) = by (fits f) (λ s. fold-known s fs)
  where
    by : (b : Bool) → ((s : Seen) → fold learned s fs ≡ known s fs)
        → fold learned (cond b seen.Integers seen.Other) fs ≡ cond (b && list_all fits fs) seen.Integers seen.Other
    by true more = more seen.Integers
    by false more = more seen.Other
fold-known seen.Nulls (f ∷ fs) = by (is_null_field f) (is_canonical f) (λ s. fold-known s fs)
  where
    by : (n k : Bool) → ((s : Seen) → fold learned s fs ≡ known s fs)
        → fold learned (cond n seen.Nulls (cond k seen.Integers seen.Other)) fs
        ≡ cond ((n || k) && list_all fits fs) (cond (not n || list_any some fs) seen.Integers seen.Nulls) seen.Other
    by true k more = more seen.Nulls
    by false true more = more seen.Integers
    by false false more = more seen.Other

-- the type that is known after all fields is that of the fields
pub type-known : (fields : List (List ℕ)) → type_of (fold learned seen.Nulls fields) ≡ type_of_fields fields
type-known fields = ap type_of (fold-known seen.Nulls fields) ∙ by (list_all fits fields) (list_any some fields)
  where
    by : (a n : Bool) → type_of (cond a (cond n seen.Integers seen.Nulls) seen.Other) ≡ cond (n && a) kind.Integer kind.Text
    by true true = refl
    by true false = refl
    by false true = refl
    by false false = refl

-- what is known of each of some columns, whose places go on from one
learned_columns : ℕ → List Seen → List (List (List ℕ)) → List Seen
learned_columns place [] records = []
learned_columns place (s ∷ ss) records = fold learned s (column_fields place records) ∷ learned_columns (place + 1) ss records

columns-none : (place : ℕ) (ss : List Seen) → learned_columns place ss [] ≡ ss
unfolding learned_columns
columns-none place [] = refl
columns-none place (s ∷ ss) = ap (λ (rest : List Seen). s ∷ rest) (columns-none (place + 1) ss)

all_learned-none : (ss : List Seen) → all_learned ss [] ≡ ss
unfolding all_learned
all_learned-none [] = refl
all_learned-none (s ∷ ss) = refl

-- a record has a field at a place, or none from it on
AtPlace : List (List ℕ) → ℕ → Type 0
AtPlace r place =
    ((slice_get r place ≡ None) × (drop place r ≡ []) × (drop (place + 1) r ≡ []))
    ⊎ ((f : List ℕ) × (slice_get r place ≡ Some f) × (drop place r ≡ f ∷ drop (place + 1) r))

at_place : (r : List (List ℕ)) (place : ℕ) → AtPlace r place
unfolding AtPlace
at_place [] place = inl (slice_get-nil place, drop-nil place, drop-nil (place + 1))
  where
    slice_get-nil : (n : ℕ) → ◌≡◌ {A = Option (List ℕ)} (slice_get [] n) None
    slice_get-nil n = search rules
at_place (f ∷ fs) zero = inr (f, refl, refl)
at_place (f ∷ fs) (suc place) = by (at_place fs place)
  where
    by : AtPlace fs place → AtPlace (f ∷ fs) (suc place)
    by (inl h) = inl (h.0, h.1, rw (add-one (suc place)) (ap (λ n. drop n fs) (sym (add-one place)) ∙ h.2))
    by (inr h) = inr (h.0, h.1, h.2 ∙ rw (add-one place, add-one (suc place)) refl)

-- one record more
columns-more : (place : ℕ) (ss : List Seen) (r : List (List ℕ)) (rs : List (List (List ℕ)))
    → learned_columns place (all_learned ss (drop place r)) rs ≡ learned_columns place ss (r ∷ rs)
unfolding learned_columns all_learned AtPlace
columns-more place [] r rs = refl
columns-more place (s ∷ ss) r rs = by (at_place r place) (columns-more (place + 1) ss r rs)
  where
    by : AtPlace r place → learned_columns (place + 1) (all_learned ss (drop (place + 1) r)) rs ≡ learned_columns (place + 1) ss (r ∷ rs)
        → learned_columns place (all_learned (s ∷ ss) (drop place r)) rs ≡ learned_columns place (s ∷ ss) (r ∷ rs)
    by (inl h) more =
        let tail : learned_columns (place + 1) ss rs ≡ learned_columns (place + 1) ss (r ∷ rs) =
        ap (λ (t : List Seen). learned_columns (place + 1) t rs) (sym (ap (all_learned ss) h.2 ∙ all_learned-none ss)) ∙ more in
        rw (h.1, h.0) (ap (λ (rest : List Seen). fold learned s (column_fields place rs) ∷ rest) tail)
    by (inr h) more = rw (h.2, h.1) (ap (λ (rest : List Seen). fold learned (learned s h.0) (column_fields place rs) ∷ rest) more)

-- what is learned of all columns is what is learned of each
fold-columns : (ss : List Seen) (records : List (List (List ℕ))) → fold all_learned ss records ≡ learned_columns 0 ss records
fold-columns ss [] = sym (columns-none 0 ss)
fold-columns ss (r ∷ rs) = fold-columns (all_learned ss r) rs ∙ columns-more 0 ss r rs

-- the columns of heads are those of the heading
completed-columns : (place : ℕ) (fs : List (List ℕ)) (records : List (List (List ℕ)))
    → completed (heads_from (place + 1) fs) (learned_columns place (replicate (length fs) seen.Nulls) records) ≡ columns_from place fs records
unfolding completed heads_from learned_columns columns_from
completed-columns place [] records = refl
completed-columns place (f ∷ fs) records =
    ap (λ (rest : List Column). column_of_head (head_of (place + 1) f) (fold learned seen.Nulls (column_fields place records)) ∷ rest)
    (completed-columns (place + 1) fs records)
    ∙ ap (λ k. record { name = column_name (place + 1) f; kind = k } ∷ columns_from (place + 1) fs records) (by (marked_kind f))
  where
    by : (m : Option ColType) → unwrap_or m (type_of (fold learned seen.Nulls (column_fields place records))) ≡ type_of_column place f records m
    by (Some k) = refl
    by None = type-known (column_fields place records)

-- the columns that both passes over a heading's fields give
pub columns-learned : (fs : List (List ℕ)) (records : List (List (List ℕ)))
    → completed (heads_from 1 fs) (fold all_learned (replicate (length fs) seen.Nulls) records) ≡ columns_from 0 fs records
columns-learned fs records =
    ap (completed (heads_from 1 fs)) (fold-columns (replicate (length fs) seen.Nulls) records) ∙ completed-columns 0 fs records
