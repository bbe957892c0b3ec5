-- The picked values of groups, one value more in front.
use Rattle.std.proofs.Common.{◌≡◌, ◌⊎◌, inl, inr, ℕ, zero, suc, ◌<◌, ◌≤◌, Bool, true, false, cond, filter, List, [], ◌∷◌, length, get_or, set, drop, map, refl, ap, sym, ◌∙◌, arith}
use Rattle.std.specs.Prelude.{◌==◌, Option, None, if◌then◌else◌}
use Rattle.std.specs.Borrow.{Bor}
use Rattle.std.specs.Ordering.{is_gt}
use Rattle.std.proofs.lemmas.Bool.{cases_order, eq-eqb, ne_eqb}
use Rattle.std.proofs.lemmas.List.{get_or-set_same, get_or-set_other, length-set}
use Rattle.sq_value.specs.Order.{sorted_by}
use Rattle.sq_value.specs.declared.value.Value.{Value}
use Rattle.sq_value.specs.declared.value.Value.TheVariants as value
use Rattle.sq_value.specs.declared.value.SortWay.{SortWay}
use Rattle.group_sink.specs.Cells.{first_by, is_known, leading}
use Rattle.group_sink.specs.Picked.{picked}
use Rattle.group_sink.specs.Picks.{seen, sooner, picked_of, pick_of}
use Rattle.group_sink.specs.declared.picks.Pick.{Pick}
use Rattle.group_sink.specs.declared.picks.Pick.TheVariants as pick
use Rattle.group_sink.proofs.PickedLemmas.{picked-more}

pub mapped_at : (xs : List (Option (Bor Value))) (k : ℕ) → k < length xs → get_or (map seen xs) k value.Null ≡ seen (get_or xs k None)
mapped_at [] k low = absurd (omega arith)
mapped_at (x ∷ xs) zero low = refl
mapped_at (x ∷ xs) (suc k) low = mapped_at xs k (omega arith)

pick-more : (which : Pick) (group : ℕ) (gs : List ℕ) (vs : List Value) (k : ℕ) → k < length gs → length gs ≡ length vs
    → pick_of which (picked group (drop k gs) (drop k vs))
    ≡ cond (get_or gs k 0 == group) (picked_of which (get_or vs k value.Null) (pick_of which (picked group (drop (suc k) gs) (drop (suc k) vs)))) (pick_of which (picked group (drop (suc k) gs) (drop (suc k) vs)))
pick-more which group gs vs k low same = ap (pick_of which) (picked-more group gs vs k value.Null low same) ∙ by (get_or gs k 0 == group)
  where
    rest : List Value
    rest = picked group (drop (suc k) gs) (drop (suc k) vs)

    by : (b : Bool) → pick_of which (cond b (get_or vs k value.Null ∷ rest) rest) ≡ cond b (picked_of which (get_or vs k value.Null) (pick_of which rest)) (pick_of which rest)
    by true = refl
    by false = refl

pub record IsPicked (which : Pick) (count : ℕ) (gs : List ℕ) (vs : List Value) (k : ℕ) (best : List (Option (Bor Value))) : Type 0 where
  pub long : length best ≡ count
  pub within : k ≤ length gs
  pub each : (group : ℕ) → group < count → seen (get_or best group None) ≡ pick_of which (picked group (drop k gs) (drop k vs))

pub pick_step : (which : Pick) (count : ℕ) (gs : List ℕ) (vs : List Value) (n k : ℕ) (best : List (Option (Bor Value))) (r : Option (Bor Value))
    → n ≡ suc k → IsPicked which count gs vs n best → length gs ≡ length vs → get_or gs k 0 < length best
    → seen r ≡ picked_of which (get_or vs k value.Null) (seen (get_or best (get_or gs k 0) None))
    → IsPicked which count gs vs k (set best (get_or gs k 0) r)
pick_step which count gs vs n k best r next h same in' is = record {
  long = length-set best g r ∙ h.long;
  within = omega (arith, h.within, next);
  each = λ group below. by group below (cases_order g group) ∙ sym (pick-more which group gs vs k low same);
}
  where
    g : ℕ
    g = get_or gs k 0

    low : k < length gs
    low = omega (arith, h.within, next)

    Later : ℕ → Value
    Later group = pick_of which (picked group (drop (suc k) gs) (drop (suc k) vs))

    known : (group : ℕ) → group < count → seen (get_or best group None) ≡ Later group
    known group below = h.each group below ∙ ap (λ (m : ℕ). pick_of which (picked group (drop m gs) (drop m vs))) next

    by : (group : ℕ) → group < count → (g ≡ group) ⊎ ((g < group) ⊎ (group < g))
        → seen (get_or (set best g r) group None) ≡ cond (g == group) (picked_of which (get_or vs k value.Null) (Later group)) (Later group)
    by group below (inl e) =
        ap (λ (m : ℕ). seen (get_or (set best g r) m None)) (sym e)
        ∙ ap seen (get_or-set_same best g r None in')
        ∙ is
        ∙ ap (λ (m : ℕ). picked_of which (get_or vs k value.Null) (seen (get_or best m None))) e
        ∙ ap (picked_of which (get_or vs k value.Null)) (known group below)
        ∙ sym (ap (λ (b : Bool). cond b (picked_of which (get_or vs k value.Null) (Later group)) (Later group)) (eq-eqb g group e))
    by group below (inr other) =
        let differ : group ≡ g → ⊥ = λ e. apart group other e in
        ap seen (get_or-set_other best g group r None differ)
        ∙ known group below
        ∙ sym (ap (λ (b : Bool). cond b (picked_of which (get_or vs k value.Null) (Later group)) (Later group)) (ne_eqb g group (λ e. differ (sym e))))
      where
        apart : (group : ℕ) → ((g < group) ⊎ (group < g)) → group ≡ g → ⊥
        apart group (inl low') e = omega arith
        apart group (inr high) e = omega arith

-- the first is the leading one
pub pick_of-First : (values : List Value) → pick_of pick.First values ≡ leading values
pick_of-First [] = refl
pick_of-First (v ∷ values) = refl

-- where nulls come last, the one that comes first is that of those that aren't null
module _ (way : SortWay) (last : way.nulls_first ≡ false) where
  null_last : (v : Value) → (if is_gt (sorted_by way value.Null v) then v else value.Null) ≡ v
  null_last value.Null = refl
  null_last (value.Int n) = rw last refl
  null_last (value.Text t) = rw last refl
  null_last (value.Decimal d) = rw last refl

  pub pick_of-By : (values : List Value) → pick_of (pick.By way) values ≡ first_by way (filter is_known values)
  pick_of-By [] = refl
  pick_of-By (value.Null ∷ values) = null_last (pick_of (pick.By way) values) ∙ pick_of-By values
  pick_of-By (value.Int n ∷ values) = ap (λ (v : Value). sooner way (value.Int n) v) (pick_of-By values)
  pick_of-By (value.Text t ∷ values) = ap (λ (v : Value). sooner way (value.Text t) v) (pick_of-By values)
  pick_of-By (value.Decimal d ∷ values) = ap (λ (v : Value). sooner way (value.Decimal d) v) (pick_of-By values)
