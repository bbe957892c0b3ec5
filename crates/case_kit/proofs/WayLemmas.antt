-- Accesses, taken one after another.
use Rattle.std.proofs.Common.{◌≡◌, inl, inr, ℕ, ◌+◌, ◌<◌, ◌≤◌, ◌⊎◌, List, get_or, Some, slice_get, sym, subst, arith}
use Rattle.std.proofs.lemmas.Bool.{cases_lt}
use Rattle.std.proofs.lemmas.Option.{get_or_from_slice_get}
use Rattle.sq_value.specs.Relation.{Relation}
use Rattle.sq_expr.specs.Fits.{FitsAlias}
use Rattle.sq_expr.specs.declared.block.Access.{Access}

abbrev pub FitsAt : List Relation → ℕ → Access → Type 0
FitsAt tables place one = FitsAlias tables record { table = place; access = one }

-- accesses that fit before a place, and the one there
pub next_fits : (tables : List Relation) (accesses : List Access) (i : ℕ) (d : Access)
    → FitsAt tables i (get_or accesses i d)
    → ((place : ℕ) (one : Access) → place < i → slice_get accesses place ≡ Some one → FitsAt tables place one)
    → (place : ℕ) (one : Access) → place < i + 1 → slice_get accesses place ≡ Some one → FitsAt tables place one
next_fits tables accesses i d here before place one below at = by (cases_lt place i)
  where
    by : (place < i) ⊎ (i ≤ place) → FitsAt tables place one
    by (inl h) = before place one h at
    by (inr h) =
        let same : i ≡ place = omega arith in
        subst (λ (k : ℕ). FitsAt tables k one) same
        (subst (FitsAt tables i) (get_or_from_slice_get accesses i one d (subst (λ (k : ℕ). slice_get accesses k ≡ Some one) (sym same) at)) here)
