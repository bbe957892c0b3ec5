-- What is prepared of conjuncts, one more at a time.
use Rattle.std.proofs.Common.{◌≡◌, ℕ, zero, suc, ◌⊎◌, inl, inr, ⊎_elim, ◌<◌, List, [], ◌∷◌, ◌++◌, length, get_or, Some, None, refl, ap, sym, subst, ◌∙◌}
use Rattle.std.specs.Prelude.{slice_get}
use Rattle.std.proofs.lemmas.Option.{same_Some, slice_get-get_or}
use Rattle.sq_expr.specs.declared.block.Conjunct.{Conjunct}
use Rattle.sq_expr.specs.declared.prepared.Prepared.{Prepared}
use Rattle.sq_expr.specs.Prepared.{IsPrepared, ArePrepared}

-- an element of a list with one more
pushed_cases : {X : Type 0} (xs : List X) (x : X) (p : ℕ) (y : X) → slice_get (xs ++ x ∷ []) p ≡ Some y
    → (slice_get xs p ≡ Some y) ⊎ ((p ≡ length xs) × (x ≡ y))
pushed_cases [] x zero y e = inr (refl, same_Some x y e)
pushed_cases [] x (suc p) y e = absurd cc
pushed_cases (z ∷ xs) x zero y e = inl e
pushed_cases (z ∷ xs) x (suc p) y e =
    ⊎_elim (λ old. inl old) (λ new. inr (ap suc new.0, new.1)) (pushed_cases xs x p y e)

-- one more conjunct is prepared
pub prepared_more : (cs : List Conjunct) (xs : List Prepared) (o : Prepared) (c : Conjunct)
    → slice_get cs (length xs) ≡ Some c → IsPrepared c.cond o → ArePrepared cs xs → ArePrepared cs (xs ++ o ∷ [])
prepared_more cs xs o c here fits so_far p d x at is =
    ⊎_elim (λ old. so_far p d x at old) (λ new. last new.0 new.1) (pushed_cases xs o p x is)
  where
    last : p ≡ length xs → o ≡ x → IsPrepared d.cond x
    last place same =
        let read : c ≡ d = same_Some c d (sym here ∙ ap (slice_get cs) (sym place) ∙ at) in
        subst (λ (e : Conjunct). IsPrepared e.cond x) read (subst (IsPrepared c.cond) same fits)

-- nothing is prepared yet
pub prepared_none : (cs : List Conjunct) (xs : List Prepared) → xs ≡ [] → ArePrepared cs xs
prepared_none cs xs none p c x at is = absurd (impossible (sym (ap (λ (l : List Prepared). slice_get l p) none) ∙ is))
  where
    impossible : None ≡ Some x → ⊥
    impossible e = absurd cc

-- what is read at a place, and what is prepared of it
pub conjunct_read : (cs slice : List Conjunct) (p : ℕ) (c : Conjunct) → slice ≡ cs → p < length cs → c ≡ get_or slice p c → slice_get cs p ≡ Some c
conjunct_read cs slice p c same low is =
    slice_get-get_or cs p c low ∙ ap (λ (d : Conjunct). Some d) (sym (is ∙ ap (λ (l : List Conjunct). get_or l p c) same))

pub prepared_read : (cs items : List Conjunct) (xs slice : List Prepared) (p : ℕ) (c : Conjunct) (x : Prepared)
    → items ≡ cs → slice ≡ xs → ArePrepared items xs → slice_get cs p ≡ Some c → slice_get slice p ≡ Some x → IsPrepared c.cond x
prepared_read cs items xs slice p c x seen same are at told =
    are p c x (ap (λ (l : List Conjunct). slice_get l p) seen ∙ at) (ap (λ (l : List Prepared). slice_get l p) (sym same) ∙ told)
