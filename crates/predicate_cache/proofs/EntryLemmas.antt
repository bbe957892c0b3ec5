-- The kept answers before and after a call.
use Rattle.std.proofs.Common.{◌≡◌, ℕ, zero, suc, ◌-◌, ◌<◌, true, false, cond, List, [], ◌∷◌, take, Some, None, refl, sym, ap, ◌∙◌, arith}
use Rattle.std.specs.Map.{lookup, lookup_entry, remove_entry}
use Rattle.std.proofs.lemmas.List.Elements.{All-cons, All-head, All-tail, All-take}
use Rattle.sq_value.specs.declared.value.Value.{Value}
use Rattle.sq_value.specs.declared.value.Truth.{Truth}
use Rattle.predicate_cache.specs.Calls.{given, is_key}
use Rattle.predicate_cache.specs.Kept.{AreGiven}
use Rattle.predicate_cache.specs.declared.call_key.CallKey.{CallKey}
use Rattle.predicate_cache.proofs.KeyLemmas.{is_key-same}

module _ (gives : ℕ → Value → Value → Truth) (key : CallKey) where
  abbrev IsGiven : CallKey × Truth → Type 0
  IsGiven e = e.1 ≡ given gives e.0

  -- an answer that is found is what the predicates give
  pub given-lookup : (es : List (CallKey × Truth)) (t : Truth) → AreGiven gives es → lookup (is_key key) es ≡ Some t → t ≡ given gives key
  given-lookup [] t h found = cc
  given-lookup (e ∷ es) t h found = (elim (is_key key e.0) as (λ b. is_key key e.0 ≡ b → cond b (Some e.1) (lookup (is_key key) es) ≡ Some t → t ≡ given gives key) [
    | true ↦ λ same found. let one = is_key-same key e.0 same in let is : e.1 ≡ t = cc in sym is ∙ All-head IsGiven e es h ∙ ap (given gives) (sym one)
    | false ↦ λ other found. given-lookup es t (All-tail IsGiven e es h) found
  ]) refl found

  -- and its entry is the key with that answer
  pub entry-lookup : (es : List (CallKey × Truth)) (t : Truth) → AreGiven gives es → lookup (is_key key) es ≡ Some t
      → lookup_entry (is_key key) es ≡ Some (key, given gives key)
  entry-lookup [] t h found = cc
  entry-lookup (e ∷ es) t h found = (elim (is_key key e.0) as (λ b. is_key key e.0 ≡ b → cond b (Some e.1) (lookup (is_key key) es) ≡ Some t → cond b (Some e) (lookup_entry (is_key key) es) ≡ Some (key, given gives key)) [
    | true ↦ λ same found. let one = is_key-same key e.0 same in let is : e.1 ≡ given gives key = All-head IsGiven e es h ∙ ap (given gives) (sym one) in ap Some (pair one is)
    | false ↦ λ other found. entry-lookup es t (All-tail IsGiven e es h) found
  ]) refl found
    where
      pair : key ≡ e.0 → e.1 ≡ given gives key → e ≡ (key, given gives key)
      pair one is = ap (λ (k : CallKey). (k, e.1)) (sym one) ∙ ap (λ (t : Truth). (key, t)) is

  pub entry-none : (es : List (CallKey × Truth)) → lookup (is_key key) es ≡ None → lookup_entry (is_key key) es ≡ None
  entry-none [] h = refl
  entry-none (e ∷ es) h = (elim (is_key key e.0) as (λ b. cond b (Some e.1) (lookup (is_key key) es) ≡ None → cond b (Some e) (lookup_entry (is_key key) es) ≡ None) [
    | true ↦ λ found. cc
    | false ↦ λ found. entry-none es found
  ]) h

  -- what stays of true answers is true
  pub AreGiven-remove_entry : (es : List (CallKey × Truth)) → AreGiven gives es → AreGiven gives (remove_entry (is_key key) es)
  AreGiven-remove_entry [] h = h
  AreGiven-remove_entry (e ∷ es) h = elim (is_key key e.0) as (λ b. AreGiven gives (cond b es (e ∷ remove_entry (is_key key) es))) [
    | true ↦ All-tail IsGiven e es h
    | false ↦ All-cons IsGiven e (remove_entry (is_key key) es) (All-head IsGiven e es h) (AreGiven-remove_entry es (All-tail IsGiven e es h))
  ]

  pub AreGiven-first : (es : List (CallKey × Truth)) → AreGiven gives es → AreGiven gives ((key, given gives key) ∷ es)
  AreGiven-first es h = All-cons IsGiven (key, given gives key) es refl h

  pub AreGiven-take : (n : ℕ) (es : List (CallKey × Truth)) → AreGiven gives es → AreGiven gives (take n es)
  AreGiven-take n es h = All-take IsGiven n es h

-- the first of a list with one more in front
pub take-first : {X : Type 0} (n : ℕ) (x : X) (xs : List X) → 0 < n → x ∷ take (n - 1) xs ≡ take n (x ∷ xs)
take-first zero x xs some = absurd (omega arith)
take-first (suc n) x xs some = let e : suc n - 1 ≡ n = omega arith in ap (λ (k : ℕ). x ∷ take k xs) e
