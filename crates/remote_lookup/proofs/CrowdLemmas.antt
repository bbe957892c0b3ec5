-- How many keys of a remote are asked for: those that are loaded, and the fresh ones.
use Rattle.std.proofs.Common.{◌≡◌, ℕ, ◌+◌, Bool, true, false, cond, List, [], ◌∷◌, length, refl, ap, sym, ◌∙◌, arith}
use Rattle.std.specs.Prelude.{◌==◌, ℤ, not, filter}
use Rattle.std.specs.declared.cmp.Ordering.TheVariants.{Less}
use Rattle.std.proofs.lemmas.List.{length-map}
use Rattle.std.proofs.lemmas.List.Elements.{All-contains, filter_passes}
use Rattle.std.proofs.lemmas.List.Kept.{AllPairs-filter}
use Rattle.bag_meaning.proofs.PairLemmas.{same_rising_lists}
use Rattle.eddy_meaning.proofs.MatchLemmas.{Contains-filter}
use Rattle.remote_lookup.specs.Filled.{keys_at}
use Rattle.remote_lookup.specs.Rounds.{key_order, AreOrdered, lists_key}
use Rattle.remote_lookup.specs.declared.remote.RemoteKey.{RemoteKey}
use Rattle.remote_lookup.proofs.RoundLemmas.{never_both, held_is_in, is_in_held}

-- the keys of a remote, by a test and by its opposite
halves : (p : RemoteKey → Bool) (xs : List RemoteKey) (r : ℕ)
    → length (filter (λ (k : RemoteKey). k.remote == r) xs)
    ≡ length (filter (λ (k : RemoteKey). k.remote == r) (filter p xs)) + length (filter (λ (k : RemoteKey). k.remote == r) (filter (λ (k : RemoteKey). not (p k)) xs))
halves p [] r = refl
halves p (k ∷ xs) r = by (p k) (k.remote == r) refl (halves p xs r)
  where
    mine : List RemoteKey → ℕ
    mine l = length (filter (λ (j : RemoteKey). j.remote == r) l)

    more : (c : Bool) (l : List RemoteKey) → (k.remote == r) ≡ c → mine (k ∷ l) ≡ cond c 1 0 + mine l
    more true l e = ap (λ (b : Bool). length (cond b (k ∷ filter (λ (j : RemoteKey). j.remote == r) l) (filter (λ (j : RemoteKey). j.remote == r) l))) e ∙ omega arith
    more false l e = ap (λ (b : Bool). length (cond b (k ∷ filter (λ (j : RemoteKey). j.remote == r) l) (filter (λ (j : RemoteKey). j.remote == r) l))) e ∙ omega arith

    by : (b c : Bool) → (k.remote == r) ≡ c → mine xs ≡ mine (filter p xs) + mine (filter (λ (j : RemoteKey). not (p j)) xs)
        → mine (k ∷ xs) ≡ mine (cond b (k ∷ filter p xs) (filter p xs)) + mine (cond (not b) (k ∷ filter (λ (j : RemoteKey). not (p j)) xs) (filter (λ (j : RemoteKey). not (p j)) xs))
    by true c e again = omega (arith, more c xs e, more c (filter p xs) e, again)
    by false c e again = omega (arith, more c xs e, more c (filter (λ (j : RemoteKey). not (p j)) xs) e, again)

module _ (known next : List RemoteKey) (up : AreOrdered known) (rise : AreOrdered next)
    (held : (remote : ℕ) (key : ℤ) → lists_key known remote key ≡ true → lists_key next remote key ≡ true) where
  -- the known keys among those that are asked for
  pub kept : filter (λ (k : RemoteKey). lists_key known k.remote k.key) next ≡ known
  kept =
      same_rising_lists (λ (a b : RemoteKey). key_order a b ≡ Less) never_both (filter (λ (k : RemoteKey). lists_key known k.remote k.key) next) known
      (AllPairs-filter (λ (a b : RemoteKey). key_order a b ≡ Less) (λ (k : RemoteKey). lists_key known k.remote k.key) next rise) up
      (λ z in'. is_in_held known z (All-contains (λ (k : RemoteKey). lists_key known k.remote k.key ≡ true) (filter (λ (k : RemoteKey). lists_key known k.remote k.key) next) z (filter_passes (λ (k : RemoteKey). lists_key known k.remote k.key) next) in'))
      (λ z in'. Contains-filter (λ (k : RemoteKey). lists_key known k.remote k.key) next z (held_is_in known z in') (is_in_held next z (held z.remote z.key (held_is_in known z in'))))

  -- so there are as many of a remote as are known and fresh
  pub counted : (r : ℕ) → length (keys_at next r)
      ≡ length (keys_at known r) + length (filter (λ (k : RemoteKey). k.remote == r) (filter (λ (k : RemoteKey). not (lists_key known k.remote k.key)) next))
  counted r =
      length-map (filter (λ (k : RemoteKey). k.remote == r) next) (λ (k : RemoteKey). k.key)
      ∙ halves (λ (k : RemoteKey). lists_key known k.remote k.key) next r
      ∙ ap (λ (l : List RemoteKey). length (filter (λ (k : RemoteKey). k.remote == r) l) + length (filter (λ (k : RemoteKey). k.remote == r) (filter (λ (k : RemoteKey). not (lists_key known k.remote k.key)) next))) kept
      ∙ ap (λ (n : ℕ). n + length (filter (λ (k : RemoteKey). k.remote == r) (filter (λ (k : RemoteKey). not (lists_key known k.remote k.key)) next)))
      (sym (length-map (filter (λ (k : RemoteKey). k.remote == r) known) (λ (k : RemoteKey). k.key)))
