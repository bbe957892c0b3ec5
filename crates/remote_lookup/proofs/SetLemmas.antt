-- What is in a set of keys after an insertion.
use Rattle.std.proofs.Common.{◌≡◌, ◌⊎◌, inl, inr, Bool, true, false, cond, List, [], ◌∷◌, refl, ap, sym, ◌∙◌, arith}
use Rattle.std.specs.Prelude.{◌&&◌, ◌||◌, ◌==◌, ℤ}
use Rattle.std.specs.List.{list_any, AllByRecursion}
use Rattle.std.specs.List.Sorted.{IsStrictlySortedBy}
use Rattle.std.specs.Ordering.{int_cmp, int_eq, nat_cmp, ordering_then, is_eq}
use Rattle.std.specs.Cmp.{signed_Decides, both_ways}
use Rattle.std.specs.declared.cmp.Ordering.{Ordering}
use Rattle.std.specs.declared.cmp.Ordering.TheVariants.{Less, Equal, Greater}
use Rattle.std.proofs.lemmas.Bool.{false≢true, eqb-true, eq-eqb}
use Rattle.std.proofs.lemmas.Bool.Decides.{nat_tests}
use Rattle.std.proofs.lemmas.Map.Lookups.{exact_signed, exact_unsigned}
use Rattle.std.proofs.lemmas.List.Elements.{All-nil, All-cons}
use Rattle.std.specs.Prelude.{All}
use Rattle.std.proofs.lemmas.List.Kept.{AllPairs-cons}
use Rattle.bag_meaning.proofs.SpanLemmas.{both}
use Rattle.bag_meaning.proofs.PairLemmas.{AllPairs-nil}
use Rattle.remote_lookup.specs.Asked.{IsKey, Grown}
use Rattle.remote_lookup.specs.Rounds.{key_order, AreOrdered, lists_key}
use Rattle.remote_lookup.specs.declared.remote.RemoteKey.{RemoteKey}

is_equal : (o : Ordering) → is_eq o ≡ true → o ≡ Equal
is_equal Less e = absurd (false≢true e)
is_equal Equal e = refl
is_equal Greater e = absurd (false≢true e)

tied : (a b : Ordering) → ordering_then a b ≡ Equal → (a ≡ Equal) × (b ≡ Equal)
tied Less b e = absurd cc
tied Equal b e = (refl, e)
tied Greater b e = absurd cc

int_tie : (a b : ℤ) → a ≡ b → int_cmp a b ≡ Equal
int_tie a b e = is_equal (int_cmp a b) ((signed_Decides a b).1 e)

-- two keys tie exactly where they are one
pub ties : (q j : RemoteKey) → is_eq (key_order q j) ≡ ((j.remote == q.remote) && int_eq j.key q.key)
ties q j = both_ways (is_eq (key_order q j)) ((j.remote == q.remote) && int_eq j.key q.key) to from
  where
    to : is_eq (key_order q j) ≡ true → ((j.remote == q.remote) && int_eq j.key q.key) ≡ true
    to e =
        let parts = tied (nat_cmp q.remote j.remote) (int_cmp q.key j.key) (is_equal (key_order q j) e) in
        let one : q.remote ≡ j.remote = exact_unsigned q.remote j.remote parts.0 in
        let two : q.key ≡ j.key = exact_signed q.key j.key parts.1 in
        ap (λ (b : Bool). b && int_eq j.key q.key) (eq-eqb j.remote q.remote (sym one)) ∙ (signed_Decides j.key q.key).1 (sym two)

    from : ((j.remote == q.remote) && int_eq j.key q.key) ≡ true → is_eq (key_order q j) ≡ true
    from e =
        let parts = both (j.remote == q.remote) (int_eq j.key q.key) e in
        let one : j.remote ≡ q.remote = eqb-true j.remote q.remote parts.0 in
        let two : j.key ≡ q.key = (signed_Decides j.key q.key).0 parts.1 in
        let tie : nat_cmp q.remote j.remote ≡ Equal = grind (arith, nat_tests) in
        ap (λ (o : Ordering). is_eq (ordering_then o (int_cmp q.key j.key))) tie ∙ ap is_eq (int_tie q.key j.key (sym two))

module _ (cmp : RemoteKey → RemoteKey → Ordering) (same : (a b : RemoteKey) → cmp a b ≡ key_order a b) where
  -- a set holds a key where it is in the list
  pub in_contained : (keys : List RemoteKey) (q : RemoteKey) → list_any (λ (j : RemoteKey). is_eq (cmp q j)) keys ≡ lists_key keys q.remote q.key
  in_contained [] q = refl
  in_contained (k ∷ keys) q =
      ap (λ (b : Bool). b || list_any (λ (j : RemoteKey). is_eq (cmp q j)) keys) (ap is_eq (same q k) ∙ ties q k)
      ∙ ap (λ (b : Bool). ((k.remote == q.remote) && int_eq k.key q.key) || b) (in_contained keys q)

  -- after an insertion there is one key more
  pub grown : (old new : List RemoteKey) (k : RemoteKey)
      → ((q : RemoteKey) → list_any (λ (j : RemoteKey). is_eq (cmp q j)) new ≡ cond (is_eq (cmp k q)) true (list_any (λ (j : RemoteKey). is_eq (cmp q j)) old))
      → Grown (IsKey k) old new
  grown old new k updates remote key = (to (is_eq (cmp k q)) refl, from)
    where
      q : RemoteKey
      q = record { remote = remote; key = key }

      now : lists_key new remote key ≡ cond (is_eq (cmp k q)) true (lists_key old remote key)
      now = sym (in_contained new q) ∙ updates q ∙ ap (λ (b : Bool). cond (is_eq (cmp k q)) true b) (in_contained old q)

      is_key : is_eq (cmp k q) ≡ true → IsKey k remote key
      is_key e =
          let parts = both (remote == k.remote) (int_eq key k.key) (sym (ties k q) ∙ sym (ap is_eq (same k q)) ∙ e) in
          (sym (eqb-true remote k.remote parts.0), sym ((signed_Decides key k.key).0 parts.1))

      key_is : IsKey k remote key → is_eq (cmp k q) ≡ true
      key_is e =
          ap is_eq (same k q) ∙ ties k q
          ∙ ap (λ (b : Bool). b && int_eq key k.key) (eq-eqb remote k.remote (sym e.0)) ∙ (signed_Decides key k.key).1 (sym e.1)

      to : (b : Bool) → is_eq (cmp k q) ≡ b → lists_key new remote key ≡ true → (lists_key old remote key ≡ true) ⊎ IsKey k remote key
      to true e h = inr (is_key e)
      to false e h = inl (sym (now ∙ ap (λ (b : Bool). cond b true (lists_key old remote key)) e) ∙ h)

      kept : (b : Bool) → lists_key old remote key ≡ true → cond b true (lists_key old remote key) ≡ true
      kept true h = refl
      kept false h = h

      from : (lists_key old remote key ≡ true) ⊎ IsKey k remote key → lists_key new remote key ≡ true
      from (inl h) = now ∙ kept (is_eq (cmp k q)) h
      from (inr e) = now ∙ ap (λ (b : Bool). cond b true (lists_key old remote key)) (key_is e)

  behind : (k : RemoteKey) (keys : List RemoteKey) → AllByRecursion (λ (y : RemoteKey). cmp k y ≡ Less) keys → All (λ (y : RemoteKey). key_order k y ≡ Less) keys
  behind k [] h = All-nil (λ (y : RemoteKey). key_order k y ≡ Less)
  behind k (j ∷ keys) h = All-cons (λ (y : RemoteKey). key_order k y ≡ Less) j keys (sym (same k j) ∙ h.0) (behind k keys h.1)

  -- what is sorted is in order
  pub ordered : (keys : List RemoteKey) → IsStrictlySortedBy cmp keys → AreOrdered keys
  unfolding IsStrictlySortedBy
  ordered [] h = AllPairs-nil (λ (a b : RemoteKey). key_order a b ≡ Less)
  ordered (k ∷ keys) h = AllPairs-cons (λ (a b : RemoteKey). key_order a b ≡ Less) k keys (behind k keys h.0) (ordered keys h.1)
