-- What comes of the rounds is one, and where it is a set of keys, these are the needed ones.
use Rattle.std.proofs.Common.{◌≡◌, ◌≢◌, ◌⊎◌, inl, inr, ℕ, Bool, true, false, cond, List, [], ◌∷◌, length, get_or, Option, Some, None, refl, ap, sym, ◌∙◌, arith, subst}
use Rattle.std.specs.Prelude.{◌&&◌, ◌||◌, ◌==◌, not, ℤ, map, filter, AllPairs, Contains, Result, Ok, Err}
use Rattle.std.specs.Ordering.{int_cmp, int_eq, nat_cmp, ordering_then, ordering_reverse}
use Rattle.std.specs.Cmp.{signed_Decides, IsTotalOrder}
use Rattle.std.specs.declared.cmp.Ordering.{Ordering}
use Rattle.std.specs.declared.cmp.Ordering.TheVariants.{Less, Equal, Greater}
use Rattle.std.proofs.lemmas.Bool.{false≢true, eqb-true, eq-eqb}
use Rattle.std.proofs.lemmas.Bool.Decides.{nat_tests}
use Rattle.std.proofs.lemmas.Cmp.{int_cmp_total, on_total, then_total, nat_cmp_total}
use Rattle.std.proofs.lemmas.List.Elements.{All-filter, filter_passes, All-map}
use Rattle.std.proofs.lemmas.List.Kept.{AllPairs-cons}
use Rattle.sq_value.specs.Relation.{Relation}
use Rattle.sq_value.specs.declared.value.Value.{Value}
use Rattle.sq_value.specs.declared.value.Truth.{Truth}
use Rattle.sq_expr.specs.declared.block.Block.{Block}
use Rattle.bag_meaning.proofs.SpanLemmas.{both}
use Rattle.bag_meaning.proofs.PairLemmas.{AllPairs-nil, AllPairs-head, AllPairs-tail, same_rising_lists}
use Rattle.eddy_meaning.proofs.MatchLemmas.{Contains-here, Contains-there, Contains-nil, Contains-cons_cases}
use Rattle.remote_lookup.specs.Filled.{remote_of, keys_at, KeysRise}
use Rattle.remote_lookup.specs.Needed.{HasRowOf, IsAskedFor, IsNeeded, AreNeeded}
use Rattle.remote_lookup.specs.Rounds.{key_order, AreOrdered, lists_key, Cause, rows_of_file, first_fault, crowded, AreAskedBy, Comes, Ends, Crowds, Breaks, Goes}
use Rattle.remote_lookup.specs.declared.remote.Remote.{Remote}
use Rattle.remote_lookup.specs.declared.remote.RemoteKey.{RemoteKey}
use Rattle.remote_lookup.specs.declared.remote.RemoteFault.{RemoteFault}
use Rattle.remote_lookup.specs.declared.remote.RemoteFault.TheVariants as fault

-- a key is in a list exactly where it stands among its remote's
pub lists_key-Contains : (keys : List RemoteKey) (remote : ℕ) (key : ℤ) → lists_key keys remote key ≡ true → Contains (keys_at keys remote) key
lists_key-Contains [] remote key h = absurd (false≢true h)
lists_key-Contains (k ∷ keys) remote key h = by (k.remote == remote) (int_eq k.key key) refl h (lists_key-Contains keys remote key)
  where
    rest : List ℤ
    rest = keys_at keys remote

    by : (a b : Bool) → int_eq k.key key ≡ b → ((a && b) || lists_key keys remote key) ≡ true → (lists_key keys remote key ≡ true → Contains (keys_at keys remote) key)
        → Contains (map (λ (j : RemoteKey). j.key) (cond a (k ∷ filter (λ (j : RemoteKey). j.remote == remote) keys) (filter (λ (j : RemoteKey). j.remote == remote) keys))) key
    by true true e d again = subst (λ (i : ℤ). Contains (k.key ∷ keys_at keys remote) i) ((signed_Decides k.key key).0 e) (Contains-here k.key (keys_at keys remote))
    by true false e d again = Contains-there key k.key (keys_at keys remote) (again d)
    by false b e d again = again d

pub Contains-lists_key : (keys : List RemoteKey) (remote : ℕ) (key : ℤ) → Contains (keys_at keys remote) key → lists_key keys remote key ≡ true
Contains-lists_key [] remote key h = absurd (Contains-nil key h)
Contains-lists_key (k ∷ keys) remote key h = by (k.remote == remote) h (Contains-lists_key keys remote key)
  where
    one : (b : Bool) → int_eq k.key key ≡ b → (k.key ≡ key) ⊎ Contains (keys_at keys remote) key → (Contains (keys_at keys remote) key → lists_key keys remote key ≡ true)
        → (b || lists_key keys remote key) ≡ true
    one true e d again = refl
    one false e (inl same) again = absurd (false≢true (sym e ∙ (signed_Decides k.key key).1 same))
    one false e (inr d) again = again d

    by : (a : Bool) → Contains (map (λ (j : RemoteKey). j.key) (cond a (k ∷ filter (λ (j : RemoteKey). j.remote == remote) keys) (filter (λ (j : RemoteKey). j.remote == remote) keys))) key
        → (Contains (keys_at keys remote) key → lists_key keys remote key ≡ true) → ((a && int_eq k.key key) || lists_key keys remote key) ≡ true
    by true d again = one (int_eq k.key key) refl (Contains-cons_cases key k.key (keys_at keys remote) d) again
    by false d again = again d

-- the keys of one remote of an ordered list rise
pub KeysRise-ordered : (keys : List RemoteKey) → AreOrdered keys → KeysRise keys
KeysRise-ordered [] h remote = AllPairs-nil (λ (a b : ℤ). int_cmp a b ≡ Less)
KeysRise-ordered (k ∷ keys) h remote =
    by (k.remote == remote) refl (KeysRise-ordered keys (AllPairs-tail Before k keys h) remote)
  where
    Before : RemoteKey → RemoteKey → Type 0
    Before a b = key_order a b ≡ Less

    of_remote : RemoteKey → Bool
    of_remote j = j.remote == remote

    less : (j : RemoteKey) → k.remote ≡ remote → j.remote ≡ remote → ordering_then (nat_cmp k.remote j.remote) (int_cmp k.key j.key) ≡ Less → int_cmp k.key j.key ≡ Less
    less j e f low =
        let same : k.remote ≡ j.remote = e ∙ sym f in
        let tie : nat_cmp k.remote j.remote ≡ Equal = grind (arith, nat_tests) in
        sym (ap (λ (o : Ordering). ordering_then o (int_cmp k.key j.key)) tie) ∙ low

    by : (b : Bool) → (k.remote == remote) ≡ b → AllPairs (λ (a b : ℤ). int_cmp a b ≡ Less) (keys_at keys remote)
        → AllPairs (λ (a b : ℤ). int_cmp a b ≡ Less) (map (λ (j : RemoteKey). j.key) (cond b (k ∷ filter (λ (j : RemoteKey). j.remote == remote) keys) (filter (λ (j : RemoteKey). j.remote == remote) keys)))
    by false e rest = rest
    by true e rest =
        let mine = filter (λ (j : RemoteKey). j.remote == remote) keys in
        let passed = filter_passes (λ (j : RemoteKey). j.remote == remote) keys in
        let behind = All-filter (λ (j : RemoteKey). j.remote == remote) (λ (j : RemoteKey). key_order k j ≡ Less) keys (AllPairs-head (λ (a b : RemoteKey). key_order a b ≡ Less) k keys h) in
        AllPairs-cons (λ (a b : ℤ). int_cmp a b ≡ Less) k.key (map (λ (j : RemoteKey). j.key) mine)
        (All-map (λ (b : ℤ). int_cmp k.key b ≡ Less) (λ (j : RemoteKey). j.key) mine
        (λ i d low. less (get_or mine i d) (eqb-true k.remote remote e) (eqb-true (get_or mine i d).remote remote (passed i d low)) (behind i d low)))
        rest

-- the order of keys is total
pub key_order_total : IsTotalOrder key_order
key_order_total = then_total (on_total (λ (k : RemoteKey). k.remote) nat_cmp_total) (on_total (λ (k : RemoteKey). k.key) int_cmp_total)

pub never_both : (a b : RemoteKey) → key_order a b ≡ Less → key_order b a ≡ Less → ⊥
never_both a b h k =
    let e : Less ≡ Greater = sym h ∙ key_order_total.antisymm a b ∙ ap ordering_reverse k in
    cc

-- a list holds a key exactly where it is in it
pub held_is_in : (keys : List RemoteKey) (z : RemoteKey) → Contains keys z → lists_key keys z.remote z.key ≡ true
held_is_in [] z h = absurd (Contains-nil z h)
held_is_in (k ∷ keys) z h = by ((k.remote == z.remote) && int_eq k.key z.key) refl (Contains-cons_cases z k keys h) (held_is_in keys z)
  where
    itself : k ≡ z → ((k.remote == z.remote) && int_eq k.key z.key) ≡ true
    itself e = ap (λ (b : Bool). b && int_eq k.key z.key) (eq-eqb k.remote z.remote (ap (λ (j : RemoteKey). j.remote) e)) ∙ (signed_Decides k.key z.key).1 (ap (λ (j : RemoteKey). j.key) e)

    by : (b : Bool) → ((k.remote == z.remote) && int_eq k.key z.key) ≡ b → (k ≡ z) ⊎ Contains keys z → (Contains keys z → lists_key keys z.remote z.key ≡ true)
        → (b || lists_key keys z.remote z.key) ≡ true
    by true e d again = refl
    by false e (inl same) again = absurd (false≢true (sym e ∙ itself same))
    by false e (inr d) again = again d

pub is_in_held : (keys : List RemoteKey) (z : RemoteKey) → lists_key keys z.remote z.key ≡ true → Contains keys z
is_in_held [] z h = absurd (false≢true h)
is_in_held (k ∷ keys) z h = by ((k.remote == z.remote) && int_eq k.key z.key) refl h (is_in_held keys z)
  where
    by : (b : Bool) → ((k.remote == z.remote) && int_eq k.key z.key) ≡ b → (b || lists_key keys z.remote z.key) ≡ true → (lists_key keys z.remote z.key ≡ true → Contains keys z) → Contains (k ∷ keys) z
    by true e d again =
        let parts = both (k.remote == z.remote) (int_eq k.key z.key) e in
        let one : k.remote ≡ z.remote = eqb-true k.remote z.remote parts.0 in
        let two : k.key ≡ z.key = (signed_Decides k.key z.key).0 parts.1 in
        let same : k ≡ z = ap (λ (n : ℕ). record k { remote = n }) one ∙ ap (λ (i : ℤ). record k { remote = z.remote; key = i }) two in
        subst (Contains (k ∷ keys)) same (Contains-here k keys)
    by false e d again = Contains-there z k keys (again d)

module _ (gives : ℕ → Value → Value → Truth) (block : Block) (tables : List Relation) (remotes : List Remote)
    (file : ℕ → ℤ → Result (List (List Value)) Cause) where
  abbrev rows : ℕ → ℤ → List (List Value)
  rows r k = rows_of_file (file r k)

  -- more known rows ask for no fewer keys
  row_of_more : (a b : ℕ → ℤ → Bool) → ((r : ℕ) (k : ℤ) → a r k ≡ true → b r k ≡ true) → (t : ℕ) (row : List Value) (o : Option ℕ)
      → HasRowOf rows tables a t row o → HasRowOf rows tables b t row o
  row_of_more a b more t row None h = h
  row_of_more a b more t row (Some remote) h = (h.0, more remote h.0 h.1, h.2)

  pub asked_more : (a b : ℕ → ℤ → Bool) → ((r : ℕ) (k : ℤ) → a r k ≡ true → b r k ≡ true) → (remote : ℕ) (key : ℤ)
      → IsAskedFor gives block tables remotes rows a remote key → IsAskedFor gives block tables remotes rows b remote key
  asked_more a b more remote key (inl h) = inl h
  asked_more a b more remote key (inr h) = inr (record {
    c = h.c;
    ask = h.ask;
    u = h.u;
    used = h.used;
    row = h.row;
    of = row_of_more a b more h.u.table h.row (remote_of remotes h.u.table) h.of;
    own = h.own;
    has = h.has;
  })

  -- these keys are needed
  abbrev pub AreSound : List RemoteKey → Type 0
  AreSound keys = (remote : ℕ) (key : ℤ) → lists_key keys remote key ≡ true → IsNeeded gives block tables remotes rows remote key

  -- so are those that they ask for
  pub sound_next : (known next : List RemoteKey) → AreSound known → AreAskedBy gives block tables remotes file known next → AreSound next
  sound_next known next sound asked remote key in' set' closed =
      closed.holds remote key (asked_more (lists_key known) set' (λ r k h. sound r k h set' closed) remote key ((asked.each remote key).0 in'))

  -- and where they ask for none but themselves, they are all
  pub needed_at_end : (known : List RemoteKey) → AreSound known → AreAskedBy gives block tables remotes file known known → AreNeeded gives block tables remotes rows known
  needed_at_end known sound asked = record {
    rising = KeysRise-ordered known asked.ordered;
    each = λ remote key. (
      λ in'. sound remote key (Contains-lists_key known remote key in'),
      λ needed. lists_key-Contains known remote key (needed (lists_key known) (record { holds = λ r k h. (asked.each r k).1 h })),
    );
  }

  needed_from : (known : List RemoteKey) (due : Result (List RemoteKey) RemoteFault) → Comes gives block tables remotes file known due → AreSound known
      → (keys : List RemoteKey) → due ≡ Ok keys → AreNeeded gives block tables remotes rows keys
  needed_from known due (Ends known' asked) sound keys e =
      let same : known' ≡ keys = cc in
      subst (AreNeeded gives block tables remotes rows) same (needed_at_end known' sound asked)
  needed_from known due (Crowds known' next remote asked more crowd) sound keys e = absurd cc
  needed_from known due (Breaks known' next why asked more crowd first) sound keys e = absurd cc
  needed_from known due (Goes known' next due' asked more crowd first rest) sound keys e = needed_from next due' rest (sound_next known' next sound asked) keys e

  -- the keys that the rounds come to are the needed ones
  pub needed_by_rounds : (keys : List RemoteKey) → Comes gives block tables remotes file [] (Ok keys) → AreNeeded gives block tables remotes rows keys
  needed_by_rounds keys comes = needed_from [] (Ok keys) comes (λ remote key h. absurd (false≢true h)) keys refl

  -- what is asked for is one list
  asked_one : (known a b : List RemoteKey) → AreAskedBy gives block tables remotes file known a → AreAskedBy gives block tables remotes file known b → a ≡ b
  asked_one known a b h k =
      same_rising_lists (λ (x y : RemoteKey). key_order x y ≡ Less) never_both a b h.ordered k.ordered
      (λ z in'. is_in_held b z ((k.each z.remote z.key).1 ((h.each z.remote z.key).0 (held_is_in a z in'))))
      (λ z in'. is_in_held a z ((h.each z.remote z.key).1 ((k.each z.remote z.key).0 (held_is_in b z in'))))

  abbrev News : List RemoteKey → List RemoteKey → List RemoteKey
  News known next = filter (λ (k : RemoteKey). not (lists_key known k.remote k.key)) next

  some_one : {X : Type 0} {x y : X} → Some x ≡ Some y → x ≡ y
  some_one e = cc

  some_none : {X : Type 0} {x : X} → Some x ≡ None → ⊥
  some_none e = cc

  -- and so is what comes of the rounds
  pub one_outcome : (known : List RemoteKey) (a b : Result (List RemoteKey) RemoteFault) → Comes gives block tables remotes file known a
      → Comes gives block tables remotes file known b → a ≡ b
  one_outcome known a b (Ends known' asked) d = ended known' asked b d
    where
      ended : (known : List RemoteKey) → AreAskedBy gives block tables remotes file known known → (b : Result (List RemoteKey) RemoteFault) → Comes gives block tables remotes file known b → Ok known ≡ b
      ended known asked b (Ends known' asked') = refl
      ended known asked b (Crowds known' next remote asked' more crowd) = absurd (more (asked_one known' next known' asked' asked))
      ended known asked b (Breaks known' next why asked' more crowd first) = absurd (more (asked_one known' next known' asked' asked))
      ended known asked b (Goes known' next due asked' more crowd first rest) = absurd (more (asked_one known' next known' asked' asked))
  one_outcome known a b (Crowds known' next remote asked more crowd) d = crowded' known' next asked more crowd b d
    where
      crowded' : (known next : List RemoteKey) → AreAskedBy gives block tables remotes file known next → next ≢ known → crowded (length remotes) next ≡ Some remote
          → (b : Result (List RemoteKey) RemoteFault) → Comes gives block tables remotes file known b → Err (fault.TooManyKeys remote) ≡ b
      crowded' known next asked more crowd b (Ends known' asked') = absurd (more (asked_one known' next known' asked asked'))
      crowded' known next asked more crowd b (Crowds known' next' remote' asked' more' crowd') =
          ap (λ (r : ℕ). let e : Result (List RemoteKey) RemoteFault = Err (fault.TooManyKeys r) in e)
          (some_one (sym crowd ∙ ap (crowded (length remotes)) (asked_one known' next next' asked asked') ∙ crowd'))
      crowded' known next asked more crowd b (Breaks known' next' why asked' more' crowd' first) =
          absurd (some_none (sym crowd ∙ ap (crowded (length remotes)) (asked_one known' next next' asked asked') ∙ crowd'))
      crowded' known next asked more crowd b (Goes known' next' due asked' more' crowd' first rest) =
          absurd (some_none (sym crowd ∙ ap (crowded (length remotes)) (asked_one known' next next' asked asked') ∙ crowd'))
  one_outcome known a b (Breaks known' next why asked more crowd first) d = broken known' next asked more crowd first b d
    where
      broken : (known next : List RemoteKey) → AreAskedBy gives block tables remotes file known next → next ≢ known → crowded (length remotes) next ≡ None
          → first_fault file known (News known next) ≡ Some why
          → (b : Result (List RemoteKey) RemoteFault) → Comes gives block tables remotes file known b → Err why ≡ b
      broken known next asked more crowd first b (Ends known' asked') = absurd (more (asked_one known' next known' asked asked'))
      broken known next asked more crowd first b (Crowds known' next' remote' asked' more' crowd') =
          absurd (some_none (sym crowd' ∙ ap (crowded (length remotes)) (asked_one known' next' next asked' asked) ∙ crowd))
      broken known next asked more crowd first b (Breaks known' next' why' asked' more' crowd' first') =
          ap (λ (w : RemoteFault). let e : Result (List RemoteKey) RemoteFault = Err w in e)
          (some_one (sym first ∙ ap (λ (n : List RemoteKey). first_fault file known' (News known' n)) (asked_one known' next next' asked asked') ∙ first'))
      broken known next asked more crowd first b (Goes known' next' due asked' more' crowd' first' rest) =
          absurd (some_none (sym first ∙ ap (λ (n : List RemoteKey). first_fault file known' (News known' n)) (asked_one known' next next' asked asked') ∙ first'))
  one_outcome known a b (Goes known' next due asked more crowd first rest) d = gone known' next asked more crowd first (λ b' r d'. one_outcome next due b' rest d') b d rest
    where
      gone : (known next : List RemoteKey) → AreAskedBy gives block tables remotes file known next → next ≢ known → crowded (length remotes) next ≡ None
          → first_fault file known (News known next) ≡ None
          → ((b : Result (List RemoteKey) RemoteFault) → Comes gives block tables remotes file next due → Comes gives block tables remotes file next b → due ≡ b)
          → (b : Result (List RemoteKey) RemoteFault) → Comes gives block tables remotes file known b → Comes gives block tables remotes file next due → due ≡ b
      gone known next asked more crowd first again b (Ends known' asked') rest = absurd (more (asked_one known' next known' asked asked'))
      gone known next asked more crowd first again b (Crowds known' next' remote' asked' more' crowd') rest =
          absurd (some_none (sym crowd' ∙ ap (crowded (length remotes)) (asked_one known' next' next asked' asked) ∙ crowd))
      gone known next asked more crowd first again b (Breaks known' next' why' asked' more' crowd' first') rest =
          absurd (some_none (sym first' ∙ ap (λ (n : List RemoteKey). first_fault file known' (News known' n)) (asked_one known' next' next asked' asked) ∙ first))
      gone known next asked more crowd first again b (Goes known' next' due' asked' more' crowd' first' rest') rest =
          again due' rest (subst (λ (n : List RemoteKey). Comes gives block tables remotes file n due') (asked_one known' next' next asked' asked) rest')
