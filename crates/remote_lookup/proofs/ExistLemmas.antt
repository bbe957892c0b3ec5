-- From no keys on the rounds come to something.
use Rattle.std.proofs.Common.{◌≡◌, ◌≢◌, ◌⊎◌, inl, inr, ℕ, zero, suc, ◌+◌, ◌*◌, ◌<◌, ◌≤◌, Bool, true, false, cond, List, [], ◌∷◌, ◌++◌, length, Option, Some, None, refl, ap, sym, ◌∙◌, subst, arith}
use Rattle.std.specs.Prelude.{◌↔◌, ◌&&◌, ◌||◌, ◌==◌, ℤ, not, nat_lt, filter, Contains, slice_get, Result, Ok, Err}
use Rattle.std.specs.Option.{option_to_list}
use Rattle.std.specs.Ordering.{int_eq}
use Rattle.std.proofs.lemmas.Bool.{cases_lt, false≢true, eqb-true, eq-eqb, lt-ltb, ltb-true}
use Rattle.std.proofs.lemmas.List.{length-map}
use Rattle.std.proofs.lemmas.Option.{slice_get_within}
use Rattle.bag_meaning.proofs.PairLemmas.{AllPairs-nil}
use Rattle.eddy_meaning.proofs.MatchLemmas.{Contains-here}
use Rattle.sq_value.specs.Relation.{Relation}
use Rattle.sq_value.specs.declared.value.Cmp.TheVariants as cmp
use Rattle.sq_value.specs.declared.value.Value.{Value}
use Rattle.sq_value.specs.declared.value.Truth.{Truth}
use Rattle.sq_expr.specs.declared.block.Block.{Block}
use Rattle.sq_expr.specs.declared.block.Conjunct.{Conjunct}
use Rattle.sq_expr.specs.declared.cond.Cond.{Cond, Cond-F, out-Cond, roll-Cond, roll-out-Cond}
use Rattle.sq_expr.specs.declared.cond.Cond.TheOpen as level
use Rattle.sq_expr.specs.declared.cond.Cond.TheVariants as variants
use Rattle.sq_expr.specs.declared.cond.Side.{Side}
use Rattle.remote_lookup.specs.Asks.{AreAsks, AreAsksBelow, IsAskIn, ask_by}
use Rattle.remote_lookup.specs.Asking.{IsAskedBehind, IsAskedFirst}
use Rattle.remote_lookup.specs.Filled.{keys_at}
use Rattle.remote_lookup.specs.Needed.{IsAskedFor, IsAskedByFile}
use Rattle.remote_lookup.specs.Rounds.{AreAskedBy, AreOrdered, Breaks, Cause, Comes, Crowds, Ends, Goes, crowded, first_fault, key_order, lists_key, rows_of_file}
use Rattle.remote_lookup.specs.declared.asks.Ask.{Ask}
use Rattle.remote_lookup.specs.declared.remote.Remote.{Remote}
use Rattle.remote_lookup.specs.declared.remote.RemoteKey.{RemoteKey}
use Rattle.remote_lookup.specs.declared.remote.RemoteFault.{RemoteFault}
use Rattle.remote_lookup.specs.declared.remote.RemoteFault.TheVariants as fault
use Rattle.std.specs.declared.cmp.Ordering.TheVariants.{Less}
use Rattle.remote_lookup.proofs.AskLemmas.{asks_more, asks_none, pushed}
use Rattle.remote_lookup.proofs.AskedLemmas.{Lists, behind_list, first_list, lists_as, lists_both, sorted, sorted_has, sorted_ordered}
use Rattle.remote_lookup.proofs.CrowdLemmas.{kept}
use Rattle.remote_lookup.proofs.FreshLemmas.{filter_short, find_none}
use Rattle.remote_lookup.proofs.GrowLemmas.{asked_grows}
use Rattle.remote_lookup.proofs.JoinLemmas.{has_append}
use Rattle.remote_lookup.proofs.MeantLemmas.{asked_behind, asked_first}
use Rattle.remote_lookup.proofs.QueryLemmas.{element}
use Rattle.remote_lookup.proofs.RoundLemmas.{asked_more, held_is_in}

-- how many keys there are, by their remotes
step_count : (n : ℕ) (keys : List RemoteKey)
    → length (filter (λ (k : RemoteKey). nat_lt k.remote (suc n)) keys)
    ≡ length (filter (λ (k : RemoteKey). nat_lt k.remote n) keys) + length (filter (λ (k : RemoteKey). k.remote == n) keys)
step_count n [] = refl
step_count n (k ∷ keys) = by (nat_lt k.remote (suc n)) (nat_lt k.remote n) (k.remote == n) refl refl refl (step_count n keys)
  where
    by : (a b c : Bool) → nat_lt k.remote (suc n) ≡ a → nat_lt k.remote n ≡ b → (k.remote == n) ≡ c
        → length (filter (λ (j : RemoteKey). nat_lt j.remote (suc n)) keys)
        ≡ length (filter (λ (j : RemoteKey). nat_lt j.remote n) keys) + length (filter (λ (j : RemoteKey). j.remote == n) keys)
        → length (cond a (k ∷ filter (λ (j : RemoteKey). nat_lt j.remote (suc n)) keys) (filter (λ (j : RemoteKey). nat_lt j.remote (suc n)) keys))
        ≡ length (cond b (k ∷ filter (λ (j : RemoteKey). nat_lt j.remote n) keys) (filter (λ (j : RemoteKey). nat_lt j.remote n) keys))
        + length (cond c (k ∷ filter (λ (j : RemoteKey). j.remote == n) keys) (filter (λ (j : RemoteKey). j.remote == n) keys))
    by true true true a b c again = let low : k.remote < n = ltb-true k.remote n b in let same : k.remote ≡ n = eqb-true k.remote n c in absurd (omega (arith, low, same))
    by true true false a b c again = omega (arith, again)
    by true false true a b c again = omega (arith, again)
    by true false false a b c again = absurd (last (cases_lt k.remote n))
      where
        last : (k.remote < n) ⊎ (n ≤ k.remote) → ⊥
        last (inl low) = false≢true (sym b ∙ lt-ltb k.remote n low)
        last (inr high) = let under : k.remote < suc n = ltb-true k.remote (suc n) a in false≢true (sym c ∙ eq-eqb k.remote n (omega (arith, under, high)))
    by false true c' a b c again = let low : k.remote < n = ltb-true k.remote n b in absurd (false≢true (sym a ∙ lt-ltb k.remote (suc n) (omega (arith, low))))
    by false false true a b c again = let same : k.remote ≡ n = eqb-true k.remote n c in absurd (false≢true (sym a ∙ lt-ltb k.remote (suc n) (omega (arith, same))))
    by false false false a b c again = again

few_below : (keys : List RemoteKey) (m : ℕ) → ((r : ℕ) → r < m → length (keys_at keys r) ≤ 10000) → length (filter (λ (k : RemoteKey). nat_lt k.remote m) keys) ≤ m * 10000
few_below keys zero few = none keys
  where
    none : (ks : List RemoteKey) → length (filter (λ (k : RemoteKey). nat_lt k.remote 0) ks) ≤ 0 * 10000
    none [] = omega arith
    none (k ∷ ks) = by (nat_lt k.remote 0) refl (none ks)
      where
        by : (b : Bool) → nat_lt k.remote 0 ≡ b → length (filter (λ (j : RemoteKey). nat_lt j.remote 0) ks) ≤ 0 * 10000
            → length (cond b (k ∷ filter (λ (j : RemoteKey). nat_lt j.remote 0) ks) (filter (λ (j : RemoteKey). nat_lt j.remote 0) ks)) ≤ 0 * 10000
        by true e again = let low : k.remote < 0 = ltb-true k.remote 0 e in absurd (omega (arith, low))
        by false e again = again
few_below keys (suc m) few =
    let size = length-map (filter (λ (k : RemoteKey). k.remote == m) keys) (λ (k : RemoteKey). k.key) in
    omega (arith, step_count m keys, few_below keys m (λ r low. few r (omega (arith, low))), few m (omega arith), size)

all_below : (keys : List RemoteKey) (m : ℕ) → ((z : RemoteKey) → lists_key keys z.remote z.key ≡ true → z.remote < m) → length (filter (λ (k : RemoteKey). nat_lt k.remote m) keys) ≡ length keys
all_below [] m low = refl
all_below (k ∷ keys) m low = by (nat_lt k.remote m) refl (all_below keys m (λ z h. low z (last ((k.remote == z.remote) && int_eq k.key z.key) h)))
  where
    last : (b : Bool) {c : Bool} → c ≡ true → (b || c) ≡ true
    last true e = refl
    last false e = e

    by : (b : Bool) → nat_lt k.remote m ≡ b → length (filter (λ (j : RemoteKey). nat_lt j.remote m) keys) ≡ length keys
        → length (cond b (k ∷ filter (λ (j : RemoteKey). nat_lt j.remote m) keys) (filter (λ (j : RemoteKey). nat_lt j.remote m) keys)) ≡ length (k ∷ keys)
    by true e again = omega (arith, again)
    by false e again = absurd (false≢true (sym e ∙ lt-ltb k.remote m (low k (held_is_in (k ∷ keys) k (Contains-here k keys)))))

filter_all : (p : RemoteKey → Bool) (xs : List RemoteKey) → length (filter p xs) ≡ length xs → filter p xs ≡ xs
filter_all p [] e = refl
filter_all p (x ∷ xs) e = by (p x) refl e (filter_all p xs)
  where
    by : (b : Bool) → p x ≡ b → length (cond b (x ∷ filter p xs) (filter p xs)) ≡ length (x ∷ xs) → (length (filter p xs) ≡ length xs → filter p xs ≡ xs)
        → cond b (x ∷ filter p xs) (filter p xs) ≡ x ∷ xs
    by true is e again = ap (λ (l : List RemoteKey). x ∷ l) (again (omega (arith, e)))
    by false is e again = absurd (omega (arith, e, filter_short p xs))

-- the sides of a condition that is an equality
abbrev Equates : Cond → Option (Side × Side) → Type 0
Equates c pair = (x y : Side) → ((c ≡ variants.Compare x cmp.Eq y) ↔ (pair ≡ Some (x, y)))

none_pair : {p : Side × Side} → None ≡ Some p → ⊥
none_pair e = cc

pairs : (x y x' y' : Side) → x ≡ x' → y ≡ y' → (let o : Option (Side × Side) = Some (x, y) in o) ≡ Some (x', y')
pairs x y x' y' e f = ap (λ (s : Side). let o : Option (Side × Side) = Some (s, y) in o) e ∙ ap (λ (s : Side). let o : Option (Side × Side) = Some (x', s) in o) f

unpaired : (x y x' y' : Side) → (let o : Option (Side × Side) = Some (x, y) in o) ≡ Some (x', y') → (x ≡ x') × (y ≡ y')
unpaired x y x' y' e =
    let both : ◌≡◌ {A = Side × Side} (x, y) (x', y') = cc in
    (ap (λ (p : Side × Side). p.0) both, ap (λ (p : Side × Side). p.1) both)

module _ (c : Cond) where
  none_of : (n : Cond-F Cond) → out-Cond c ≡ n → ((x y : Side) → n ≡ level.Compare x cmp.Eq y → ⊥) → (pair : Option (Side × Side)) × Equates c pair
  none_of n e apart = (None, λ x y. (λ is. absurd (apart x y (sym e ∙ ap out-Cond is ∙ variants.outs-Compare x cmp.Eq y)), λ p. absurd (none_pair p)))

  same_sides : (x y x' y' : Side) → (let n : Cond-F Cond = level.Compare x cmp.Eq y in n) ≡ level.Compare x' cmp.Eq y' → (x ≡ x') × (y ≡ y')
  same_sides x y x' y' e = (cc, cc)

  equal_of : (x y : Side) → out-Cond c ≡ level.Compare x cmp.Eq y → (pair : Option (Side × Side)) × Equates c pair
  equal_of x y e = (Some (x, y), λ x' y'. (to x' y', from x' y'))
    where
      is : c ≡ variants.Compare x cmp.Eq y
      is = sym (roll-out-Cond c) ∙ ap roll-Cond e ∙ variants.rolls-Compare x cmp.Eq y

      to : (x' y' : Side) → c ≡ variants.Compare x' cmp.Eq y' → (let o : Option (Side × Side) = Some (x, y) in o) ≡ Some (x', y')
      to x' y' f = let both = same_sides x y x' y' (sym e ∙ ap out-Cond f ∙ variants.outs-Compare x' cmp.Eq y') in pairs x y x' y' both.0 both.1

      from : (x' y' : Side) → (let o : Option (Side × Side) = Some (x, y) in o) ≡ Some (x', y') → c ≡ variants.Compare x' cmp.Eq y'
      from x' y' p =
          let both = unpaired x y x' y' p in
          is ∙ ap (λ (s : Side). variants.Compare s cmp.Eq y) both.0 ∙ ap (λ (s : Side). variants.Compare x' cmp.Eq s) both.1

  of_level : (n : Cond-F Cond) → out-Cond c ≡ n → (pair : Option (Side × Side)) × Equates c pair
  of_level (level.Compare x cmp.Eq y) e = equal_of x y e
  of_level (level.Compare x cmp.Ne y) e = none_of (level.Compare x cmp.Ne y) e (λ x' y' f. cc)
  of_level (level.Compare x cmp.Lt y) e = none_of (level.Compare x cmp.Lt y) e (λ x' y' f. cc)
  of_level (level.Compare x cmp.Le y) e = none_of (level.Compare x cmp.Le y) e (λ x' y' f. cc)
  of_level (level.Compare x cmp.Gt y) e = none_of (level.Compare x cmp.Gt y) e (λ x' y' f. cc)
  of_level (level.Compare x cmp.Ge y) e = none_of (level.Compare x cmp.Ge y) e (λ x' y' f. cc)
  of_level (level.IsNull x) e = none_of (level.IsNull x) e (λ x' y' f. cc)
  of_level (level.Call n x w) e = none_of (level.Call n x w) e (λ x' y' f. cc)
  of_level (level.Not z) e = none_of (level.Not z) e (λ x' y' f. cc)
  of_level (level.All zs) e = none_of (level.All zs) e (λ x' y' f. cc)
  of_level (level.Any zs) e = none_of (level.Any zs) e (λ x' y' f. cc)
  of_level (level.Is z t) e = none_of (level.Is z t) e (λ x' y' f. cc)

  pub pair_of : (pair : Option (Side × Side)) × Equates c pair
  pair_of = of_level (out-Cond c) refl

asks_added : (block : Block) (remotes : List Remote) (n : ℕ) (c : Conjunct) (old : List Ask) → slice_get block.conjuncts n ≡ Some c → AreAsksBelow block remotes n old
    → (pair : Option (Side × Side)) → Equates c.cond pair → (new : List Ask) × AreAsksBelow block remotes (n + 1) new
asks_added block remotes n c old at below None equates =
    (old, asks_more block remotes n c old old at below (λ ask. (λ h. inl h, λ h. by ask h)))
  where
    by : (ask : Ask) → Contains old ask ⊎ IsAskIn block remotes c.cond ask → Contains old ask
    by ask (inl h) = h
    by ask (inr h) = absurd (none_pair ((equates h.0 h.1).0 h.2))
asks_added block remotes n c old at below (Some p) equates =
    let new = (old ++ option_to_list (ask_by block remotes p.0 p.1)) ++ option_to_list (ask_by block remotes p.1 p.0) in
    (new, asks_more block remotes n c old new at below (pushed block remotes c.cond p.0 p.1 cmp.Eq ((equates p.0 p.1).1 refl) refl old new refl))

-- so what a block asks is a list
module _ (block : Block) (remotes : List Remote) where
  asks_to : (n : ℕ) → n ≤ length block.conjuncts → (asks : List Ask) × AreAsksBelow block remotes n asks
  asks_to zero low = ([], asks_none block remotes)
  asks_to (suc n) low =
      let before = asks_to n (omega (arith, low)) in
      let c = element block.conjuncts n (omega (arith, low)) in
      let pair = pair_of c.0.cond in
      let after = asks_added block remotes n c.0 before.0 c.1 before.1 pair.0 pair.1 in
      let same : n + 1 ≡ suc n = omega arith in
      (after.0, subst (λ (m : ℕ). AreAsksBelow block remotes m after.0) same after.1)

  pub asks_all : (asks : List Ask) × AreAsks block remotes asks
  asks_all = asks_to (length block.conjuncts) (omega arith)

module _ (gives : ℕ → Value → Value → Truth) (block : Block) (tables : List Relation) (remotes : List Remote)
    (file : ℕ → ℤ → Result (List (List Value)) Cause) (asks : List Ask) (are : AreAsks block remotes asks) where
  abbrev rows : ℕ → ℤ → List (List Value)
  rows r k = rows_of_file (file r k)

  abbrev For : List RemoteKey → ℕ → ℤ → Type 0
  For known remote key = IsAskedFor gives block tables remotes rows (lists_key known) remote key

  or_turned : (a b : Bool) → (a || b) ≡ (b || (a || false))
  or_turned true true = refl
  or_turned true false = refl
  or_turned false true = refl
  or_turned false false = refl

  -- one known key more in front asks as one behind
  in_front : (k : RemoteKey) (known : List RemoteKey) (remote : ℕ) (key : ℤ)
      → For (k ∷ known) remote key ↔ (IsAskedBehind gives block remotes k.remote (rows k.remote k.key) asks remote key ⊎ For known remote key)
  in_front k known remote key = (to, from)
    where
      alike : (r : ℕ) (i : ℤ) → lists_key (k ∷ known) r i ≡ lists_key (known ++ k ∷ []) r i
      alike r i = or_turned ((k.remote == r) && int_eq k.key i) (lists_key known r i) ∙ sym (has_append known (k ∷ []) r i)

      step : For (known ++ k ∷ []) remote key ↔ (For known remote key ⊎ IsAskedByFile gives block remotes rows k remote key)
      step = asked_grows gives block tables remotes rows known k remote key

      behind : IsAskedBehind gives block remotes k.remote (rows k.remote k.key) asks remote key ↔ IsAskedByFile gives block remotes rows k remote key
      behind = asked_behind gives block tables remotes rows asks are k remote key

      split : For known remote key ⊎ IsAskedByFile gives block remotes rows k remote key
          → IsAskedBehind gives block remotes k.remote (rows k.remote k.key) asks remote key ⊎ For known remote key
      split (inl h) = inr h
      split (inr h) = inl (behind.1 h)

      joined : IsAskedBehind gives block remotes k.remote (rows k.remote k.key) asks remote key ⊎ For known remote key
          → For known remote key ⊎ IsAskedByFile gives block remotes rows k remote key
      joined (inl h) = inr (behind.0 h)
      joined (inr h) = inl h

      to : For (k ∷ known) remote key → IsAskedBehind gives block remotes k.remote (rows k.remote k.key) asks remote key ⊎ For known remote key
      to h = split (step.0 (asked_more gives block tables remotes file (lists_key (k ∷ known)) (lists_key (known ++ k ∷ [])) (λ r i e. sym (alike r i) ∙ e) remote key h))

      from : IsAskedBehind gives block remotes k.remote (rows k.remote k.key) asks remote key ⊎ For known remote key → For (k ∷ known) remote key
      from h = asked_more gives block tables remotes file (lists_key (known ++ k ∷ [])) (lists_key (k ∷ known)) (λ r i e. alike r i ∙ e) remote key (step.1 (joined h))

  asked_list : (known : List RemoteKey) → (ks : List RemoteKey) × Lists ks (For known)
  asked_list [] =
      let first = first_list gives block tables remotes asks in
      (first.0, lists_as first.0 (IsAskedFirst gives block tables remotes asks) (For []) (λ remote key. asked_first gives block tables remotes rows asks are remote key) first.1)
  asked_list (k ∷ known) =
      let behind = behind_list gives block tables remotes k.remote (rows k.remote k.key) asks in
      let rest = asked_list known in
      (behind.0 ++ rest.0, lists_both behind.0 rest.0 (IsAskedBehind gives block remotes k.remote (rows k.remote k.key) asks) (For known) (For (k ∷ known)) behind.1 rest.1 (in_front k known))

  abbrev Asked : List RemoteKey → List RemoteKey → Type 0
  Asked known next = AreAskedBy gives block tables remotes file known next

  next_list : (known : List RemoteKey) → (next : List RemoteKey) × Asked known next
  next_list known =
      let all = asked_list known in (
        sorted all.0,
        record {
          ordered = sorted_ordered all.0;
          each = λ remote key. (λ e. (all.1 remote key).0 (sym (sorted_has all.0 remote key) ∙ e), λ h. sorted_has all.0 remote key ∙ (all.1 remote key).1 h);
        },
      )

  low_of : (known : List RemoteKey) (remote : ℕ) (key : ℤ) → For known remote key → remote < length remotes
  low_of known remote key (inl h) = slice_get_within remotes remote h.ask.r h.ask.is
  low_of known remote key (inr h) = slice_get_within remotes remote h.ask.r h.ask.is

  -- known keys that are all asked for are among the next ones, and there are more of these unless they are the same
  record Stands (known : List RemoteKey) : Type 0 where
    up : AreOrdered known
    held : (remote : ℕ) (key : ℤ) → lists_key known remote key ≡ true → For known remote key
    few : length known ≤ length remotes * 10000

  within : (known next : List RemoteKey) → Stands known → Asked known next → (remote : ℕ) (key : ℤ) → lists_key known remote key ≡ true → lists_key next remote key ≡ true
  within known next stands asked remote key e = (asked.each remote key).1 (stands.held remote key e)

  part : (known next : List RemoteKey) → Stands known → Asked known next → filter (λ (k : RemoteKey). lists_key known k.remote k.key) next ≡ known
  part known next stands asked = kept known next stands.up asked.ordered (within known next stands asked)

  next_stands : (known next : List RemoteKey) → Stands known → Asked known next → crowded (length remotes) next ≡ None → Stands next
  next_stands known next stands asked none = record {
    up = asked.ordered;
    held = λ remote key e. asked_more gives block tables remotes file (lists_key known) (lists_key next) (within known next stands asked) remote key ((asked.each remote key).0 e);
    few = small;
  }
    where
      each : (r : ℕ) → r < length remotes → length (keys_at next r) ≤ 10000
      each r low = by (cases_lt 10000 (length (keys_at next r)))
        where
          fails : nat_lt 10000 (length (keys_at next r)) ≡ false
          fails = find_none (λ (n : ℕ). nat_lt 10000 (length (keys_at next n))) (length remotes) 0 r none (omega arith) (omega (arith, low))

          by : (10000 < length (keys_at next r)) ⊎ (length (keys_at next r) ≤ 10000) → length (keys_at next r) ≤ 10000
          by (inl over) = absurd (false≢true (sym fails ∙ lt-ltb 10000 (length (keys_at next r)) over))
          by (inr few) = few

      small : length next ≤ length remotes * 10000
      small =
          omega (
            arith,
            few_below next (length remotes) each,
            all_below next (length remotes) (λ z e. low_of known z.remote z.key ((asked.each z.remote z.key).0 e)),
          )

  abbrev Due : List RemoteKey → Type 0
  Due known = (due : Result (List RemoteKey) RemoteFault) × Comes gives block tables remotes file known due

  abbrev News : List RemoteKey → List RemoteKey → List RemoteKey
  News known next = filter (λ (k : RemoteKey). not (lists_key known k.remote k.key)) next

  -- with room for so many further keys
  come : (room : ℕ) (known : List RemoteKey) → Stands known → length remotes * 10000 < length known + room → Due known
  come zero known stands over = absurd (omega (arith, over, stands.few))
  come (suc room) known stands over = let next = next_list known in by next.0 next.1 (length next.0 == length known) refl (come room)
    where
      after : (next : List RemoteKey) → Asked known next → next ≢ known → crowded (length remotes) next ≡ None → (o : Option RemoteFault) → first_fault file known (News known next) ≡ o
          → (first_fault file known (News known next) ≡ None → Due next) → Due known
      after next asked more none (Some f) is again = (Err f, Breaks known next f asked more none is)
      after next asked more none None is again = let rest = again is in (rest.0, Goes known next rest.0 asked more none is rest.1)

      round : (next : List RemoteKey) → Asked known next → next ≢ known → length known < length next → (o : Option ℕ) → crowded (length remotes) next ≡ o
          → ((keys : List RemoteKey) → Stands keys → length remotes * 10000 < length keys + room → Due keys) → Due known
      round next asked more longer (Some r) is again = (Err (fault.TooManyKeys r), Crowds known next r asked more is)
      round next asked more longer None is again =
          after next asked more is (first_fault file known (News known next)) refl (λ e. again next (next_stands known next stands asked is) (omega (arith, over, longer)))

      by : (next : List RemoteKey) → Asked known next → (b : Bool) → (length next == length known) ≡ b
          → ((keys : List RemoteKey) → Stands keys → length remotes * 10000 < length keys + room → Due keys) → Due known
      by next asked true is again =
          let size : length next ≡ length known = eqb-true (length next) (length known) is in
          let whole = filter_all (λ (k : RemoteKey). lists_key known k.remote k.key) next (ap (length {A = RemoteKey}) (part known next stands asked) ∙ sym size) in
          let same : next ≡ known = sym whole ∙ part known next stands asked in
          (Ok known, Ends known (subst (Asked known) same asked))
      by next asked false is again =
          let apart : next ≢ known = (λ e. false≢true (sym is ∙ eq-eqb (length next) (length known) (ap (length {A = RemoteKey}) e))) in
          let apart_size : length next ≢ length known = (λ e. false≢true (sym is ∙ eq-eqb (length next) (length known) e)) in
          let short = filter_short (λ (k : RemoteKey). lists_key known k.remote k.key) next in
          let size = ap (length {A = RemoteKey}) (part known next stands asked) in
          round next asked apart (omega (arith, short, size, apart_size)) (crowded (length remotes) next) refl again

  -- from none on
  pub comes_always : Due []
  comes_always = come (suc (length remotes * 10000)) [] (record {
    up = AllPairs-nil (λ (a b : RemoteKey). key_order a b ≡ Less);
    held = λ remote key e. absurd (false≢true e);
    few = omega arith;
  }) (omega arith)

-- what the rounds come to is there
pub outcome : (gives : ℕ → Value → Value → Truth) (block : Block) (tables : List Relation) (remotes : List Remote)
    (file : ℕ → ℤ → Result (List (List Value)) Cause) → (due : Result (List RemoteKey) RemoteFault) × Comes gives block tables remotes file [] due
outcome gives block tables remotes file = let asks = asks_all block remotes in comes_always gives block tables remotes file asks.0 asks.1
