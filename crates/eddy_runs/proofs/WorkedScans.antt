-- A run of a self-join by <, worked out by hand: SELECT a.x, b.x FROM n a, n b WHERE a.x < b.x, with n: x / 1 / 2 / 3.
use Rattle.std.proofs.Common.{◌≡◌, inl, inr, subst, ℕ, zero, suc, List, [], ◌∷◌, true, false, Some, None, refl, ap, sym, ◌∙◌, pos, arith, replicate}
use Rattle.std.specs.Prelude.{length, codes, Contains, slice_set, is_some, IsBitSet}
use Rattle.std.specs.Int.{bit_at}
use Rattle.std.proofs.lemmas.Bool.{false≢true}
use Rattle.std.proofs.lemmas.Nat.{bit_set_by_shift}
use Rattle.std.proofs.lemmas.Nat.Bits.{shr_and_one, bit_at_above}
use Rattle.std.proofs.lemmas.List.Elements.{All-nil}
use Rattle.sq_value.specs.Rank.{Rank}
use Rattle.sq_value.specs.Relation.{Relation}
use Rattle.sq_value.specs.declared.value.Value.{Value}
use Rattle.sq_value.specs.declared.value.Value.TheVariants.{Int}
use Rattle.sq_value.specs.declared.value.Truth.{Truth}
use Rattle.sq_value.specs.declared.value.Truth.TheVariants.{Unknown}
use Rattle.sq_value.specs.declared.value.ColType.TheVariants as kind
use Rattle.sq_value.specs.declared.value.Cmp.TheVariants.{Lt}
use Rattle.sq_expr.specs.declared.cond.Side.TheVariants as side
use Rattle.sq_expr.specs.declared.cond.Cond.TheVariants.{Compare}
use Rattle.sq_expr.specs.declared.block.AliasUse.{AliasUse}
use Rattle.sq_expr.specs.declared.block.Block.{Block}
use Rattle.sq_expr.specs.declared.block.Conjunct.{Conjunct}
use Rattle.sq_expr.proofs.MeaningLemmas.{truth_of-Compare}
use Rattle.bag_meaning.specs.declared.combo.Built.{Built}
use Rattle.bag_meaning.specs.declared.combo.Combo.{Combo}
use Rattle.tuple_span.specs.Parts.{no_parts, part_of}
use Rattle.tuple_span.specs.declared.route.Route.{Route}
use Rattle.tuple_span.specs.declared.route.Route.TheVariants.{Select, Build, Probe}
use Rattle.tuple_span.specs.declared.route.Via.TheVariants as via
use Rattle.eddy_meaning.specs.Tuple.{Tuple, CoversAll}
use Rattle.eddy_meaning.specs.Route.{single, came, AsksFor}
use Rattle.eddy_meaning.specs.Act.{pending_after, found_of}
use Rattle.eddy_runs.specs.declared.event.Event.{Event}
use Rattle.eddy_runs.specs.declared.event.Event.TheVariants as event
use Rattle.eddy_runs.specs.Counts.{came_count}
use Rattle.eddy_runs.specs.State.{State, AskedAfter, IsStep, IsRun, Started, Stepped, IsNewKey, HasEnded, empty_state}

abbrev pub n : Relation
n = record {
  columns = record { name = codes "x"; kind = kind.Integer } ∷ [];
  rows = (Int (pos 1) ∷ []) ∷ (Int (pos 2) ∷ []) ∷ (Int (pos 3) ∷ []) ∷ [];
}

abbrev pub scanned : ℕ → AliasUse
scanned table = record { table = table; access = record { scan = true; look_up = None } }

-- a.x < b.x
abbrev pub below : Conjunct
below = record { cond = Compare (side.Column record { alias = 0; column = 0 }) Lt (side.Column record { alias = 1; column = 0 }); span = 3 }

abbrev pub pairs : Block
pairs = record { aliases = scanned 0 ∷ scanned 0 ∷ []; conjuncts = below ∷ []; output = []; order = [] }

abbrev pub no_meaning : ℕ → Value → Value → Truth
no_meaning k x y = Unknown

abbrev built : ℕ → ℕ → Built
built alias row = record { alias = alias; row = row }

-- a row that is built, with its stamp and two hops
abbrev tuple_of : ℕ → ℕ → ℕ → Tuple
tuple_of alias row stamp = record { parts = slice_set no_parts alias (Some row); stamp = Some stamp; done = replicate 48 false; hops = 2 }

-- the pair of the first row of a and the second row of b, before the test and after it
abbrev pair : Tuple
pair = record { parts = slice_set (slice_set no_parts 1 (Some 1)) 0 (Some 0); stamp = Some 2; done = replicate 48 false; hops = 3 }

abbrev state : List ℕ → List Built → List Tuple → List Combo → State
state next log pending results = record { next = next; log = log; pending = pending; results = results; asked = [] }

-- no key is asked for
none_asked : (t : Tuple) (route : Route) → ((alias : ℕ) (key : Rank) → AsksFor pairs (n ∷ []) t route alias key → ⊥) → AskedAfter pairs (n ∷ []) t route [] []
none_asked t route none = record {
  more = [];
  is = refl;
  few = omega arith;
  new' = All-nil (IsNewKey pairs (n ∷ []) t route []);
  each = λ alias key asks. absurd (none alias key asks);
}

abbrev s1 : State
s1 = state (1 ∷ 0 ∷ []) [] (single 0 0 ∷ []) []

abbrev s2 : State
s2 = state (1 ∷ 0 ∷ []) (built 0 0 ∷ []) (tuple_of 0 0 0 ∷ []) []

abbrev s3 : State
s3 = state (1 ∷ 1 ∷ []) (built 0 0 ∷ []) (tuple_of 0 0 0 ∷ single 1 0 ∷ []) []

abbrev s4 : State
s4 = state (1 ∷ 1 ∷ []) (built 0 0 ∷ built 1 0 ∷ []) (tuple_of 0 0 0 ∷ tuple_of 1 0 1 ∷ []) []

abbrev s5 : State
s5 = state (1 ∷ 2 ∷ []) (built 0 0 ∷ built 1 0 ∷ []) (tuple_of 0 0 0 ∷ tuple_of 1 0 1 ∷ single 1 1 ∷ []) []

abbrev pub log : List Built
log = built 0 0 ∷ built 1 0 ∷ built 1 1 ∷ []

abbrev s6 : State
s6 = state (1 ∷ 2 ∷ []) log (tuple_of 0 0 0 ∷ tuple_of 1 0 1 ∷ tuple_of 1 1 2 ∷ []) []

abbrev s7 : State
s7 = state (1 ∷ 2 ∷ []) log (tuple_of 1 0 1 ∷ tuple_of 1 1 2 ∷ []) []

abbrev s8 : State
s8 = state (1 ∷ 2 ∷ []) log (tuple_of 1 1 2 ∷ []) []

abbrev s9 : State
s9 = state (1 ∷ 2 ∷ []) log (pair ∷ []) []

-- the end of the table: rows 0 and 1 with stamp 2, and nothing pending
abbrev pub s10 : State
s10 = state (1 ∷ 2 ∷ []) log [] (record { rows = 0 ∷ 1 ∷ replicate 10 0; stamp = 2 } ∷ [])

step1 : IsStep no_meaning pairs (n ∷ []) (empty_state pairs) (event.Claim 0) s1
step1 = record { u = scanned 0; at = refl; scanned = refl; left = omega arith; is = refl }

step2 : IsStep no_meaning pairs (n ∷ []) s1 (event.Route 0 (Build 0)) s2
step2 = record {
  t = single 0 0;
  at = refl;
  legal = record { unstamped = refl; row = 0; part = refl };
  next = refl;
  log = refl;
  pending = refl;
  results = refl;
  asked = none_asked (single 0 0) (Build 0) (λ alias key asks. asks);
}

step3 : IsStep no_meaning pairs (n ∷ []) s2 (event.Claim 1) s3
step3 = record { u = scanned 0; at = refl; scanned = refl; left = omega arith; is = refl }

step4 : IsStep no_meaning pairs (n ∷ []) s3 (event.Route 1 (Build 1)) s4
step4 = record {
  t = single 1 0;
  at = refl;
  legal = record { unstamped = refl; row = 0; part = refl };
  next = refl;
  log = refl;
  pending = refl;
  results = refl;
  asked = none_asked (single 1 0) (Build 1) (λ alias key asks. asks);
}

step5 : IsStep no_meaning pairs (n ∷ []) s4 (event.Claim 1) s5
step5 = record { u = scanned 0; at = refl; scanned = refl; left = omega arith; is = refl }

step6 : IsStep no_meaning pairs (n ∷ []) s5 (event.Route 2 (Build 1)) s6
step6 = record {
  t = single 1 1;
  at = refl;
  legal = record { unstamped = refl; row = 1; part = refl };
  next = refl;
  log = refl;
  pending = refl;
  results = refl;
  asked = none_asked (single 1 1) (Build 1) (λ alias key asks. asks);
}

single_member : (a b : ℕ) → Contains (a ∷ []) b → a ≡ b
single_member a b (zero, low, e) = e
single_member a b (suc k, low, e) = absurd (omega (arith, low))

some_same : {X : Type 0} (i j : X) → Some i ≡ Some j → i ≡ j
some_same i j e = cc

some_none : {X : Type 0} (i : X) → None ≡ Some i → ⊥
some_none i e = cc

-- row 0 of a was built first: there is no row of b before its stamp
step7 : IsStep no_meaning pairs (n ∷ []) s6 (event.Route 0 (Probe 1 (via.Range 0))) s7
step7 = record {
  t = tuple_of 0 0 0;
  at = refl;
  legal = record {
    stamp = 0;
    has = refl;
    u = scanned 0;
    at = refl;
    lacks = refl;
    by = record {
      conjunct = below;
      at = refl;
      undone = refl;
      own = record { alias = 1; column = 0 };
      cmp = Lt;
      other = side.Column record { alias = 0; column = 0 };
      compares = record { is = inr refl };
      of = refl;
      plain = refl;
      covered = λ a h. ap (λ (b : ℕ). is_some (part_of (tuple_of 0 0 0).parts b)) (sym (single_member 0 a h));
      shape = (λ e. absurd cc, λ e. absurd cc);
      look_up = λ e. absurd cc;
    };
  };
  next = refl;
  log = refl;
  pending = refl;
  results = refl;
  asked = none_asked (tuple_of 0 0 0) (Probe 1 (via.Range 0)) (λ alias key asks. asks.1);
}

-- row 0 of b comes before it in the order of values: 1 isn't below 1
none_below : came no_meaning pairs (n ∷ []) log (tuple_of 1 0 1) (Probe 0 (via.Range 0)) ≡ []
none_below = simp truth_of-Compare

step8 : IsStep no_meaning pairs (n ∷ []) s7 (event.Route 0 (Probe 0 (via.Range 0))) s8
step8 = record {
  t = tuple_of 1 0 1;
  at = refl;
  legal = record {
    stamp = 1;
    has = refl;
    u = scanned 0;
    at = refl;
    lacks = refl;
    by = record {
      conjunct = below;
      at = refl;
      undone = refl;
      own = record { alias = 0; column = 0 };
      cmp = Lt;
      other = side.Column record { alias = 1; column = 0 };
      compares = record { is = inl refl };
      of = refl;
      plain = refl;
      covered = λ a h. ap (λ (b : ℕ). is_some (part_of (tuple_of 1 0 1).parts b)) (sym (single_member 1 a h));
      shape = (λ e. absurd cc, λ e. absurd cc);
      look_up = λ e. absurd cc;
    };
  };
  next = refl;
  log = refl;
  pending = sym (ap (pending_after pairs s7.pending 0) none_below);
  results = sym (ap (λ (l : List Tuple). found_of pairs l) none_below);
  asked = none_asked (tuple_of 1 0 1) (Probe 0 (via.Range 0)) (λ alias key asks. asks.1);
}

step9 : IsStep no_meaning pairs (n ∷ []) s8 (event.Route 0 (Probe 0 via.All)) s9
step9 = record {
  t = tuple_of 1 1 2;
  at = refl;
  legal = record { stamp = 2; has = refl; u = scanned 0; at = refl; lacks = refl; by = refl };
  next = refl;
  log = refl;
  pending = refl;
  results = refl;
  asked = none_asked (tuple_of 1 1 2) (Probe 0 via.All) (λ alias key asks. asks.1);
}

-- 1 is below 2: the pair is finished
abbrev done_pair : Tuple
done_pair = record { parts = pair.parts; stamp = Some 2; done = slice_set (replicate 48 false) 0 true; hops = 4 }

pair_finished : came no_meaning pairs (n ∷ []) log pair (Select 0) ≡ done_pair ∷ []
pair_finished = simp truth_of-Compare

pair_covers : CoversAll pair.parts 3
pair_covers zero h = refl
pair_covers (suc zero) h = refl
pair_covers (suc (suc k)) h =
    let one : bit_at 3 (suc (suc k)) ≡ 1 = sym (shr_and_one 3 (suc (suc k))) ∙ (bit_set_by_shift 3 (suc (suc k))).1 h in
    let none : bit_at 3 (suc (suc k)) ≡ 0 = bit_at_above 3 2 (suc (suc k)) (omega arith) (omega arith) in
    absurd (omega (arith, one, none))

step10 : IsStep no_meaning pairs (n ∷ []) s9 (event.Route 0 (Select 0)) s10
step10 = record {
  t = pair;
  at = refl;
  legal = record { conjunct = below; at = refl; covers = pair_covers; undone = refl };
  next = refl;
  log = refl;
  pending = sym (ap (pending_after pairs s9.pending 0) pair_finished);
  results = sym (ap (λ (l : List Tuple). found_of pairs l) pair_finished);
  asked = none_asked pair (Select 0) (λ alias key asks. asks);
}

abbrev pub events : List Event
events =
    event.Claim 0 ∷ event.Route 0 (Build 0) ∷ event.Claim 1 ∷ event.Route 1 (Build 1) ∷ event.Claim 1 ∷ event.Route 2 (Build 1)
    ∷ event.Route 0 (Probe 1 (via.Range 0)) ∷ event.Route 0 (Probe 0 (via.Range 0)) ∷ event.Route 0 (Probe 0 via.All) ∷ event.Route 0 (Select 0) ∷ []

-- the whole table is a run
pub is_run : IsRun no_meaning pairs (n ∷ []) events s10
is_run =
    Stepped _ s9 s10 _ (Stepped _ s8 s9 _ (Stepped _ s7 s8 _ (Stepped _ s6 s7 _ (Stepped _ s5 s6 _ (Stepped _ s4 s5 _ (Stepped _ s3 s4 _ (Stepped _ s2 s3 _ (Stepped _ s1 s2 _ (Stepped _ _ s1 _ Started step1)
    step2) step3) step4) step5) step6) step7) step8) step9) step10

-- how many tuples come of each of its events
abbrev answers : ℕ → ℕ → List ℕ
answers eighth tenth =
    came_count no_meaning pairs (n ∷ []) (empty_state pairs) (event.Claim 0) ∷ came_count no_meaning pairs (n ∷ []) s1 (event.Route 0 (Build 0))
    ∷ came_count no_meaning pairs (n ∷ []) s2 (event.Claim 1) ∷ came_count no_meaning pairs (n ∷ []) s3 (event.Route 1 (Build 1))
    ∷ came_count no_meaning pairs (n ∷ []) s4 (event.Claim 1) ∷ came_count no_meaning pairs (n ∷ []) s5 (event.Route 2 (Build 1))
    ∷ came_count no_meaning pairs (n ∷ []) s6 (event.Route 0 (Probe 1 (via.Range 0))) ∷ eighth
    ∷ came_count no_meaning pairs (n ∷ []) s8 (event.Route 0 (Probe 0 via.All)) ∷ tenth ∷ []

pub answers_are : answers (came_count no_meaning pairs (n ∷ []) s7 (event.Route 0 (Probe 0 (via.Range 0)))) (came_count no_meaning pairs (n ∷ []) s9 (event.Route 0 (Select 0)))
    ≡ 1 ∷ 1 ∷ 1 ∷ 1 ∷ 1 ∷ 1 ∷ 0 ∷ 0 ∷ 1 ∷ 1 ∷ []
answers_are =
    ap (λ (l : List Tuple). answers (length l) (came_count no_meaning pairs (n ∷ []) s9 (event.Route 0 (Select 0)))) none_below
    ∙ ap (λ (l : List Tuple). answers 0 (length l)) pair_finished

-- which hasn't ended: both scans have rows left
pub isnt_ended : HasEnded pairs (n ∷ []) s10 → ⊥
isnt_ended h = let e : 3 ≡ 1 = h.scans 0 (scanned 0) refl refl in absurd (omega (arith, e))

-- a selection of a row that covers one of two aliases is no step
pub no_select : (new : State) → IsStep no_meaning pairs (n ∷ []) s1 (event.Route 0 (Select 0)) new → ⊥
no_select new step =
    let t_is : single 0 0 ≡ step.t = some_same (single 0 0) step.t step.at in
    let c_is : below ≡ step.legal.conjunct = some_same below step.legal.conjunct step.legal.at in
    let covers : CoversAll (single 0 0).parts 3 =
    subst (λ (t : Tuple). CoversAll t.parts 3) (sym t_is) (subst (λ (c : Conjunct). CoversAll step.t.parts c.span) (sym c_is) step.legal.covers) in
    let two : IsBitSet 3 1 = λ e. absurd (omega (arith, e)) in
    false≢true (covers 1 two)

-- and there is no key to end
pub no_end : (new : State) → IsStep no_meaning pairs (n ∷ []) s2 (event.End 0) new → ⊥
no_end new step = some_none step.k step.at
