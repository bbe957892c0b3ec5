-- A run with look-ups, worked out by hand: SELECT name, amt FROM cust c, ord o WHERE c.id = o.cid, where ord has no scan and is looked up by cid.
use Rattle.std.proofs.Common.{◌≡◌, ◌⊎◌, inl, inr, subst, ℕ, zero, suc, List, [], ◌∷◌, Bool, true, false, Option, Some, None, refl, ap, sym, ◌∙◌, pos, arith, replicate}
use Rattle.std.specs.Prelude.{length, ◌≢◌, IsBitSet, codes, All, Contains, slice_get, slice_set, is_some}
use Rattle.std.proofs.lemmas.Bool.{false≢true}
use Rattle.std.proofs.lemmas.List.{append-nil}
use Rattle.std.proofs.lemmas.List.Elements.{All-nil, All-cons, All-head}
use Rattle.sq_value.specs.Rank.{Rank, Number}
use Rattle.sq_value.specs.Relation.{Relation}
use Rattle.sq_value.specs.declared.value.Value.TheVariants.{Null, Int, Text}
use Rattle.sq_value.specs.declared.value.ColType.TheVariants as kind
use Rattle.sq_value.specs.declared.value.Cmp.TheVariants.{Eq}
use Rattle.sq_expr.specs.declared.cond.ColumnOf.{ColumnOf}
use Rattle.sq_expr.specs.declared.cond.Side.{Side}
use Rattle.sq_expr.specs.declared.cond.Side.TheVariants as side
use Rattle.sq_expr.specs.declared.cond.Cond.TheVariants.{Compare}
use Rattle.sq_expr.specs.declared.block.AliasUse.{AliasUse}
use Rattle.sq_expr.specs.declared.block.Block.{Block}
use Rattle.sq_expr.specs.declared.block.Conjunct.{Conjunct}
use Rattle.sq_expr.proofs.MeaningLemmas.{truth_of-Compare}
use Rattle.bag_meaning.specs.declared.combo.Built.{Built}
use Rattle.bag_meaning.specs.declared.combo.Combo.{Combo}
use Rattle.tuple_span.specs.Parts.{no_parts, part_of}
use Rattle.tuple_span.specs.declared.route.Route.{Route}
use Rattle.tuple_span.specs.declared.route.Route.TheVariants.{Build, Probe}
use Rattle.tuple_span.specs.declared.route.Via.TheVariants as via
use Rattle.eddy_meaning.specs.Tuple.{Tuple, CoversAll}
use Rattle.tuple_span.specs.Parts.{rows_of_parts}
use Rattle.eddy_meaning.specs.Keys.{rows_of_key, side_key}
use Rattle.eddy_meaning.specs.Kept.{IsBuiltOrFails}
use Rattle.eddy_meaning.specs.Route.{single, came, AsksFor, IsAsking, IsLegalBy, IsEqual}
use Rattle.eddy_meaning.specs.Act.{pending_after, found_of}
use Rattle.eddy_runs.specs.declared.event.Event.{Event}
use Rattle.eddy_runs.specs.declared.event.Event.TheVariants as event
use Rattle.eddy_runs.specs.Counts.{came_count}
use Rattle.eddy_runs.specs.State.{State, Asked, AskedAfter, IsStep, IsRun, Started, Stepped, IsNewKey, empty_state}
use Rattle.eddy_meaning.proofs.MatchLemmas.{Contains-here, Contains-nil}
use Rattle.eddy_runs.proofs.WorkedScans.{scanned, no_meaning}

abbrev pub cust : Relation
cust = record {
  columns = record { name = codes "id"; kind = kind.Integer } ∷ record { name = codes "name"; kind = kind.Text } ∷ [];
  rows = (Int (pos 1) ∷ Text (codes "Ada") ∷ []) ∷ (Int (pos 2) ∷ Text (codes "Bob") ∷ []) ∷ (Int (pos 3) ∷ Null ∷ []) ∷ [];
}

abbrev pub ord : Relation
ord = record {
  columns = record { name = codes "oid"; kind = kind.Integer } ∷ record { name = codes "cid"; kind = kind.Integer }
      ∷ record { name = codes "amt"; kind = kind.Integer } ∷ [];
  rows = (Int (pos 10) ∷ Int (pos 1) ∷ Int (pos 5) ∷ []) ∷ (Int (pos 11) ∷ Int (pos 1) ∷ Int (pos 7) ∷ [])
      ∷ (Int (pos 12) ∷ Int (pos 2) ∷ Int (pos 5) ∷ []) ∷ (Int (pos 13) ∷ Null ∷ Int (pos 9) ∷ []) ∷ [];
}

abbrev pub tables : List Relation
tables = cust ∷ ord ∷ []

abbrev pub looked_up : AliasUse
looked_up = record { table = 1; access = record { scan = false; look_up = Some 1 } }

-- c.id and o.cid
abbrev pub id : ColumnOf
id = record { alias = 0; column = 0 }

abbrev pub cid : ColumnOf
cid = record { alias = 1; column = 1 }

abbrev pub same : Conjunct
same = record { cond = Compare (side.Column id) Eq (side.Column cid); span = 3 }

abbrev pub orders : Block
orders = record { aliases = scanned 0 ∷ looked_up ∷ []; conjuncts = same ∷ []; output = []; order = [] }

-- the key of 1, in millionths
abbrev pub one : Rank
one = Number (pos 1000000)

abbrev key : ℕ → Bool → Asked
key fetched ended = record { alias = 1; key = one; fetched = fetched; ended = ended }

abbrev built : ℕ → ℕ → Built
built alias row = record { alias = alias; row = row }

abbrev tuple_of : ℕ → ℕ → ℕ → Tuple
tuple_of alias row stamp = record { parts = slice_set no_parts alias (Some row); stamp = Some stamp; done = replicate 48 false; hops = 2 }

-- the first customer with an order, finished
abbrev joined_to : ℕ → ℕ → Tuple
joined_to row stamp = record {
  parts = slice_set (slice_set no_parts 1 (Some row)) 0 (Some 0);
  stamp = Some stamp;
  done = slice_set (replicate 48 false) 0 true;
  hops = 3;
}

abbrev state : List Built → List Tuple → List Combo → List Asked → State
state log pending results asked = record { next = 1 ∷ 0 ∷ []; log = log; pending = pending; results = results; asked = asked }

abbrev combo : ℕ → ℕ → Combo
combo row stamp = record { rows = 0 ∷ row ∷ replicate 10 0; stamp = stamp }

abbrev log1 : List Built
log1 = built 0 0 ∷ []

abbrev log2 : List Built
log2 = built 0 0 ∷ built 1 0 ∷ []

abbrev pub log3 : List Built
log3 = built 0 0 ∷ built 1 0 ∷ built 1 1 ∷ []

abbrev s1 : State
s1 = state [] (single 0 0 ∷ []) [] []

abbrev s2 : State
s2 = state log1 (tuple_of 0 0 0 ∷ []) [] []

abbrev pub s3 : State
s3 = state log1 [] [] (key 0 false ∷ [])

abbrev s4 : State
s4 = state log1 (single 1 0 ∷ []) [] (key 1 false ∷ [])

abbrev pub s5 : State
s5 = state log1 (single 1 0 ∷ single 1 1 ∷ []) [] (key 2 false ∷ [])

abbrev s6 : State
s6 = state log2 (single 1 1 ∷ tuple_of 1 0 1 ∷ []) [] (key 2 false ∷ [])

abbrev s7 : State
s7 = state log3 (tuple_of 1 0 1 ∷ tuple_of 1 1 2 ∷ []) [] (key 2 false ∷ [])

abbrev s8 : State
s8 = state log3 (tuple_of 1 0 1 ∷ tuple_of 1 1 2 ∷ []) [] (key 2 true ∷ [])

abbrev s9 : State
s9 = state log3 (tuple_of 1 1 2 ∷ []) (combo 0 1 ∷ []) (key 2 true ∷ [])

-- the end of the table: rows 0 and 0 with stamp 1, then rows 0 and 1 with stamp 2
abbrev pub s10 : State
s10 = state log3 [] (combo 0 1 ∷ combo 1 2 ∷ []) (key 2 true ∷ [])

some_same : {X : Type 0} (i j : X) → Some i ≡ Some j → i ≡ j
some_same i j e = cc

some_none : {X : Type 0} (i : X) → None ≡ Some i → ⊥
some_none i e = cc

single_member : (a b : ℕ) → Contains (a ∷ []) b → a ≡ b
single_member a b (zero, low, e) = e
single_member a b (suc k, low, e) = absurd (omega (arith, low))

-- nothing is asked for
none_asked : (t : Tuple) (route : Route) (asked : List Asked) → ((alias : ℕ) (key : Rank) → AsksFor orders tables t route alias key → ⊥) → AskedAfter orders tables t route asked asked
none_asked t route asked none = record {
  more = [];
  is = sym (append-nil asked);
  few = omega arith;
  new' = All-nil (IsNewKey orders tables t route asked);
  each = λ alias key asks. absurd (none alias key asks);
}

step1 : IsStep no_meaning orders tables (empty_state orders) (event.Claim 0) s1
step1 = record { u = scanned 0; at = refl; scanned = refl; left = omega arith; is = refl }

step2 : IsStep no_meaning orders tables s1 (event.Route 0 (Build 0)) s2
step2 = record {
  t = single 0 0;
  at = refl;
  legal = record { unstamped = refl; row = 0; part = refl };
  next = refl;
  log = refl;
  pending = refl;
  results = refl;
  asked = none_asked (single 0 0) (Build 0) [] (λ alias key asks. asks);
}

-- the other side of a comparison of o.cid is c.id
other_is : (own : ColumnOf) (other : Side) → own.alias ≡ 1
    → (same.cond ≡ Compare (side.Column own) Eq other) ⊎ (same.cond ≡ Compare other Eq (side.Column own)) → other ≡ side.Column id
other_is own other of (inl e) =
    let s : side.Column id ≡ side.Column own = cc in
    let c : id ≡ own = cc in
    absurd (omega (arith, of, ap (λ (x : ColumnOf). x.alias) c))
other_is own other of (inr e) = cc

-- the one key that the probe of o asks for is 1
key_of_probe : (key : Rank) → IsAsking orders tables (tuple_of 0 0 0) 1 0 key → key ≡ one
key_of_probe key h =
    let c : same ≡ h.conjunct = some_same same h.conjunct h.at in
    let other : h.other ≡ side.Column id = other_is h.own h.other h.of (subst (λ (d : Conjunct). (d.cond ≡ Compare (side.Column h.own) Eq h.other) ⊎ (d.cond ≡ Compare h.other Eq (side.Column h.own))) (sym c) h.compares.is) in
    sym (some_same one key (ap (side_key orders tables (rows_of_parts (tuple_of 0 0 0).parts)) (sym other) ∙ h.is))

asks_one : IsAsking orders tables (tuple_of 0 0 0) 1 0 one
asks_one = record {
  conjunct = same;
  at = refl;
  own = cid;
  other = side.Column id;
  compares = record { is = inr refl };
  of = refl;
  plain = refl;
  covered = λ a h. ap (λ (b : ℕ). is_some (part_of (tuple_of 0 0 0).parts b)) (sym (single_member 0 a h));
  u = looked_up;
  used = refl;
  look_up = refl;
  is = refl;
}

-- the probe finds nothing and asks for key 1 of alias 1
step3 : IsStep no_meaning orders tables s2 (event.Route 0 (Probe 1 (via.Equal 0))) s3
step3 = record {
  t = tuple_of 0 0 0;
  at = refl;
  legal = record {
    stamp = 0;
    has = refl;
    u = looked_up;
    at = refl;
    lacks = refl;
    by = record {
      conjunct = same;
      at = refl;
      undone = refl;
      own = cid;
      cmp = Eq;
      other = side.Column id;
      compares = record { is = inr refl };
      of = refl;
      plain = refl;
      covered = λ a h. ap (λ (b : ℕ). is_some (part_of (tuple_of 0 0 0).parts b)) (sym (single_member 0 a h));
      shape = (refl, id, refl);
      look_up = λ e. (refl, refl);
    };
  };
  next = refl;
  log = refl;
  pending = refl;
  results = refl;
  asked = record {
    more = key 0 false ∷ [];
    is = refl;
    few = omega arith;
    new' = All-cons (IsNewKey orders tables (tuple_of 0 0 0) (Probe 1 (via.Equal 0)) []) (key 0 false) []
        (record { asks = (refl, asks_one); absent = λ a. Contains-nil a.k a.in'; fetched = refl; open' = refl })
        (All-nil (IsNewKey orders tables (tuple_of 0 0 0) (Probe 1 (via.Equal 0)) []));
    each = λ alias rank asks. record {
      k = key 0 false;
      in' = Contains-here (key 0 false) [];
      of = asks.0;
      is = sym (key_of_probe rank asks.1);
    };
  };
}

-- the rows of key 1
rows_of_one : rows_of_key orders tables 1 1 one ≡ 0 ∷ 1 ∷ []
rows_of_one = refl

step4 : IsStep no_meaning orders tables s3 (event.Fetch 0) s4
step4 = record { k = key 0 false; at = refl; u = looked_up; used = refl; column = 1; look_up = refl; row = 0; is_next = refl; is = refl }

step5 : IsStep no_meaning orders tables s4 (event.Fetch 0) s5
step5 = record { k = key 1 false; at = refl; u = looked_up; used = refl; column = 1; look_up = refl; row = 1; is_next = refl; is = refl }

-- the look-up column of the asked key
column_is : (u : AliasUse) (column : ℕ) → slice_get orders.aliases 1 ≡ Some u → u.access.look_up ≡ Some column → 1 ≡ column
column_is u column used look_up =
    some_same 1 column (ap (λ (x : AliasUse). x.access.look_up) (some_same looked_up u used) ∙ look_up)

-- a third fetch is no step
pub no_fetch : (new : State) → IsStep no_meaning orders tables s5 (event.Fetch 0) new → ⊥
no_fetch new step =
    let k_is : step.k ≡ key 2 false = sym (some_same (key 2 false) step.k step.at) in
    let used : slice_get orders.aliases 1 ≡ Some step.u = subst (λ (k : Asked). slice_get orders.aliases k.alias ≡ Some step.u) k_is step.used in
    let next = subst (λ (k : Asked). slice_get (rows_of_key orders tables k.alias step.column k.key) k.fetched ≡ Some step.row) k_is step.is_next in
    some_none step.row (subst (λ (c : ℕ). slice_get (rows_of_key orders tables 1 c one) 2 ≡ Some step.row) (sym (column_is step.u step.column used step.look_up)) next)

-- and the key can't be ended before its rows are built: the row of an order fails no conjunct of its own
pub no_end : (new : State) → IsStep no_meaning orders tables s5 (event.End 0) new → ⊥
no_end new step =
    let k_is : step.k ≡ key 2 false = sym (some_same (key 2 false) step.k step.at) in
    let used : slice_get orders.aliases 1 ≡ Some step.u = subst (λ (k : Asked). slice_get orders.aliases k.alias ≡ Some step.u) k_is step.used in
    let kept = subst (λ (k : Asked). All (IsBuiltOrFails no_meaning orders tables log1 k.alias) (rows_of_key orders tables k.alias step.column k.key)) k_is step.kept in
    by (All-head (IsBuiltOrFails no_meaning orders tables log1 1) 0 (1 ∷ [])
    (subst (λ (c : ℕ). All (IsBuiltOrFails no_meaning orders tables log1 1) (rows_of_key orders tables 1 c one)) (sym (column_is step.u step.column used step.look_up)) kept))
  where
    conjunct_is : (p : ℕ) (c : Conjunct) → slice_get orders.conjuncts p ≡ Some c → same ≡ c
    conjunct_is zero c e = some_same same c e
    conjunct_is (suc p) c e = absurd (some_none c e)

    by : IsBuiltOrFails no_meaning orders tables log1 1 0 → ⊥
    by (inl e) = false≢true e
    by (inr f) =
        let covers : CoversAll f.parts 3 = subst (λ (c : Conjunct). CoversAll f.parts c.span) (sym (conjunct_is f.p f.conjunct f.at)) f.covers in
        let first : IsBitSet 3 0 = λ e. absurd (omega (arith, e)) in
        let other : 0 ≢ 1 = omega arith in
        false≢true (sym (ap (λ (o : Option ℕ). is_some o) (f.alone.alone 0 other)) ∙ covers 0 first)

step6 : IsStep no_meaning orders tables s5 (event.Route 0 (Build 1)) s6
step6 = record {
  t = single 1 0;
  at = refl;
  legal = record { unstamped = refl; row = 0; part = refl };
  next = refl;
  log = refl;
  pending = refl;
  results = refl;
  asked = none_asked (single 1 0) (Build 1) (key 2 false ∷ []) (λ alias key asks. asks);
}

step7 : IsStep no_meaning orders tables s6 (event.Route 0 (Build 1)) s7
step7 = record {
  t = single 1 1;
  at = refl;
  legal = record { unstamped = refl; row = 1; part = refl };
  next = refl;
  log = refl;
  pending = refl;
  results = refl;
  asked = none_asked (single 1 1) (Build 1) (key 2 false ∷ []) (λ alias key asks. asks);
}

step8 : IsStep no_meaning orders tables s7 (event.End 0) s8
step8 = record {
  k = key 2 false;
  at = refl;
  open' = refl;
  u = looked_up;
  used = refl;
  column = 1;
  look_up = refl;
  all = refl;
  kept = All-cons (IsBuiltOrFails no_meaning orders tables log3 1) 0 (1 ∷ []) (inl refl)
      (All-cons (IsBuiltOrFails no_meaning orders tables log3 1) 1 [] (inl refl) (All-nil (IsBuiltOrFails no_meaning orders tables log3 1)));
  is = refl;
}

-- an alias without a look-up column is asked for nothing
asks_none : (t : Tuple) (rank : Rank) → IsAsking orders tables t 0 0 rank → ⊥
asks_none t rank h =
    let u : scanned 0 ≡ h.u = some_same (scanned 0) h.u h.used in
    some_none h.own.column (ap (λ (x : AliasUse). x.access.look_up) u ∙ h.look_up)

probes_c : (row stamp : ℕ) → IsLegalBy IsEqual orders (tuple_of 1 row stamp) 0 (scanned 0) 0
probes_c row stamp = record {
  conjunct = same;
  at = refl;
  undone = refl;
  own = id;
  cmp = Eq;
  other = side.Column cid;
  compares = record { is = inl refl };
  of = refl;
  plain = refl;
  covered = λ a h. ap (λ (b : ℕ). is_some (part_of (tuple_of 1 row stamp).parts b)) (sym (single_member 1 a h));
  shape = (refl, cid, refl);
  look_up = λ e. absurd (false≢true (sym e));
}

came_first : came no_meaning orders tables log3 (tuple_of 1 0 1) (Probe 0 (via.Equal 0)) ≡ joined_to 0 1 ∷ []
came_first = simp truth_of-Compare

came_second : came no_meaning orders tables log3 (tuple_of 1 1 2) (Probe 0 (via.Equal 0)) ≡ joined_to 1 2 ∷ []
came_second = simp truth_of-Compare

step9 : IsStep no_meaning orders tables s8 (event.Route 0 (Probe 0 (via.Equal 0))) s9
step9 = record {
  t = tuple_of 1 0 1;
  at = refl;
  legal = record { stamp = 1; has = refl; u = scanned 0; at = refl; lacks = refl; by = probes_c 0 1 };
  next = refl;
  log = refl;
  pending = sym (ap (pending_after orders s8.pending 0) came_first);
  results = sym (ap (λ (l : List Tuple). found_of orders l) came_first);
  asked = none_asked (tuple_of 1 0 1) (Probe 0 (via.Equal 0)) (key 2 true ∷ []) (λ alias rank asks. asks_none (tuple_of 1 0 1) rank asks.1);
}

step10 : IsStep no_meaning orders tables s9 (event.Route 0 (Probe 0 (via.Equal 0))) s10
step10 = record {
  t = tuple_of 1 1 2;
  at = refl;
  legal = record { stamp = 2; has = refl; u = scanned 0; at = refl; lacks = refl; by = probes_c 1 2 };
  next = refl;
  log = refl;
  pending = sym (ap (pending_after orders s9.pending 0) came_second);
  results = sym (ap (λ (l : List Tuple). combo 0 1 ∷ found_of orders l) came_second);
  asked = none_asked (tuple_of 1 1 2) (Probe 0 (via.Equal 0)) (key 2 true ∷ []) (λ alias rank asks. asks_none (tuple_of 1 1 2) rank asks.1);
}

abbrev pub events : List Event
events =
    event.Claim 0 ∷ event.Route 0 (Build 0) ∷ event.Route 0 (Probe 1 (via.Equal 0)) ∷ event.Fetch 0 ∷ event.Fetch 0 ∷ event.Route 0 (Build 1) ∷ event.Route 0 (Build 1)
    ∷ event.End 0 ∷ event.Route 0 (Probe 0 (via.Equal 0)) ∷ event.Route 0 (Probe 0 (via.Equal 0)) ∷ []

-- the whole table is a run
pub is_run : IsRun no_meaning orders tables events s10
is_run =
    Stepped _ s9 s10 _ (Stepped _ s8 s9 _ (Stepped _ s7 s8 _ (Stepped _ s6 s7 _ (Stepped _ s5 s6 _ (Stepped _ s4 s5 _ (Stepped _ s3 s4 _ (Stepped _ s2 s3 _ (Stepped _ s1 s2 _ (Stepped _ _ s1 _ Started step1)
    step2) step3) step4) step5) step6) step7) step8) step9) step10

-- how many tuples come of each of its events
abbrev answers : ℕ → ℕ → List ℕ
answers ninth tenth =
    came_count no_meaning orders tables (empty_state orders) (event.Claim 0) ∷ came_count no_meaning orders tables s1 (event.Route 0 (Build 0))
    ∷ came_count no_meaning orders tables s2 (event.Route 0 (Probe 1 (via.Equal 0))) ∷ came_count no_meaning orders tables s3 (event.Fetch 0)
    ∷ came_count no_meaning orders tables s4 (event.Fetch 0) ∷ came_count no_meaning orders tables s5 (event.Route 0 (Build 1))
    ∷ came_count no_meaning orders tables s6 (event.Route 0 (Build 1)) ∷ came_count no_meaning orders tables s7 (event.End 0) ∷ ninth ∷ tenth ∷ []

pub answers_are : answers (came_count no_meaning orders tables s8 (event.Route 0 (Probe 0 (via.Equal 0)))) (came_count no_meaning orders tables s9 (event.Route 0 (Probe 0 (via.Equal 0))))
    ≡ 1 ∷ 1 ∷ 0 ∷ 1 ∷ 1 ∷ 1 ∷ 1 ∷ 0 ∷ 1 ∷ 1 ∷ []
answers_are =
    ap (λ (l : List Tuple). answers (length l) (came_count no_meaning orders tables s9 (event.Route 0 (Probe 0 (via.Equal 0))))) came_first
    ∙ ap (λ (l : List Tuple). answers 1 (length l)) came_second
