-- The marks that the rounds make are the least closed set.
use Rattle.std.proofs.Common.{◌≡◌, ◌⊎◌, inl, inr, ℕ, zero, suc, ◌+◌, ◌<◌, ◌≤◌, Bool, true, false, not, ◌||◌, List, [], ◌∷◌, ◌++◌, length, drop, take, get_or, set, map, add-one, Some, None, refl, ap, sym, subst, ◌∙◌, arith, if◌then◌else◌}
use Rattle.std.specs.Prelude.{slice_get, position}
use Rattle.std.specs.List.{list_any, position_or_len}
use Rattle.std.proofs.lemmas.Bool.{false≢true, or_parts, not-true, not-false, true_from_ne_false, lt-ltb}
use Rattle.std.proofs.lemmas.List.{get_or-set_same, length-set, length-map, drop_more, drop_all, take_all, append-nil}
use Rattle.std.proofs.lemmas.List.Quantifiers.{position-Some}
use Rattle.sq_value.specs.declared.value.Cmp.{Cmp}
use Rattle.sq_value.specs.declared.value.Cmp.TheVariants as cmp
use Rattle.sq_expr.specs.Reach.{Compares, IsLed, IsClosed, IsReachable}
use Rattle.sq_expr.specs.declared.cond.ColumnOf.{ColumnOf}
use Rattle.sq_expr.specs.declared.cond.Side.{Side}
use Rattle.sq_expr.specs.declared.cond.Side.TheVariants as side
use Rattle.sq_expr.specs.declared.cond.Cond.{Cond, Cond-F, out-Cond}
use Rattle.sq_expr.specs.declared.cond.Cond.TheOpen as level
use Rattle.sq_expr.specs.declared.cond.Cond.TheVariants.{Compare, rolls-Compare, outs-Compare}
use Rattle.sq_expr.specs.declared.cond.Cond.TheVariants as variants
use Rattle.sq_expr.specs.declared.cond.Arg.{Arg}
use Rattle.sq_value.specs.declared.value.Truth.{Truth}
use Rattle.sq_expr.specs.declared.block.AliasUse.{AliasUse}
use Rattle.sq_expr.specs.declared.block.Block.{Block}
use Rattle.sq_expr.specs.declared.block.Conjunct.{Conjunct}
use Rattle.sq_bind.specs.Answer.{IsFirstUnreached}
use Rattle.sq_bind.specs.Reached.{has, leads, with_column, with_own, with_either, with_compared, with_level, with_cond, spread, rounds, is_scanned, reached, first_unreached}
use Rattle.sq_bind.proofs.MarkLemmas.{looks_up-from, gives-from, reached_within}

-- ---- a round that makes no mark is followed by none that does

abbrev count : List Bool → ℕ
count [] = 0
count (true ∷ marks) = suc (count marks)
count (false ∷ marks) = count marks

count-within : (marks : List Bool) → count marks ≤ length marks
count-within [] = omega arith
count-within (true ∷ marks) = let h = count-within marks in omega (arith, h)
count-within (false ∷ marks) = let h = count-within marks in omega (arith, h)

-- marks stay as they are, or there are more
abbrev Steps : List Bool → List Bool → Type 0
Steps old new = (new ≡ old) ⊎ (count old < count new)

set_steps : (marks : List Bool) (i : ℕ) → Steps marks (set marks i true)
set_steps [] i = inl refl
set_steps (true ∷ marks) zero = inl refl
set_steps (false ∷ marks) zero = inr (omega arith)
set_steps (true ∷ marks) (suc i) = by (set_steps marks i)
  where
    by : Steps marks (set marks i true) → Steps (true ∷ marks) (true ∷ set marks i true)
    by (inl e) = inl (ap (λ (m : List Bool). true ∷ m) e)
    by (inr h) = inr (omega (arith, h))
set_steps (false ∷ marks) (suc i) = by (set_steps marks i)
  where
    by : Steps marks (set marks i true) → Steps (false ∷ marks) (false ∷ set marks i true)
    by (inl e) = inl (ap (λ (m : List Bool). false ∷ m) e)
    by (inr h) = inr h

steps_on : (x y z : List Bool) → Steps x y → Steps y z → Steps x z
steps_on x y z (inl e) (inl f) = inl (f ∙ e)
steps_on x y z (inl e) (inr h) = let same = ap count e in inr (omega (arith, h, same))
steps_on x y z (inr h) (inl f) = let same = ap count f in inr (omega (arith, h, same))
steps_on x y z (inr h) (inr k) = inr (omega (arith, h, k))

-- what comes back stayed on the way
steps_back : (x y z : List Bool) → Steps x y → Steps y z → z ≡ x → y ≡ x
steps_back x y z (inl e) next back = e
steps_back x y z (inr h) (inl f) back = let same = ap count (sym f ∙ back) in absurd (omega (arith, h, same))
steps_back x y z (inr h) (inr k) back = let same = ap count back in absurd (omega (arith, h, k, same))

module _ (uses : List AliasUse) where
  column_steps : (own : ColumnOf) (other : Side) (marks : List Bool) → Steps marks (with_column uses own other marks)
  column_steps own other marks = by (leads uses marks own other)
    where
      by : (b : Bool) → Steps marks (if b then set marks own.alias true else marks)
      by true = set_steps marks own.alias
      by false = inl refl

  own_steps : (x other : Side) (marks : List Bool) → Steps marks (with_own uses x other marks)
  own_steps side.Null other marks = inl refl
  own_steps (side.Text t) other marks = inl refl
  own_steps (side.Column own) other marks = column_steps own other marks
  own_steps (side.Sum terms) other marks = inl refl

  level_steps : (l : Cond-F Cond) (marks : List Bool) → Steps marks (with_level uses l marks)
  level_steps (level.Compare x cmp.Eq y) marks =
      steps_on marks (with_own uses x y marks) (with_either uses x y marks) (own_steps x y marks) (own_steps y x (with_own uses x y marks))
  level_steps (level.Compare x cmp.Ne y) marks = inl refl
  level_steps (level.Compare x cmp.Lt y) marks = inl refl
  level_steps (level.Compare x cmp.Le y) marks = inl refl
  level_steps (level.Compare x cmp.Gt y) marks = inl refl
  level_steps (level.Compare x cmp.Ge y) marks = inl refl
  level_steps (level.IsNull x) marks = inl refl
  level_steps (level.Call number x y) marks = inl refl
  level_steps (level.Not part) marks = inl refl
  level_steps (level.All parts) marks = inl refl
  level_steps (level.Any parts) marks = inl refl
  level_steps (level.Is part named) marks = inl refl

  cond_steps : (c : Cond) (marks : List Bool) → Steps marks (with_cond uses c marks)
  unfolding with_cond
  cond_steps c marks = level_steps (out-Cond c) marks

  spread_steps : (cs : List Conjunct) (marks : List Bool) → Steps marks (spread uses cs marks)
  unfolding spread
  spread_steps [] marks = inl refl
  spread_steps (c ∷ cs) marks =
      steps_on marks (with_cond uses c.cond marks) (spread uses cs (with_cond uses c.cond marks)) (cond_steps c.cond marks)
      (spread_steps cs (with_cond uses c.cond marks))

  -- where a round makes no mark, no conjunct does
  each_still : (cs : List Conjunct) (marks : List Bool) → spread uses cs marks ≡ marks
      → (p : ℕ) (c : Conjunct) → slice_get cs p ≡ Some c → with_cond uses c.cond marks ≡ marks
  unfolding spread
  each_still [] marks still p c at = absurd cc
  each_still (d ∷ cs) marks still zero c at =
      let first = steps_back marks (with_cond uses d.cond marks) (spread uses cs (with_cond uses d.cond marks)) (cond_steps d.cond marks)
      (spread_steps cs (with_cond uses d.cond marks)) still in
      let same : d ≡ c = cc in
      ap (λ (e : Conjunct). with_cond uses e.cond marks) (sym same) ∙ first
  each_still (d ∷ cs) marks still (suc p) c at =
      let first = steps_back marks (with_cond uses d.cond marks) (spread uses cs (with_cond uses d.cond marks)) (cond_steps d.cond marks)
      (spread_steps cs (with_cond uses d.cond marks)) still in
      each_still cs marks (ap (spread uses cs) (sym first) ∙ still) p c at

  module _ (cs : List Conjunct) where
    -- after some rounds there are as many marks, or the next round makes none
    rounds_count : (n : ℕ) (marks : List Bool)
        → ((n + count marks) ≤ count (rounds uses cs n marks)) ⊎ (spread uses cs (rounds uses cs n marks) ≡ rounds uses cs n marks)
    unfolding rounds
    rounds_count zero marks = inl (omega arith)
    rounds_count (suc n) marks = by (rounds_count n marks) (spread_steps cs (rounds uses cs n marks))
      where
        by : ((n + count marks) ≤ count (rounds uses cs n marks)) ⊎ (spread uses cs (rounds uses cs n marks) ≡ rounds uses cs n marks)
            → Steps (rounds uses cs n marks) (spread uses cs (rounds uses cs n marks))
            → ((suc n + count marks) ≤ count (spread uses cs (rounds uses cs n marks)))
            ⊎ (spread uses cs (spread uses cs (rounds uses cs n marks)) ≡ spread uses cs (rounds uses cs n marks))
        by (inr still) next = inr (ap (spread uses cs) still)
        by (inl high) (inl still) = inr (ap (spread uses cs) still)
        by (inl high) (inr more) = inl (omega (arith, more, high))

    length-own : (x other : Side) (marks : List Bool) → length (with_own uses x other marks) ≡ length marks
    length-own side.Null other marks = refl
    length-own (side.Text t) other marks = refl
    length-own (side.Column own) other marks = by (leads uses marks own other)
      where
        by : (b : Bool) → length (if b then set marks own.alias true else marks) ≡ length marks
        by true = length-set marks own.alias true
        by false = refl
    length-own (side.Sum terms) other marks = refl

    length-level : (l : Cond-F Cond) (marks : List Bool) → length (with_level uses l marks) ≡ length marks
    length-level (level.Compare x cmp.Eq y) marks = length-own y x (with_own uses x y marks) ∙ length-own x y marks
    length-level (level.Compare x cmp.Ne y) marks = refl
    length-level (level.Compare x cmp.Lt y) marks = refl
    length-level (level.Compare x cmp.Le y) marks = refl
    length-level (level.Compare x cmp.Gt y) marks = refl
    length-level (level.Compare x cmp.Ge y) marks = refl
    length-level (level.IsNull x) marks = refl
    length-level (level.Call number x y) marks = refl
    length-level (level.Not part) marks = refl
    length-level (level.All parts) marks = refl
    length-level (level.Any parts) marks = refl
    length-level (level.Is part named) marks = refl

    pub length-spread : (ds : List Conjunct) (marks : List Bool) → length (spread uses ds marks) ≡ length marks
    unfolding spread with_cond
    length-spread [] marks = refl
    length-spread (d ∷ ds) marks = length-spread ds (with_cond uses d.cond marks) ∙ length-level (out-Cond d.cond) marks

    length-rounds : (n : ℕ) (marks : List Bool) → length (rounds uses cs n marks) ≡ length marks
    unfolding rounds
    length-rounds zero marks = refl
    length-rounds (suc n) marks = length-spread cs (rounds uses cs n marks) ∙ length-rounds n marks

    -- after as many rounds as there are marks, the next makes none
    last_still : (marks : List Bool) → spread uses cs (rounds uses cs (length marks) marks) ≡ rounds uses cs (length marks) marks
    last_still marks = by (rounds_count (length marks) marks) (spread_steps cs (rounds uses cs (length marks) marks))
      where
        by : ((length marks + count marks) ≤ count (rounds uses cs (length marks) marks))
            ⊎ (spread uses cs (rounds uses cs (length marks) marks) ≡ rounds uses cs (length marks) marks)
            → Steps (rounds uses cs (length marks) marks) (spread uses cs (rounds uses cs (length marks) marks))
            → spread uses cs (rounds uses cs (length marks) marks) ≡ rounds uses cs (length marks) marks
        by (inr still) next = still
        by (inl high) (inl still) = still
        by (inl high) (inr more) =
            let most = count-within (spread uses cs (rounds uses cs (length marks) marks)) in
            let same = length-spread cs (rounds uses cs (length marks) marks) ∙ length-rounds (length marks) marks in
            absurd (omega (arith, high, more, most, same))

-- ---- the marks are a closed set

-- marks stay
Kept : List Bool → List Bool → Type 0
Kept old new = (a : ℕ) → has old a ≡ true → has new a ≡ true

set_keeps : (marks : List Bool) (i : ℕ) → Kept marks (set marks i true)
unfolding Kept
set_keeps [] i a h = h
set_keeps (m ∷ marks) zero zero h = refl
set_keeps (m ∷ marks) zero (suc a) h = h
set_keeps (m ∷ marks) (suc i) zero h = h
set_keeps (m ∷ marks) (suc i) (suc a) h = set_keeps marks i a h

module _ (uses : List AliasUse) where
  own_keeps : (x other : Side) (marks : List Bool) → Kept marks (with_own uses x other marks)
  unfolding Kept
  own_keeps side.Null other marks a h = h
  own_keeps (side.Text t) other marks a h = h
  own_keeps (side.Column own) other marks a h = by (leads uses marks own other)
    where
      by : (b : Bool) → has (if b then set marks own.alias true else marks) a ≡ true
      by true = set_keeps marks own.alias a h
      by false = h
  own_keeps (side.Sum terms) other marks a h = h

  level_keeps : (l : Cond-F Cond) (marks : List Bool) → Kept marks (with_level uses l marks)
  unfolding Kept
  level_keeps (level.Compare x cmp.Eq y) marks a h = own_keeps y x (with_own uses x y marks) a (own_keeps x y marks a h)
  level_keeps (level.Compare x cmp.Ne y) marks a h = h
  level_keeps (level.Compare x cmp.Lt y) marks a h = h
  level_keeps (level.Compare x cmp.Le y) marks a h = h
  level_keeps (level.Compare x cmp.Gt y) marks a h = h
  level_keeps (level.Compare x cmp.Ge y) marks a h = h
  level_keeps (level.IsNull x) marks a h = h
  level_keeps (level.Call number x y) marks a h = h
  level_keeps (level.Not part) marks a h = h
  level_keeps (level.All parts) marks a h = h
  level_keeps (level.Any parts) marks a h = h
  level_keeps (level.Is part named) marks a h = h

  spread_keeps : (cs : List Conjunct) (marks : List Bool) → Kept marks (spread uses cs marks)
  unfolding spread with_cond Kept
  spread_keeps [] marks a h = h
  spread_keeps (c ∷ cs) marks a h = spread_keeps cs (with_cond uses c.cond marks) a (level_keeps (out-Cond c.cond) marks a h)

  rounds_keep : (cs : List Conjunct) (n : ℕ) (marks : List Bool) → Kept marks (rounds uses cs n marks)
  unfolding rounds Kept
  rounds_keep cs zero marks a h = h
  rounds_keep cs (suc n) marks a h = spread_keeps cs (rounds uses cs n marks) a (rounds_keep cs n marks a h)

  -- where an equality makes no mark, the alias that it leads to has one
  own_marked : (own : ColumnOf) (other : Side) (marks : List Bool) → with_own uses (side.Column own) other marks ≡ marks
      → own.alias < length marks → leads uses marks own other ≡ true → has marks own.alias ≡ true
  own_marked own other marks still within h =
      let same : set marks own.alias true ≡ marks = sym (ap (λ (b : Bool). if b then set marks own.alias true else marks) h) ∙ still in
      ap (λ (m : List Bool). has m own.alias) (sym same) ∙ get_or-set_same marks own.alias true false within

  both_still : (x y : Side) (marks : List Bool) → with_cond uses (Compare x cmp.Eq y) marks ≡ marks
      → (with_own uses x y marks ≡ marks) × (with_own uses y x marks ≡ marks)
  unfolding with_cond
  both_still x y marks still =
      let all : with_own uses y x (with_own uses x y marks) ≡ marks = sym (ap (λ (l : Cond-F Cond). with_level uses l marks) (outs-Compare x cmp.Eq y)) ∙ still in
      let first = steps_back marks (with_own uses x y marks) (with_own uses y x (with_own uses x y marks)) (own_steps uses x y marks)
      (own_steps uses y x (with_own uses x y marks)) all in
      (first, ap (with_own uses y x) (sym first) ∙ all)

  own_still : (c : Conjunct) (own : ColumnOf) (other : Side) (marks : List Bool) → Compares c own cmp.Eq other
      → with_cond uses c.cond marks ≡ marks → with_own uses (side.Column own) other marks ≡ marks
  own_still c own other marks h still = by h.is
    where
      by : (c.cond ≡ Compare (side.Column own) cmp.Eq other) ⊎ (c.cond ≡ Compare other cmp.Eq (side.Column own))
          → with_own uses (side.Column own) other marks ≡ marks
      by (inl e) = (both_still (side.Column own) other marks (ap (λ (d : Cond). with_cond uses d marks) (sym e) ∙ still)).0
      by (inr e) = (both_still other (side.Column own) marks (ap (λ (d : Cond). with_cond uses d marks) (sym e) ∙ still)).1

scanned_marked : (uses : List AliasUse) (a : ℕ) (u : AliasUse) → slice_get uses a ≡ Some u → u.access.scan ≡ true → has (map is_scanned uses) a ≡ true
scanned_marked [] a u at scan = absurd cc
scanned_marked (v ∷ uses) zero u at scan = let same : v ≡ u = cc in ap is_scanned same ∙ scan
scanned_marked (v ∷ uses) (suc a) u at scan = scanned_marked uses a u at scan

within_get : {X : Type 0} (xs : List X) (k : ℕ) (x : X) → slice_get xs k ≡ Some x → k < length xs
within_get [] k x at = absurd cc
within_get (y ∷ xs) zero x at = omega arith
within_get (y ∷ xs) (suc k) x at = let h = within_get xs k x at in omega (arith, h)

length-reached : (uses : List AliasUse) (cs : List Conjunct) → length (reached uses cs) ≡ length uses
length-reached uses cs = length-rounds uses cs (length uses) (map is_scanned uses) ∙ length-map uses is_scanned

reached_still : (uses : List AliasUse) (cs : List Conjunct) → spread uses cs (reached uses cs) ≡ reached uses cs
reached_still uses cs =
    subst (λ (n : ℕ). spread uses cs (rounds uses cs n (map is_scanned uses)) ≡ rounds uses cs n (map is_scanned uses)) (length-map uses is_scanned)
    (last_still uses cs (map is_scanned uses))

pub reached_closed : (block : Block) → IsClosed block (has (reached block.aliases block.conjuncts))
unfolding Kept
reached_closed block = record {
  scanned = λ a u at scan. rounds_keep block.aliases block.conjuncts (length block.aliases) (map is_scanned block.aliases) a
      (scanned_marked block.aliases a u at scan);
  led = λ a h. led a h;
}
  where
    led : (a : ℕ) → IsLed block (has (reached block.aliases block.conjuncts)) a → has (reached block.aliases block.conjuncts) a ≡ true
    led a h =
        let marks = reached block.aliases block.conjuncts in
        let used = ap (slice_get block.aliases) h.of ∙ h.used in
        let still = each_still block.aliases block.conjuncts marks (reached_still block.aliases block.conjuncts) h.p h.conjunct h.at in
        let within : h.own.alias < length marks =
        (let low = within_get block.aliases h.own.alias h.u used in let same = length-reached block.aliases block.conjuncts in omega (arith, low, same)) in
        let up = looks_up-from block.aliases h.own h.u used h.look_up in
        let given = gives-from marks h.own.alias h.other h.plain
        (λ x held. (let g = h.led x held in (λ e. g.0 (e ∙ h.of), g.1))) in
        let leads' : leads block.aliases marks h.own h.other ≡ true = rw (up, given) refl in
        ap (has marks) (sym h.of)
        ∙ own_marked block.aliases h.own h.other marks (own_still block.aliases h.conjunct h.own h.other marks h.compares still) within leads'

-- ---- the first alias that isn't reached

record AnyScanned (uses : List AliasUse) : Type 0 where
  first : ℕ
  u : AliasUse
  at : slice_get uses first ≡ Some u
  scan : u.access.scan ≡ true

any_scanned : (uses : List AliasUse) → list_any is_scanned uses ≡ true → AnyScanned uses
any_scanned [] h = absurd (false≢true h)
any_scanned (u ∷ uses) h = by u.access.scan refl (any_scanned uses)
  where
    behind : AnyScanned uses → AnyScanned (u ∷ uses)
    behind s = record { first = suc s.first; u = s.u; at = s.at; scan = s.scan }

    by : (b : Bool) → u.access.scan ≡ b → (list_any is_scanned uses ≡ true → AnyScanned uses) → AnyScanned (u ∷ uses)
    by true e rest = record { first = 0; u = u; at = refl; scan = e }
    by false e rest = behind (rest (sym (ap (λ (b : Bool). b || list_any is_scanned uses) e) ∙ h))

none_scanned : (uses : List AliasUse) → list_any is_scanned uses ≡ false → (k : ℕ) (u : AliasUse) → slice_get uses k ≡ Some u → u.access.scan ≡ true → ⊥
none_scanned [] h k u at scan = absurd cc
none_scanned (v ∷ uses) h zero u at scan =
    let same : v ≡ u = cc in
    let both = or_parts v.access.scan (list_any is_scanned uses) h in
    false≢true (sym both.0 ∙ ap is_scanned same ∙ scan)
none_scanned (v ∷ uses) h (suc k) u at scan = none_scanned uses (or_parts v.access.scan (list_any is_scanned uses) h).1 k u at scan

first_false : (marks : List Bool) (a : ℕ) → a < length marks → has marks a ≡ false → position_or_len not marks ≤ a
first_false [] a low h = absurd (omega (arith, low))
first_false (true ∷ marks) zero low h = absurd (false≢true (sym h))
first_false (false ∷ marks) zero low h = omega arith
first_false (true ∷ marks) (suc a) low h = let rest = first_false marks a (omega (arith, low)) h in omega (arith, rest)
first_false (false ∷ marks) (suc a) low h = omega arith

none_without : (marks : List Bool) → position not marks ≡ None → (a : ℕ) → a < length marks → has marks a ≡ true
none_without marks h a low = true_from_ne_false (has marks a) by
  where
    by : has marks a ≡ false → ⊥
    by e =
        let first = first_false marks a low e in
        let below : position_or_len not marks < length marks = omega (arith, first, low) in
        let is : Some (position_or_len not marks) ≡ None =
        sym (ap (λ (b : Bool). if b then Some (position_or_len not marks) else None) (lt-ltb (position_or_len not marks) (length marks) below)) ∙ h in
        cc

module _ (block : Block) where
  abbrev marked : List Bool
  marked = reached block.aliases block.conjuncts

  pub unreached : (alias : ℕ) → 0 < length block.aliases → first_unreached block ≡ Some alias → IsFirstUnreached block alias
  unfolding first_unreached
  unreached alias some h = by (list_any is_scanned block.aliases) refl h
    where
      by : (b : Bool) → list_any is_scanned block.aliases ≡ b → (if b then position not (reached block.aliases block.conjuncts) else Some 0) ≡ Some alias
          → IsFirstUnreached block alias
      by false e h =
          let zero' : 0 ≡ alias = cc in
          record {
            there = subst (λ (n : ℕ). n < length block.aliases) zero' some;
            unreached = λ r. none_scanned block.aliases e r.scanned r.u r.at r.scan;
            first = λ before low. absurd (let l : before < alias = low in omega (arith, l, zero'));
          }
      by true e h =
          let at = position-Some not (reached block.aliases block.conjuncts) alias false h in
          let scan = any_scanned block.aliases e in
          record {
            there = (let l = at.0 in let same = length-reached block.aliases block.conjuncts in omega (arith, l, same));
            unreached = λ r. false≢true (sym (not-true (has (reached block.aliases block.conjuncts) alias) at.1)
                ∙ r.within (has (reached block.aliases block.conjuncts)) (reached_closed block));
            first = λ before low. record {
              scanned = scan.first;
              u = scan.u;
              at = scan.at;
              scan = scan.scan;
              within = λ set' closed. reached_within block set' closed before (not-false (has (reached block.aliases block.conjuncts) before) (at.2 before low));
            };
          }

  pub all_reached : 0 < length block.aliases → first_unreached block ≡ None → IsReachable block
  unfolding first_unreached
  all_reached some h = by (list_any is_scanned block.aliases) refl h
    where
      by : (b : Bool) → list_any is_scanned block.aliases ≡ b → (if b then position not (reached block.aliases block.conjuncts) else Some 0) ≡ None → IsReachable block
      by false e h = absurd cc
      by true e h =
          let scan = any_scanned block.aliases e in
          record {
            first = scan.first;
            u = scan.u;
            at = scan.at;
            scanned = scan.scan;
            each = λ set' closed alias low. reached_within block set' closed alias
                (none_without (reached block.aliases block.conjuncts) h alias
                (let same = length-reached block.aliases block.conjuncts in omega (arith, low, same)));
          }

-- ---- what the code does, step by step

module _ (uses : List AliasUse) where
  pub with_cond-Compare : (x : Side) (how : Cmp) (y : Side) (marks : List Bool) → with_cond uses (Compare x how y) marks ≡ with_compared uses x how y marks
  unfolding with_cond
  with_cond-Compare x how y marks = ap (λ (l : Cond-F Cond). with_level uses l marks) (outs-Compare x how y)

  pub with_cond-IsNull : (x : Side) (marks : List Bool) → with_cond uses (variants.IsNull x) marks ≡ marks
  unfolding with_cond
  with_cond-IsNull x marks = ap (λ (l : Cond-F Cond). with_level uses l marks) (variants.outs-IsNull x)

  pub with_cond-Call : (number : ℕ) (x y : Arg) (marks : List Bool) → with_cond uses (variants.Call number x y) marks ≡ marks
  unfolding with_cond
  with_cond-Call number x y marks = ap (λ (l : Cond-F Cond). with_level uses l marks) (variants.outs-Call number x y)

  pub with_cond-Not : (part : Cond) (marks : List Bool) → with_cond uses (variants.Not part) marks ≡ marks
  unfolding with_cond
  with_cond-Not part marks = ap (λ (l : Cond-F Cond). with_level uses l marks) (variants.outs-Not part)

  pub with_cond-All : (parts : List Cond) (marks : List Bool) → with_cond uses (variants.All parts) marks ≡ marks
  unfolding with_cond
  with_cond-All parts marks = ap (λ (l : Cond-F Cond). with_level uses l marks) (variants.outs-All parts)

  pub with_cond-Any : (parts : List Cond) (marks : List Bool) → with_cond uses (variants.Any parts) marks ≡ marks
  unfolding with_cond
  with_cond-Any parts marks = ap (λ (l : Cond-F Cond). with_level uses l marks) (variants.outs-Any parts)

  pub with_cond-Is : (part : Cond) (named : Truth) (marks : List Bool) → with_cond uses (variants.Is part named) marks ≡ marks
  unfolding with_cond
  with_cond-Is part named marks = ap (λ (l : Cond-F Cond). with_level uses l marks) (variants.outs-Is part named)

  -- the next conjunct, and the end
  pub next_conjunct : (cs : List Conjunct) (i : ℕ) (d : Conjunct) (marks : List Bool) → i < length cs
      → spread uses (drop (i + 1) cs) (with_cond uses (get_or cs i d).cond marks) ≡ spread uses (drop i cs) marks
  unfolding spread
  next_conjunct cs i d marks low = ap (λ (ds : List Conjunct). spread uses ds marks) (sym (drop_more cs i d low))

  pub last_conjunct : (cs : List Conjunct) (i : ℕ) (marks : List Bool) → length cs ≤ i → marks ≡ spread uses (drop i cs) marks
  unfolding spread
  last_conjunct cs i marks past = ap (λ (ds : List Conjunct). spread uses ds marks) (sym (drop_all i cs past))

  pub no_round : (cs : List Conjunct) (marks : List Bool) → rounds uses cs 0 marks ≡ marks
  unfolding rounds
  no_round cs marks = refl

  pub next_round : (cs : List Conjunct) (n : ℕ) (marks : List Bool) → rounds uses cs (n + 1) marks ≡ spread uses cs (rounds uses cs n marks)
  unfolding rounds
  next_round cs n marks = ap (λ (k : ℕ). rounds uses cs k marks) (add-one n)

-- what a slice that was written to gives back to its vector
pub written_back : {X : Type 0} (n : ℕ) (new items : List X) → n ≡ length items → length new ≡ length items → take n (new ++ drop (length new) items) ≡ new
written_back n new items e f =
    ap (λ rest. take n (new ++ rest)) (drop_all (length new) items (omega (arith, f)))
    ∙ ap (take n) (append-nil new) ∙ take_all n new (omega (arith, e, f))

pub none_any : (block : Block) → list_any is_scanned block.aliases ≡ false → Some 0 ≡ first_unreached block
unfolding first_unreached
none_any block e = sym (ap (λ (b : Bool). if b then position not (reached block.aliases block.conjuncts) else Some 0) e)

pub some_any : (block : Block) → list_any is_scanned block.aliases ≡ true → first_unreached block ≡ position not (reached block.aliases block.conjuncts)
unfolding first_unreached
some_any block e = ap (λ (b : Bool). if b then position not (reached block.aliases block.conjuncts) else Some 0) e

pub position-within : (marks : List Bool) (i : ℕ) → position not marks ≡ Some i → i < length marks
position-within marks i e = (position-Some not marks i false e).0

pub length-all_reached : (uses : List AliasUse) (cs : List Conjunct) → length (reached uses cs) ≡ length uses
length-all_reached uses cs = length-reached uses cs
