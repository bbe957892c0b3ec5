-- What comes of a route of a faithful tuple is faithful, and a faithful tuple stays so where the log grows.
use Rattle.std.proofs.Common.{◌≡◌, ◌⊎◌, inl, inr, ⊎_elim, ℕ, zero, suc, ◌+◌, ◌<◌, ◌≤◌, Bool, true, false, cond, List, [], ◌∷◌, ◌++◌, length, get_or, set, take, Option, Some, None, refl, ap, sym, ◌∙◌, arith, subst}
use Rattle.std.specs.Prelude.{◌&&◌, ◌==◌, filter, All, Contains, slice_get, slice_set, slice_index}
use Rattle.std.specs.Option.{unwrap_or}
use Rattle.std.proofs.lemmas.Bool.{cases_eq, or_right, and_from, and_parts, eq-eqb}
use Rattle.std.proofs.lemmas.Option.{slice_get_within}
use Rattle.std.proofs.lemmas.List.{length-map, length-set, take-append-le}
use Rattle.std.proofs.lemmas.List.Elements.{All-nil, All-cons, All-map, All-filter, filter_passes}
use Rattle.sq_value.specs.Relation.{Relation}
use Rattle.sq_value.specs.declared.value.Value.{Value}
use Rattle.sq_value.specs.declared.value.Truth.{Truth}
use Rattle.sq_value.specs.declared.value.Truth.TheVariants.{True}
use Rattle.sq_value.specs.declared.predicate.Kinds.{Kinds}
use Rattle.sq_value.specs.Truth.{is_truth}
use Rattle.sq_expr.specs.Fits.{IsFit, FitsConjunct, tables_used}
use Rattle.sq_expr.specs.declared.block.AliasUse.{AliasUse}
use Rattle.sq_expr.specs.declared.block.Block.{Block}
use Rattle.sq_expr.specs.declared.block.Conjunct.{Conjunct}
use Rattle.bag_meaning.specs.Bag.{sizes_of, uses_of}
use Rattle.bag_meaning.specs.Credit.{is_built}
use Rattle.bag_meaning.specs.declared.combo.Built.{Built}
use Rattle.eddy_meaning.specs.Tuple.{Tuple, CoversAll, is_true_of}
use Rattle.tuple_span.specs.Parts.{rows_of_parts}
use Rattle.tuple_span.specs.Parts.{part_of}
use Rattle.eddy_meaning.specs.Log.{IsBuildLog, IsInRange, rows_built}
use Rattle.eddy_meaning.specs.Route.{came_of_select, came_of_probe, hopped, mark_done, mark_all, joined, with_stamp, holds_at, hold_all}
use Rattle.eddy_meaning.specs.Faithful.{IsFaithful, StandsAt, IsCovered}
use Rattle.tuple_span.specs.Parts.{IsSingle}
use Rattle.eddy_meaning.proofs.LogLemmas.{is_built-next, is_built-front, is_built-whole, rows_are_built, place_of_built, at_longer}
use Rattle.eddy_meaning.proofs.MatchLemmas.{All-at, row_of_part, truth_shared, Contains-here, Contains-there, Contains-nil, Contains-cons_cases}
use Rattle.eddy_meaning.proofs.RouteLemmas.{holds-at}
use Rattle.eddy_meaning.proofs.SoundLemmas.{joined_part, kept_part, done_more, IsSound-hopped, IsSound-mark, IsSound-build, IsSound-joined}

-- a conjunct that is True of parts that cover it
pub record IsHeld (gives : ℕ → Value → Value → Truth) (block : Block) (tables : List Relation) (parts : List (Option ℕ)) (p : ℕ) : Type 0 where
  pub covered : IsCovered block parts p
  pub true' : is_true_of gives block tables parts covered.conjunct ≡ true

-- where the log grows a faithful tuple stays so
pub StandsAt-append : (log more : List Built) (parts : List (Option ℕ)) (stamp : ℕ) → StandsAt log parts stamp → StandsAt (log ++ more) parts stamp
StandsAt-append log more parts stamp h =
    let low : stamp < length log = slice_get_within log stamp h.latest h.at in
    record {
      latest = h.latest;
      at = at_longer log more stamp h.latest h.at;
      own = h.own;
      each = λ a r e. ap (λ (l : List Built). is_built l a r) (take-append-le (stamp + 1) log more (omega arith)) ∙ h.each a r e;
    }

module _ (gives : ℕ → Value → Value → Truth) (block : Block) (tables : List Relation) where
  pub IsFaithful-append : (log more : List Built) (t : Tuple) → IsFaithful gives block tables log t → IsFaithful gives block tables (log ++ more) t
  IsFaithful-append log more t h = record {
    sound = h.sound;
    holds = h.holds;
    stands = λ stamp e. StandsAt-append log more t.parts stamp (h.stands stamp e);
  }

  -- where several conjuncts hold, each does
  pub all_hold : (parts : List (Option ℕ)) (ps : List ℕ) → hold_all gives block tables parts ps ≡ true → (p : ℕ) → Contains ps p → holds_at gives block tables parts p ≡ true
  all_hold parts [] h p m = absurd (Contains-nil p m)
  all_hold parts (q ∷ ps) h p m =
      let both = and_parts (holds_at gives block tables parts q) (hold_all gives block tables parts ps) h in
      ⊎_elim (λ same. ap (holds_at gives block tables parts) (sym same) ∙ both.0) (λ rest. all_hold parts ps both.1 p rest) (Contains-cons_cases p q ps m)

  -- and the other way round
  pub hold_each : (parts : List (Option ℕ)) (ps : List ℕ) → ((p : ℕ) → Contains ps p → holds_at gives block tables parts p ≡ true) → hold_all gives block tables parts ps ≡ true
  hold_each parts [] h = refl
  hold_each parts (q ∷ ps) h =
      and_from (holds_at gives block tables parts q) (hold_all gives block tables parts ps) (h q (Contains-here q ps))
      (hold_each parts ps (λ p m. h p (Contains-there p q ps m)))

  module _ (kinds : ℕ → Option Kinds) (fits : IsFit kinds tables block) where
    -- what is True of a tuple is True of it with a row more
    pub truth_more : (parts : List (Option ℕ)) (alias row p : ℕ) (c : Conjunct) → part_of parts alias ≡ None → length parts ≡ 12 → slice_get block.conjuncts p ≡ Some c → CoversAll parts c.span
        → is_true_of gives block tables parts c ≡ true → is_true_of gives block tables (set parts alias (Some row)) c ≡ true
    truth_more parts alias row p c lacks wide at covers holds =
        let more = set parts alias (Some row) in
        let used : length (uses_of block) ≡ length block.aliases = length-map block.aliases (λ (u : AliasUse). u.table) in
        let long : length (uses_of block) ≤ length (rows_of_parts more) =
        omega (arith, used, fits.few_aliases, length-map more (λ (part : Option ℕ). unwrap_or part 0), length-set parts alias (Some row), wide) in
        let same : is_true_of gives block tables parts c ≡ is_true_of gives block tables more c =
        ap (λ (t : Truth). is_truth t True)
        (truth_shared gives kinds tables (uses_of block) (rows_of_parts more) parts c
        (All-at (FitsConjunct kinds tables (tables_used block)) block.conjuncts p c fits.conjuncts at) long
        (λ a r low e. row_of_part more a r (kept_part parts alias row a r lacks e)) covers) in
        sym same ∙ holds

    pub IsFaithful-hopped : (log : List Built) (t : Tuple) → IsFaithful gives block tables log t → IsFaithful gives block tables log (hopped t)
    IsFaithful-hopped log t h = record { sound = IsSound-hopped block tables t h.sound; holds = h.holds; stands = h.stands }

    -- a conjunct that holds may be marked
    pub IsFaithful-mark : (log : List Built) (t : Tuple) (p : ℕ) → IsFaithful gives block tables log t → IsHeld gives block tables t.parts p → IsFaithful gives block tables log (mark_done p t)
    IsFaithful-mark log t p h held = record {
      sound = IsSound-mark block tables t p h.sound held.covered;
      holds = λ q c e at. ⊎_elim
          (λ same.
          let is : held.covered.conjunct ≡ c = some_conjunct held.covered.conjunct c (sym held.covered.at ∙ ap (slice_get block.conjuncts) (sym same) ∙ at) in
          subst (λ (d : Conjunct). is_true_of gives block tables t.parts d ≡ true) is held.true')
          (λ before. h.holds q c before at) (done_more t p q e);
      stands = h.stands;
    }
      where
        some_conjunct : (c d : Conjunct) → Some c ≡ Some d → c ≡ d
        some_conjunct c d e = cc

    -- and so may several
    pub IsFaithful-mark_all : (log : List Built) (t : Tuple) (by : List ℕ) → IsFaithful gives block tables log t → ((p : ℕ) → Contains by p → IsHeld gives block tables t.parts p)
        → IsFaithful gives block tables log (mark_all by t)
    IsFaithful-mark_all log t [] h held = h
    IsFaithful-mark_all log t (p ∷ ps) h held =
        IsFaithful-mark_all log (mark_done p t) ps (IsFaithful-mark log t p h (held p (Contains-here p ps))) (λ q m. held q (Contains-there q p ps m))

    -- a selection
    pub IsFaithful-select : (log : List Built) (t : Tuple) (p : ℕ) (c : Conjunct) → slice_get block.conjuncts p ≡ Some c → CoversAll t.parts c.span
        → IsFaithful gives block tables log t → All (IsFaithful gives block tables log) (came_of_select gives block tables t p)
    IsFaithful-select log t p c at covers h = by (holds_at gives block tables t.parts p) refl
      where
        by : (b : Bool) → holds_at gives block tables t.parts p ≡ b → All (IsFaithful gives block tables log) (cond b (hopped (mark_done p t) ∷ []) [])
        by true e =
            All-cons (IsFaithful gives block tables log) (hopped (mark_done p t)) []
            (IsFaithful-hopped log (mark_done p t)
            (IsFaithful-mark log t p h record { covered = record { conjunct = c; at = at; covers = covers }; true' = sym (holds-at gives block tables t.parts p c at) ∙ e }))
            (All-nil (IsFaithful gives block tables log))
        by false e = All-nil (IsFaithful gives block tables log)

    -- a build
    pub IsFaithful-build : (log : List Built) (t : Tuple) (k alias row : ℕ) → slice_get log k ≡ Some (record { alias = alias; row = row })
        → IsSingle t.parts alias row → IsFaithful gives block tables log t → IsFaithful gives block tables log (hopped (with_stamp k t))
    IsFaithful-build log t k alias row at single h = record {
      sound = IsSound-build block tables t k h.sound;
      holds = h.holds;
      stands = λ stamp e. subst (StandsAt log t.parts) (some_same k stamp e) stands;
    }
      where
        some_same : (i j : ℕ) → Some i ≡ Some j → i ≡ j
        some_same i j e = cc

        stands : StandsAt log t.parts k
        stands = record {
          latest = record { alias = alias; row = row };
          at = at;
          own = single.part;
          each = λ a r e. each a r e (cases_eq a alias);
        }
          where
            each : (a r : ℕ) → part_of t.parts a ≡ Some r → (a ≡ alias) ⊎ (a ≡ alias → ⊥) → is_built (take (k + 1) log) a r ≡ true
            each a r e (inl same) =
                let row_is : r ≡ row = some_same r row (sym e ∙ ap (part_of t.parts) same ∙ single.part) in
                let here : is_built (take (k + 1) log) alias row ≡ true =
                is_built-next log k record { alias = alias; row = row } alias row at
                ∙ or_right (is_built (take k log) alias row) ((alias == alias) && (row == row)) (and_from (alias == alias) (row == row) (eq-eqb alias alias refl) (eq-eqb row row refl)) in
                rw (same, row_is) here
            each a r e (inr ne) = absurd (none_is_some (sym (single.alone a ne) ∙ e))
              where
                none_is_some : None ≡ Some r → ⊥
                none_is_some e = cc

    -- a probe
    pub IsFaithful-probe : (log : List Built) (t : Tuple) (stamp alias : ℕ) (by : List ℕ) → IsBuildLog block tables log → t.stamp ≡ Some stamp
        → part_of t.parts alias ≡ None → alias < length block.aliases
        → ((p : ℕ) → Contains by p → (c : Conjunct) × (slice_get block.conjuncts p ≡ Some c) × ((row : ℕ) → CoversAll (slice_set t.parts alias (Some row)) c.span))
        → IsFaithful gives block tables log t → All (IsFaithful gives block tables log) (came_of_probe gives block tables log t stamp alias by)
    IsFaithful-probe log t stamp alias by built has lacks in' meets h =
        let rows = rows_built alias (take stamp log) in
        let passes = λ (row : ℕ). hold_all gives block tables (slice_set t.parts alias (Some row)) by in
        All-map (IsFaithful gives block tables log) (λ (row : ℕ). hopped (mark_all by (joined alias row t))) (filter passes rows)
        (λ k d low. one (get_or (filter passes rows) k d) (filter_passes passes rows k d low)
        (All-filter passes (λ (row : ℕ). is_built (take stamp log) alias row ≡ true) rows (rows_are_built alias (take stamp log)) k d low))
      where
        wide : alias < length t.parts
        wide = omega (arith, h.sound.wide, fits.few_aliases)

        with_row : (row : ℕ) → is_built (take stamp log) alias row ≡ true → IsFaithful gives block tables log (joined alias row t)
        with_row row before = record {
          sound = IsSound-joined block tables t stamp alias row fits.few_aliases has lacks in' in_table h.sound;
          holds = λ p c e at.
              let covered = h.sound.done p e in
              let is : covered.conjunct ≡ c = some_conjunct covered.conjunct c (sym covered.at ∙ at) in
              truth_more t.parts alias row p c lacks h.sound.wide at (subst (λ (d : Conjunct). CoversAll t.parts d.span) is covered.covers) (h.holds p c e at);
          stands = λ s e. stands s (h.stands s e) (some_same stamp s (sym has ∙ e));
        }
          where
            some_conjunct : (c d : Conjunct) → Some c ≡ Some d → c ≡ d
            some_conjunct c d e = cc

            some_same : (i j : ℕ) → Some i ≡ Some j → i ≡ j
            some_same i j e = cc

            in_table : row < slice_index (sizes_of block tables) alias
            in_table =
                let place = place_of_built log alias row (is_built-whole log stamp alias row before) in
                let entry = All-at (IsInRange block tables) log place.0 place.1 built.in_range place.2 in
                rw (place.3, place.4) at (entry.row)

            stands : (s : ℕ) → StandsAt log t.parts s → stamp ≡ s → StandsAt log (set t.parts alias (Some row)) s
            stands s k same = record {
              latest = k.latest;
              at = k.at;
              own = kept_part t.parts alias row k.latest.alias k.latest.row lacks k.own;
              each = λ a r e. ⊎_elim (λ here.
                  let low : stamp ≤ s + 1 = omega (arith, same) in
                  let up : is_built (take (s + 1) log) alias row ≡ true = is_built-front log stamp (s + 1) alias row low before in
                  rw (here.0, here.1) up) (λ there. k.each a r there.1) (joined_part t.parts alias row a r wide e);
            }

        one : (row : ℕ) → hold_all gives block tables (slice_set t.parts alias (Some row)) by ≡ true → is_built (take stamp log) alias row ≡ true
            → IsFaithful gives block tables log (hopped (mark_all by (joined alias row t)))
        one row holds before =
            IsFaithful-hopped log (mark_all by (joined alias row t))
            (IsFaithful-mark_all log (joined alias row t) by (with_row row before) (λ p e.
            let m = meets p e in
            record {
              covered = record { conjunct = m.0; at = m.1; covers = m.2 row };
              true' = sym (holds-at gives block tables (slice_set t.parts alias (Some row)) p m.0 m.1) ∙ all_hold (slice_set t.parts alias (Some row)) by holds p e;
            }))

at_of_front : (log : List Built) (n k : ℕ) (b : Built) → slice_get (take n log) k ≡ Some b → (k < n) × (slice_get log k ≡ Some b)
at_of_front [] zero k b e = absurd cc
at_of_front [] (suc n) k b e = absurd cc
at_of_front (c ∷ log) zero k b e = absurd cc
at_of_front (c ∷ log) (suc n) zero b e = (omega arith, e)
at_of_front (c ∷ log) (suc n) (suc k) b e = let rest = at_of_front log n k b e in (omega (arith, rest.0), rest.1)

-- each part of a tuple that stands in the log has a stamp of its own, its place there, and the tuple's is the greatest
pub stamp_of_part : (log : List Built) (parts : List (Option ℕ)) (stamp a r : ℕ) → StandsAt log parts stamp → part_of parts a ≡ Some r
    → (k : ℕ) × (slice_get log k ≡ Some (record { alias = a; row = r })) × (k ≤ stamp)
stamp_of_part log parts stamp a r h e =
    let place = place_of_built (take (stamp + 1) log) a r (h.each a r e) in
    let at = at_of_front log (stamp + 1) place.0 place.1 place.2 in
    let is : place.1 ≡ record { alias = a; row = r } =
    ap (λ (x : ℕ). record { alias = x; row = place.1.row }) place.3 ∙ ap (λ (x : ℕ). record { alias = a; row = x }) place.4 in
    (place.0, at.1 ∙ ap (λ (b : Built). Some b) is, omega (arith, at.0))

-- and the other way round
pub StandsAt-from_stamps : (log : List Built) (parts : List (Option ℕ)) (stamp : ℕ)
    → ((a r : ℕ) → part_of parts a ≡ Some r → (k : ℕ) × (slice_get log k ≡ Some (record { alias = a; row = r })) × (k ≤ stamp))
    → (a r : ℕ) → part_of parts a ≡ Some r → slice_get log stamp ≡ Some (record { alias = a; row = r }) → StandsAt log parts stamp
StandsAt-from_stamps log parts stamp each a r part at = record {
  latest = record { alias = a; row = r };
  at = at;
  own = part;
  each = λ b s e.
      let k = each b s e in
      is_built-front log (k.0 + 1) (stamp + 1) b s (omega (arith, k.2))
      (is_built-next log k.0 record { alias = b; row = s } b s k.1
      ∙ or_right (is_built (take k.0 log) b s) ((b == b) && (s == s)) (and_from (b == b) (s == s) (eq-eqb b b refl) (eq-eqb s s refl)));
}
