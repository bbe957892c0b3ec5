-- Reading stamps as places changes nothing of a routing: what is legal, what comes of it, and what is finished.
use Rattle.std.proofs.Common.{◌≡◌, ℕ, ◌+◌, Bool, true, false, cond, List, [], ◌∷◌, ◌++◌, take, drop, suc, Option, Some, None, refl, ap, sym, ◌∙◌}
use Rattle.std.specs.Prelude.{◌&&◌, not, map, filter, is_some, All, slice_get, slice_set}
use Rattle.std.specs.List.{list_all, range_with_len, remove}
use Rattle.std.specs.Option.{option_map, unwrap_or}
use Rattle.std.proofs.lemmas.List.{map-append, take-map, drop-map}
use Rattle.std.proofs.lemmas.List.Elements.{All-head, All-tail}
use Rattle.sq_value.specs.Relation.{Relation}
use Rattle.sq_value.specs.declared.value.Value.{Value}
use Rattle.sq_value.specs.declared.value.Truth.{Truth}
use Rattle.sq_value.specs.declared.value.Cmp.{Cmp}
use Rattle.sq_expr.specs.declared.cond.ColumnOf.{ColumnOf}
use Rattle.sq_expr.specs.declared.cond.Side.{Side}
use Rattle.sq_expr.specs.declared.block.AliasUse.{AliasUse}
use Rattle.sq_expr.specs.declared.block.Block.{Block}
use Rattle.bag_meaning.specs.declared.combo.Built.{Built}
use Rattle.bag_meaning.specs.declared.combo.Combo.{Combo}
use Rattle.tuple_span.specs.Parts.{part_of, is_done}
use Rattle.tuple_span.specs.declared.route.Via.{Via}
use Rattle.tuple_span.specs.declared.route.Via.TheVariants as via
use Rattle.eddy_meaning.specs.Tuple.{Tuple}
use Rattle.eddy_meaning.specs.Act.{unfinished, found_of, pending_after}
use Rattle.eddy_meaning.specs.Faithful.{is_finished, found}
use Rattle.eddy_meaning.specs.Route.{IsLegalSelect, IsLegalBy, IsLegalVia, IsBandEnd, IsEqual, IsLiteral, IsRange, came_of_select, probed, hopped, mark_done, mark_all, joined, holds_at, hold_all}
use Rattle.shared_meaning.specs.Places.{place_at, placed_tuple, placed_combo}
use Rattle.shared_meaning.specs.Settled.{HasPair}

module _ (uses : List ℕ) (log : List Built) where
  some_placed : (o : Option ℕ) → is_some (option_map (place_at uses log) o) ≡ is_some o
  some_placed None = refl
  some_placed (Some s) = refl

  pub finished_placed : (block : Block) (t : Tuple) → is_finished block (placed_tuple uses log t) ≡ is_finished block t
  finished_placed block t =
      ap (λ (b : Bool). b && (list_all (λ a. is_some (part_of t.parts a)) (range_with_len 0 (Rattle.std.specs.Prelude.length block.aliases))
      && list_all (λ p. is_done t p) (range_with_len 0 (Rattle.std.specs.Prelude.length block.conjuncts)))) (some_placed t.stamp)

  found_placed : (block : Block) (t : Tuple) (s : ℕ) → t.stamp ≡ Some s → found block (placed_tuple uses log t) ≡ placed_combo uses log (found block t)
  found_placed block t s has =
      ap (λ (n : ℕ). record (found block t) { stamp = n }) (ap (λ (o : Option ℕ). unwrap_or (option_map (place_at uses log) o) 0) has ∙ sym (ap (λ (o : Option ℕ). place_at uses log (unwrap_or o 0)) has))

  pub found_of_placed : (block : Block) (cs : List Tuple) → All (HasPair uses log) cs → found_of block (map (placed_tuple uses log) cs) ≡ map (placed_combo uses log) (found_of block cs)
  found_of_placed block [] h = refl
  found_of_placed block (t ∷ cs) h =
      let own = All-head (HasPair uses log) t cs h in
      ap (λ (b : Bool). map (found block) (cond b (placed_tuple uses log t ∷ filter (is_finished block) (map (placed_tuple uses log) cs)) (filter (is_finished block) (map (placed_tuple uses log) cs)))) (finished_placed block t)
      ∙ by (is_finished block t) (found_placed block t own.0 own.1) (found_of_placed block cs (All-tail (HasPair uses log) t cs h))
    where
      by : (b : Bool) → found block (placed_tuple uses log t) ≡ placed_combo uses log (found block t)
          → map (found block) (filter (is_finished block) (map (placed_tuple uses log) cs)) ≡ map (placed_combo uses log) (map (found block) (filter (is_finished block) cs))
          → map (found block) (cond b (placed_tuple uses log t ∷ filter (is_finished block) (map (placed_tuple uses log) cs)) (filter (is_finished block) (map (placed_tuple uses log) cs)))
          ≡ map (placed_combo uses log) (map (found block) (cond b (t ∷ filter (is_finished block) cs) (filter (is_finished block) cs)))
      by true own rest = ap (λ (c : Combo). c ∷ map (found block) (filter (is_finished block) (map (placed_tuple uses log) cs))) own ∙ ap (λ (l : List Combo). placed_combo uses log (found block t) ∷ l) rest
      by false own rest = rest

  pub unfinished_placed : (block : Block) (cs : List Tuple) → unfinished block (map (placed_tuple uses log) cs) ≡ map (placed_tuple uses log) (unfinished block cs)
  unfinished_placed block [] = refl
  unfinished_placed block (t ∷ cs) =
      ap (λ (b : Bool). cond (not b) (placed_tuple uses log t ∷ unfinished block (map (placed_tuple uses log) cs)) (unfinished block (map (placed_tuple uses log) cs))) (finished_placed block t)
      ∙ by (not (is_finished block t)) (unfinished_placed block cs)
    where
      by : (b : Bool) → unfinished block (map (placed_tuple uses log) cs) ≡ map (placed_tuple uses log) (unfinished block cs)
          → cond b (placed_tuple uses log t ∷ unfinished block (map (placed_tuple uses log) cs)) (unfinished block (map (placed_tuple uses log) cs))
          ≡ map (placed_tuple uses log) (cond b (t ∷ unfinished block cs) (unfinished block cs))
      by true rest = ap (λ (l : List Tuple). placed_tuple uses log t ∷ l) rest
      by false rest = rest

  pub remove_placed : (pending : List Tuple) (place : ℕ) → remove (map (placed_tuple uses log) pending) place ≡ map (placed_tuple uses log) (remove pending place)
  remove_placed pending place =
      ap (λ (l : List Tuple). l ++ drop (suc place) (map (placed_tuple uses log) pending)) (take-map (placed_tuple uses log) place pending)
      ∙ ap (λ (l : List Tuple). map (placed_tuple uses log) (take place pending) ++ l) (drop-map (placed_tuple uses log) (suc place) pending)
      ∙ sym (map-append (placed_tuple uses log) (take place pending) (drop (suc place) pending))

  pub pending_placed : (block : Block) (pending : List Tuple) (place : ℕ) (cs : List Tuple)
      → pending_after block (map (placed_tuple uses log) pending) place (map (placed_tuple uses log) cs) ≡ map (placed_tuple uses log) (pending_after block pending place cs)
  pending_placed block pending place cs =
      ap (λ (l : List Tuple). l ++ unfinished block (map (placed_tuple uses log) cs)) (remove_placed pending place)
      ∙ ap (λ (l : List Tuple). map (placed_tuple uses log) (remove pending place) ++ l) (unfinished_placed block cs)
      ∙ sym (map-append (placed_tuple uses log) (remove pending place) (unfinished block cs))

  pub at_placed : (pending : List Tuple) (place : ℕ) (t : Tuple) → slice_get pending place ≡ Some t → slice_get (map (placed_tuple uses log) pending) place ≡ Some (placed_tuple uses log t)
  at_placed [] place t at = absurd cc
  at_placed (x ∷ pending) Rattle.std.proofs.Common.zero t at = let is : x ≡ t = cc in ap (λ (u : Tuple). Some (placed_tuple uses log u)) is
  at_placed (x ∷ pending) (suc place) t at = at_placed pending place t at

  -- a selection
  pub select_legal : (block : Block) (t : Tuple) (p : ℕ) → IsLegalSelect block t p → IsLegalSelect block (placed_tuple uses log t) p
  select_legal block t p l = record { conjunct = l.conjunct; at = l.at; covers = l.covers; undone = l.undone }

  pub select_placed : (gives : ℕ → Value → Value → Truth) (block : Block) (tables : List Relation) (t : Tuple) (p : ℕ)
      → came_of_select gives block tables (placed_tuple uses log t) p ≡ map (placed_tuple uses log) (came_of_select gives block tables t p)
  select_placed gives block tables t p = by (holds_at gives block tables t.parts p)
    where
      by : (b : Bool) → cond b (hopped (mark_done p (placed_tuple uses log t)) ∷ []) [] ≡ map (placed_tuple uses log) (cond b (hopped (mark_done p t) ∷ []) [])
      by true = refl
      by false = refl

  -- a probe
  by_legal : (Shape : Cmp → Side → Type 0) (block : Block) (t : Tuple) (alias : ℕ) (u : AliasUse) (p : ℕ) → IsLegalBy Shape block t alias u p → IsLegalBy Shape block (placed_tuple uses log t) alias u p
  by_legal Shape block t alias u p l = record {
    conjunct = l.conjunct;
    at = l.at;
    undone = l.undone;
    own = l.own;
    cmp = l.cmp;
    other = l.other;
    compares = l.compares;
    of = l.of;
    plain = l.plain;
    covered = l.covered;
    shape = l.shape;
    look_up = l.look_up;
  }

  end_placed : (block : Block) (t : Tuple) (own : ColumnOf) (p : ℕ) → IsBandEnd block t own p → IsBandEnd block (placed_tuple uses log t) own p
  end_placed block t own p e = record {
    conjunct = e.conjunct;
    at = e.at;
    undone = e.undone;
    cmp = e.cmp;
    other = e.other;
    compares = e.compares;
    covered = e.covered;
    range = e.range;
  }

  pub via_legal : (block : Block) (t : Tuple) (alias : ℕ) (u : AliasUse) (v : Via) → IsLegalVia block t alias u v → IsLegalVia block (placed_tuple uses log t) alias u v
  unfolding end_placed
  via_legal block t alias u via.All l = l
  via_legal block t alias u (via.Equal p) l = by_legal IsEqual block t alias u p l
  via_legal block t alias u (via.Literal p) l = by_legal IsLiteral block t alias u p l
  via_legal block t alias u (via.Range p) l = by_legal IsRange block t alias u p l
  via_legal block t alias u (via.Band p) l = record {
    scanned = l.scanned;
    own = l.own;
    of = l.of;
    first = end_placed block t l.own p l.first;
    second = end_placed block t l.own (p + 1) l.second;
    apart = l.apart;
  }

  placed_mark : (ps : List ℕ) (t : Tuple) → mark_all ps (placed_tuple uses log t) ≡ placed_tuple uses log (mark_all ps t)
  placed_mark [] t = refl
  placed_mark (p ∷ ps) t = placed_mark ps (mark_done p t)

  pub probe_placed : (gives : ℕ → Value → Value → Truth) (block : Block) (tables : List Relation) (rows : List ℕ) (t : Tuple) (alias : ℕ) (ps : List ℕ)
      → probed gives block tables rows (placed_tuple uses log t) alias ps ≡ map (placed_tuple uses log) (probed gives block tables rows t alias ps)
  probe_placed gives block tables rows t alias ps = each (filter (λ row. hold_all gives block tables (slice_set t.parts alias (Some row)) ps) rows)
    where
      each : (met : List ℕ) → map (λ row. hopped (mark_all ps (joined alias row (placed_tuple uses log t)))) met
          ≡ map (placed_tuple uses log) (map (λ row. hopped (mark_all ps (joined alias row t))) met)
      each [] = refl
      each (row ∷ met) =
          ap (λ (u : Tuple). hopped u ∷ map (λ r. hopped (mark_all ps (joined alias r (placed_tuple uses log t)))) met) (placed_mark ps (joined alias row t))
          ∙ ap (λ (us : List Tuple). placed_tuple uses log (hopped (mark_all ps (joined alias row t))) ∷ us) (each met)
