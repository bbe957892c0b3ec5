-- What a conjunct's truth says of what a tuple owes: where it isn't True the tuple owes nothing, and a tuple with all rows of which all are True owes its own match.
use Rattle.std.proofs.Common.{◌≡◌, ⊎_elim, ℕ, zero, suc, ◌<◌, ◌≤◌, true, false, List, [], ◌∷◌, length, get_or, take, Option, Some, ap, sym, ◌∙◌, arith, subst}
use Rattle.std.specs.Prelude.{filter, Contains, slice_get, slice_index}
use Rattle.std.specs.Option.{unwrap_or}
use Rattle.std.proofs.lemmas.Bool.{false≢true, eq-eqb, false_from_ne_true}
use Rattle.std.proofs.lemmas.List.{get_or-take, length-take-le, length-map, same_lists, get_or_default}
use Rattle.std.proofs.lemmas.List.Elements.{All-nil, All-weaker, All-filter, All-contains, All-contains_itself, filter_passes}
use Rattle.std.proofs.lemmas.List.Kept.{AllPairs-filter, AllPairs-cons}
use Rattle.std.specs.Ordering.{ordering_reverse}
use Rattle.std.specs.declared.cmp.Ordering.TheVariants.{Less, Greater}
use Rattle.std.proofs.lemmas.Cmp.{nat_list_cmp_total}
use Rattle.sq_value.specs.Relation.{Relation}
use Rattle.sq_value.specs.declared.value.Value.{Value}
use Rattle.sq_value.specs.declared.value.Truth.{Truth}
use Rattle.sq_value.specs.declared.value.Truth.TheVariants.{True}
use Rattle.sq_value.specs.declared.predicate.Kinds.{Kinds}
use Rattle.sq_value.specs.Truth.{is_truth}
use Rattle.sq_expr.specs.Meaning.{truth_of, value_in}
use Rattle.sq_expr.specs.Fits.{IsFit, FitsConjunct, tables_used}
use Rattle.sq_expr.specs.declared.block.Block.{Block}
use Rattle.sq_expr.specs.declared.block.Conjunct.{Conjunct}
use Rattle.sq_expr.specs.declared.block.AliasUse.{AliasUse}
use Rattle.bag_meaning.specs.Bag.{bag, is_match, sizes_of, uses_of}
use Rattle.bag_meaning.specs.declared.combo.Built.{Built}
use Rattle.bag_meaning.proofs.CreditLemmas.{length-bag}
use Rattle.bag_meaning.proofs.ListLemmas.{filter_none}
use Rattle.bag_meaning.proofs.PairLemmas.{AllPairs-nil, same_rising_lists}
use Rattle.bag_meaning.proofs.AnswerLemmas.{IsBefore, AllPairs-bag}
use Rattle.bag_meaning.proofs.ProductRange.{AreBelow}
use Rattle.eddy_meaning.specs.Tuple.{combination_of, CoversAll, Agrees, is_true_of}
use Rattle.tuple_span.specs.Parts.{rows_of_parts}
use Rattle.tuple_span.specs.Parts.{part_of}
use Rattle.eddy_meaning.specs.Owed.{is_owed, owed_at}
use Rattle.eddy_meaning.proofs.MatchLemmas.{All-at, list_all_at, list_all_from, Contains-here, Contains-cons_cases, Contains-nil, Contains-filter, matches, Contains-bag, length-sizes, row_of_part, truth_shared}
use Rattle.eddy_meaning.proofs.OwedLemmas.{owed_from_each, at_part, agrees_from_owed}

AreBelow-from : (sizes rows : List ℕ) → length rows ≡ length sizes → ((a : ℕ) → a < length sizes → get_or rows a 0 < get_or sizes a 0) → AreBelow sizes rows
AreBelow-from [] [] e h = tt
AreBelow-from [] (row ∷ rows) e h = absurd (omega (arith, e))
AreBelow-from (size ∷ sizes) [] e h = absurd (omega (arith, e))
AreBelow-from (size ∷ sizes) (row ∷ rows) e h = (h zero (omega arith), AreBelow-from sizes rows (omega (arith, e)) (λ a low. h (suc a) (omega arith)))

not_before_itself : (x y : List ℕ) → IsBefore x y → IsBefore y x → ⊥
not_before_itself x y h k =
    let e : Less ≡ Greater = sym h ∙ nat_list_cmp_total.antisymm x y ∙ ap ordering_reverse k in
    cc

module _ (gives : ℕ → Value → Value → Truth) (kinds : ℕ → Option Kinds) (block : Block) (tables : List Relation) (fits : IsFit kinds tables block) where
  -- a conjunct that a tuple covers is as true of a match that agrees with it
  pub shared : (p : ℕ) (c : Conjunct) (parts : List (Option ℕ)) (rows : List ℕ) → slice_get block.conjuncts p ≡ Some c → CoversAll parts c.span
      → length rows ≡ length (sizes_of block tables) → Agrees parts rows → is_true_of gives block tables parts c ≡ is_truth (truth_of gives (value_in tables (uses_of block) rows) c.cond) True
  shared p c parts rows at covers count agrees =
      let used : length (uses_of block) ≡ length block.aliases = length-map block.aliases (λ (u : AliasUse). u.table) in
      let long : length (uses_of block) ≤ length rows = omega (arith, count, used, length-sizes block tables) in
      ap (λ (t : Truth). is_truth t True)
      (truth_shared gives kinds tables (uses_of block) rows parts c (All-at (FitsConjunct kinds tables (tables_used block)) block.conjuncts p c fits.conjuncts at) long agrees covers)

  -- each conjunct that a tuple covers is True of it, where it agrees with a match
  pub true_by_match : (p : ℕ) (c : Conjunct) (parts : List (Option ℕ)) (rows : List ℕ) → slice_get block.conjuncts p ≡ Some c → CoversAll parts c.span
      → Contains (bag gives block tables) rows → Agrees parts rows → is_true_of gives block tables parts c ≡ true
  true_by_match p c parts rows at covers in' agrees =
      shared p c parts rows at covers (All-contains (λ (m : List ℕ). length m ≡ length (sizes_of block tables)) (bag gives block tables) rows (length-bag gives block tables) in') agrees
      ∙ list_all_at (λ (d : Conjunct). is_truth (truth_of gives (value_in tables (uses_of block) rows) d.cond) True) block.conjuncts p c
      (All-contains (λ (m : List ℕ). is_match gives block tables m ≡ true) (bag gives block tables) rows (matches gives block tables) in') at

  -- 3. where a conjunct that it covers isn't True, a tuple owes nothing
  pub owed_at-untrue : (log : List Built) (stamp p : ℕ) (c : Conjunct) (parts : List (Option ℕ)) → slice_get block.conjuncts p ≡ Some c → CoversAll parts c.span
      → is_true_of gives block tables parts c ≡ false → owed_at gives block tables log stamp parts ≡ []
  unfolding owed_at
  owed_at-untrue log stamp p c parts at covers untrue =
      filter_none (is_owed (take stamp log) parts) (bag gives block tables)
      (All-weaker (Contains (bag gives block tables)) (λ (m : List ℕ). is_owed (take stamp log) parts m ≡ false)
      (λ m in'. false_from_ne_true (is_owed (take stamp log) parts m) (λ h.
      false≢true (sym untrue ∙ true_by_match p c parts m at covers in' (agrees_from_owed (take stamp log) parts m h))))
      (bag gives block tables) (All-contains_itself (bag gives block tables)))

  -- 5. a tuple with a row of each alias, of which all conjuncts are True, owes its own match
  pub owed_at-finished : (log : List Built) (stamp : ℕ) (parts : List (Option ℕ)) → length block.aliases ≤ length parts
      → ((a : ℕ) → a < length block.aliases → (r : ℕ) × (part_of parts a ≡ Some r) × (r < slice_index (sizes_of block tables) a))
      → ((p : ℕ) (c : Conjunct) → slice_get block.conjuncts p ≡ Some c → CoversAll parts c.span × (is_true_of gives block tables parts c ≡ true))
      → owed_at gives block tables log stamp parts ≡ combination_of block parts ∷ []
  unfolding owed_at
  owed_at-finished log stamp parts wide has held =
      same_rising_lists IsBefore not_before_itself (filter (is_owed (take stamp log) parts) (bag gives block tables)) ((combination_of block parts) ∷ [])
      (AllPairs-filter IsBefore (is_owed (take stamp log) parts) (bag gives block tables) (AllPairs-bag gives block tables))
      (AllPairs-cons IsBefore (combination_of block parts) [] (All-nil (IsBefore (combination_of block parts))) (AllPairs-nil IsBefore))
      (λ m in'. subst (Contains ((combination_of block parts) ∷ [])) (sym (only m
      (All-contains (λ (x : List ℕ). is_owed (take stamp log) parts x ≡ true) (filter (is_owed (take stamp log) parts) (bag gives block tables)) m (filter_passes (is_owed (take stamp log) parts) (bag gives block tables)) in')
      (All-contains (λ (x : List ℕ). length x ≡ length (sizes_of block tables)) (filter (is_owed (take stamp log) parts) (bag gives block tables)) m
      (All-filter (is_owed (take stamp log) parts) (λ (x : List ℕ). length x ≡ length (sizes_of block tables)) (bag gives block tables) (length-bag gives block tables)) in')))
      (Contains-here (combination_of block parts) []))
      (λ m in'. ⊎_elim (λ same. subst (Contains (filter (is_owed (take stamp log) parts) (bag gives block tables))) same
      (Contains-filter (is_owed (take stamp log) parts) (bag gives block tables) (combination_of block parts) is_own
      (Contains-bag gives block tables (combination_of block parts) (AreBelow-from (sizes_of block tables) (combination_of block parts) count_own below)
      (list_all_from (λ (d : Conjunct). is_truth (truth_of gives (value_in tables (uses_of block) (combination_of block parts)) d.cond) True) block.conjuncts (λ p c at.
      sym (shared p c parts (combination_of block parts) at (held p c at).0 count_own agrees_own) ∙ (held p c at).1)))))
      (λ none. absurd (Contains-nil m none)) (Contains-cons_cases m (combination_of block parts) [] in'))
    where
      count_own : length (combination_of block parts) ≡ length (sizes_of block tables)
      count_own =
          let long : length block.aliases ≤ length (rows_of_parts parts) = omega (arith, length-map parts (λ (part : Option ℕ). unwrap_or part 0)) in
          length-take-le (length block.aliases) (rows_of_parts parts) long ∙ sym (length-sizes block tables)

      own_at : (a r : ℕ) → a < length block.aliases → part_of parts a ≡ Some r → get_or (combination_of block parts) a 0 ≡ r
      own_at a r low e = get_or-take (length block.aliases) (rows_of_parts parts) a 0 low ∙ row_of_part parts a r e

      agrees_own : Agrees parts (combination_of block parts)
      agrees_own a r low e = own_at a r (omega (arith, count_own, length-sizes block tables)) e

      below : (a : ℕ) → a < length (sizes_of block tables) → get_or (combination_of block parts) a 0 < get_or (sizes_of block tables) a 0
      below a low =
          let in' : a < length block.aliases = omega (arith, length-sizes block tables) in
          let part = has a in' in
          subst (λ (x : ℕ). x < get_or (sizes_of block tables) a 0) (sym (own_at a part.0 in' part.1)) part.2

      is_own : is_owed (take stamp log) parts (combination_of block parts) ≡ true
      is_own =
          owed_from_each (take stamp log) parts (combination_of block parts) (λ a low.
          let in' : a < length block.aliases = omega (arith, count_own, length-sizes block tables) in
          let part = has a in' in
          at_part (take stamp log) (part_of parts a) a part.0 (get_or (combination_of block parts) a 0) part.1 ∙ eq-eqb part.0 (get_or (combination_of block parts) a 0) (sym (own_at a part.0 in' part.1)))

      only : (m : List ℕ) → is_owed (take stamp log) parts m ≡ true → length m ≡ length (sizes_of block tables) → m ≡ (combination_of block parts)
      only m h count =
          same_lists m (combination_of block parts) (count ∙ sym count_own) (λ a d low.
          let in' : a < length block.aliases = omega (arith, count, length-sizes block tables) in
          let within : a < length (combination_of block parts) = omega (arith, count, count_own) in
          let part = has a in' in
          get_or_default m a d 0 low ∙ agrees_from_owed (take stamp log) parts m h a part.0 low part.1 ∙ sym (own_at a part.0 in' part.1) ∙ get_or_default (combination_of block parts) a 0 d within)
