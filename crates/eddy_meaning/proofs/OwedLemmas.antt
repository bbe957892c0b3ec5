-- The laws of what a tuple owes: behind its stamp the log doesn't count; a build gives the credit of its stamp; a probe shares out; a finished tuple is its own match.
use Rattle.std.proofs.Common.{◌≡◌, ◌≢◌, ◌⊎◌, inl, inr, ⊎_elim, ℕ, ◌+◌, ◌<◌, ◌≤◌, true, false, List, [], ◌∷◌, ◌++◌, length, get_or, set, take, Option, Some, None, refl, ap, sym, ◌∙◌, arith, subst}
use Rattle.std.specs.Prelude.{◌&&◌, ◌||◌, ◌==◌, not, filter, All, slice_get, slice_set}
use Rattle.std.specs.List.{list_any, flat_map}
use Rattle.std.specs.List.Sorted.{IsPermutation}
use Rattle.std.proofs.lemmas.Bool.{false≢true, eqb-true, eq-eqb, and_parts, and_from, or_cases, or_left, or_right, cases_eq, false_from_ne_true, not-true, not_from_false}
use Rattle.std.proofs.lemmas.List.{take-append-le, get_or-set_same, get_or-set_other}
use Rattle.std.proofs.lemmas.List.Elements.{All-nil, All-cons, All-weaker}
use Rattle.sq_value.specs.Relation.{Relation}
use Rattle.sq_value.specs.declared.value.Value.{Value}
use Rattle.sq_value.specs.declared.value.Truth.{Truth}
use Rattle.sq_expr.specs.declared.block.Block.{Block}
use Rattle.bag_meaning.specs.Bag.{bag, sizes_of}
use Rattle.bag_meaning.specs.Credit.{is_built, all_built, credit}
use Rattle.bag_meaning.specs.declared.combo.Built.{Built}
use Rattle.bag_meaning.proofs.CreditLemmas.{length-bag}
use Rattle.bag_meaning.proofs.ListLemmas.{filter_agree_on, flat_map_agree_on}
use Rattle.eddy_meaning.specs.Tuple.{Agrees}
use Rattle.tuple_span.specs.Parts.{part_of}
use Rattle.eddy_meaning.specs.Log.{HasNoRepeat, rows_built}
use Rattle.eddy_meaning.specs.Owed.{is_part_or_built, is_owed, owed_at}
use Rattle.eddy_meaning.proofs.ListLemmas.{same_from_ways, each_below, from_each_below, IsPermutation-by_all_keys}
use Rattle.eddy_meaning.proofs.LogLemmas.{is_built-rows, AreDistinct-rows_built, HasNoRepeat-take, unbuilt_before, is_built-next, each_built, from_each_built}
use Rattle.eddy_meaning.proofs.MatchLemmas.{length-sizes}

-- what it is to be owed, alias by alias
pub owed_each : (log : List Built) (parts : List (Option ℕ)) (rows : List ℕ) → is_owed log parts rows ≡ true
    → (a : ℕ) → a < length rows → is_part_or_built log (part_of parts a) a (get_or rows a 0) ≡ true
owed_each log parts rows = each_below (λ a. is_part_or_built log (part_of parts a) a (get_or rows a 0)) (length rows)

pub owed_from_each : (log : List Built) (parts : List (Option ℕ)) (rows : List ℕ)
    → ((a : ℕ) → a < length rows → is_part_or_built log (part_of parts a) a (get_or rows a 0) ≡ true) → is_owed log parts rows ≡ true
owed_from_each log parts rows = from_each_below (λ a. is_part_or_built log (part_of parts a) a (get_or rows a 0)) (length rows)

pub at_part : (log : List Built) (o : Option ℕ) (a r row : ℕ) → o ≡ Some r → is_part_or_built log o a row ≡ (r == row)
at_part log o a r row e = ap (λ (p : Option ℕ). is_part_or_built log p a row) e

pub at_none : (log : List Built) (o : Option ℕ) (a row : ℕ) → o ≡ None → is_part_or_built log o a row ≡ is_built log a row
at_none log o a row e = ap (λ (p : Option ℕ). is_part_or_built log p a row) e

-- what is owed agrees
pub agrees_from_owed : (log : List Built) (parts : List (Option ℕ)) (rows : List ℕ) → is_owed log parts rows ≡ true → Agrees parts rows
agrees_from_owed log parts rows h a r low e =
    sym (eqb-true r (get_or rows a 0) (sym (at_part log (part_of parts a) a r (get_or rows a 0) e) ∙ owed_each log parts rows h a low))

module _ (gives : ℕ → Value → Value → Truth) (block : Block) (tables : List Relation) where
  -- 1. behind its stamp the log doesn't count
  pub owed_at-append : (log more : List Built) (stamp : ℕ) (parts : List (Option ℕ)) → stamp ≤ length log
      → owed_at gives block tables (log ++ more) stamp parts ≡ owed_at gives block tables log stamp parts
  unfolding owed_at
  owed_at-append log more stamp parts h =
      ap (λ (front : List Built). filter (is_owed front parts) (bag gives block tables)) (take-append-le stamp log more h)

  -- 2. the tuple of one built row owes what the row's stamp is credited with
  pub owed_at-built : (log : List Built) (k : ℕ) (b : Built) (parts : List (Option ℕ)) → HasNoRepeat log → slice_get log k ≡ Some b
      → b.alias < length block.aliases → part_of parts b.alias ≡ Some b.row → ((a : ℕ) → a ≢ b.alias → part_of parts a ≡ None)
      → owed_at gives block tables log k parts ≡ credit gives block tables log k
  unfolding owed_at credit
  owed_at-built log k b parts once at in' is others =
      filter_agree_on (is_owed (take k log) parts) (λ (rows : List ℕ). all_built (take (k + 1) log) rows && not (all_built (take k log) rows)) (bag gives block tables)
      (All-weaker (λ (rows : List ℕ). length rows ≡ length (sizes_of block tables))
      (λ (rows : List ℕ). is_owed (take k log) parts rows ≡ (all_built (take (k + 1) log) rows && not (all_built (take k log) rows)))
      (λ rows count. same_from_ways (is_owed (take k log) parts rows) (all_built (take (k + 1) log) rows && not (all_built (take k log) rows))
      (there rows (omega (arith, count, length-sizes block tables))) (back rows (omega (arith, count, length-sizes block tables))))
      (bag gives block tables) (length-bag gives block tables))
    where
      there : (rows : List ℕ) → b.alias < length rows → is_owed (take k log) parts rows ≡ true → (all_built (take (k + 1) log) rows && not (all_built (take k log) rows)) ≡ true
      there rows low h =
          let each = owed_each (take k log) parts rows h in
          let own : b.row ≡ get_or rows b.alias 0 =
          eqb-true b.row (get_or rows b.alias 0) (sym (at_part (take k log) (part_of parts b.alias) b.alias b.row (get_or rows b.alias 0) is) ∙ each b.alias low) in
          and_from (all_built (take (k + 1) log) rows) (not (all_built (take k log) rows))
          (from_each_built (take (k + 1) log) rows (λ a within. is_built-next log k b a (get_or rows a 0) at ∙ by a within (cases_eq a b.alias) (each a within) own))
          (not_from_false (all_built (take k log) rows) (false_from_ne_true (all_built (take k log) rows) (λ all.
          let again : is_built (take k log) b.alias b.row ≡ true =
          subst (λ (r : ℕ). is_built (take k log) b.alias r ≡ true) (sym own) (each_built (take k log) rows all b.alias low) in
          false≢true (sym (unbuilt_before log k b once at) ∙ again))))
        where
          by : (a : ℕ) → a < length rows → (a ≡ b.alias) ⊎ (a ≡ b.alias → ⊥) → is_part_or_built (take k log) (part_of parts a) a (get_or rows a 0) ≡ true
              → b.row ≡ get_or rows b.alias 0 → (is_built (take k log) a (get_or rows a 0) || ((b.alias == a) && (b.row == get_or rows a 0))) ≡ true
          by a within (inl e) h own =
              or_right (is_built (take k log) a (get_or rows a 0)) ((b.alias == a) && (b.row == get_or rows a 0))
              (and_from (b.alias == a) (b.row == get_or rows a 0) (eq-eqb b.alias a (sym e))
              (eq-eqb b.row (get_or rows a 0) (own ∙ ap (λ (x : ℕ). get_or rows x 0) (sym e))))
          by a within (inr ne) h own =
              or_left (is_built (take k log) a (get_or rows a 0)) ((b.alias == a) && (b.row == get_or rows a 0))
              (sym (at_none (take k log) (part_of parts a) a (get_or rows a 0) (others a ne)) ∙ h)

      back : (rows : List ℕ) → b.alias < length rows → (all_built (take (k + 1) log) rows && not (all_built (take k log) rows)) ≡ true → is_owed (take k log) parts rows ≡ true
      back rows low h =
          let parts' = and_parts (all_built (take (k + 1) log) rows) (not (all_built (take k log) rows)) h in
          let some : all_built (take k log) rows ≡ false = not-true (all_built (take k log) rows) parts'.1 in
          let each = each_built (take (k + 1) log) rows parts'.0 in
          owed_from_each (take k log) parts rows (λ a within.
          by a (cases_eq a b.alias)
          (or_cases (is_built (take k log) a (get_or rows a 0)) ((b.alias == a) && (b.row == get_or rows a 0)) (sym (is_built-next log k b a (get_or rows a 0) at) ∙ each a within))
          (own (cases_eq b.row (get_or rows b.alias 0)) some each))
        where
          own : (b.row ≡ get_or rows b.alias 0) ⊎ (b.row ≡ get_or rows b.alias 0 → ⊥) → all_built (take k log) rows ≡ false
              → ((a : ℕ) → a < length rows → is_built (take (k + 1) log) a (get_or rows a 0) ≡ true) → b.row ≡ get_or rows b.alias 0
          own (inl e) some each = e
          own (inr ne) some each =
              absurd (false≢true (sym some ∙ from_each_built (take k log) rows (λ a within.
              ⊎_elim (λ before. before)
              (λ here.
              let both = and_parts (b.alias == a) (b.row == get_or rows a 0) here in
              absurd (ne (eqb-true b.row (get_or rows a 0) both.1 ∙ ap (λ (x : ℕ). get_or rows x 0) (sym (eqb-true b.alias a both.0)))))
              (or_cases (is_built (take k log) a (get_or rows a 0)) ((b.alias == a) && (b.row == get_or rows a 0)) (sym (is_built-next log k b a (get_or rows a 0) at) ∙ each a within)))))

          by : (a : ℕ) → (a ≡ b.alias) ⊎ (a ≡ b.alias → ⊥) → (is_built (take k log) a (get_or rows a 0) ≡ true) ⊎ (((b.alias == a) && (b.row == get_or rows a 0)) ≡ true)
              → b.row ≡ get_or rows b.alias 0 → is_part_or_built (take k log) (part_of parts a) a (get_or rows a 0) ≡ true
          by a (inl e) at' same =
              at_part (take k log) (part_of parts a) a b.row (get_or rows a 0) (ap (part_of parts) e ∙ is)
              ∙ eq-eqb b.row (get_or rows a 0) (same ∙ ap (λ (x : ℕ). get_or rows x 0) (sym e))
          by a (inr ne) (inl before) same = at_none (take k log) (part_of parts a) a (get_or rows a 0) (others a ne) ∙ before
          by a (inr ne) (inr here) same = absurd (ne (sym (eqb-true b.alias a (and_parts (b.alias == a) (b.row == get_or rows a 0) here).0)))

  -- 4. what a tuple owes is shared out over the entries of an alias that it lacks
  pub IsPermutation-probe : (log : List Built) (stamp alias : ℕ) (parts : List (Option ℕ)) → HasNoRepeat log
      → part_of parts alias ≡ None → alias < length block.aliases → alias < length parts
      → IsPermutation (owed_at gives block tables log stamp parts)
      (flat_map (λ row. owed_at gives block tables log stamp (slice_set parts alias (Some row))) (rows_built alias (take stamp log)))
  unfolding owed_at
  IsPermutation-probe log stamp alias parts once lacks in' wide =
      let front = take stamp log in
      let matches' = bag gives block tables in
      let shared : IsPermutation (filter (is_owed front parts) matches') (flat_map (λ (r : ℕ). filter (λ (m : List ℕ). (r == get_or m alias 0) && is_owed front parts m) matches') (rows_built alias front)) =
      IsPermutation-by_all_keys (λ (m : List ℕ). get_or m alias 0) (is_owed front parts) matches' (rows_built alias front) (AreDistinct-rows_built alias front (HasNoRepeat-take stamp log once))
      (All-weaker (λ (m : List ℕ). length m ≡ length (sizes_of block tables))
      (λ (m : List ℕ). is_owed front parts m ≡ true → list_any (λ (r : ℕ). r == get_or m alias 0) (rows_built alias front) ≡ true)
      (λ m count h.
      sym (is_built-rows alias (get_or m alias 0) front) ∙ sym (at_none front (part_of parts alias) alias (get_or m alias 0) lacks)
      ∙ owed_each front parts m h alias (omega (arith, count, length-sizes block tables)))
      matches' (length-bag gives block tables)) in
      let each : flat_map (λ (r : ℕ). filter (λ (m : List ℕ). (r == get_or m alias 0) && is_owed front parts m) matches') (rows_built alias front)
      ≡ flat_map (λ (r : ℕ). filter (is_owed front (set parts alias (Some r))) matches') (rows_built alias front) =
      flat_map_agree_on (λ (r : ℕ). filter (λ (m : List ℕ). (r == get_or m alias 0) && is_owed front parts m) matches') (λ (r : ℕ). filter (is_owed front (set parts alias (Some r))) matches')
      (rows_built alias front)
      (All-weaker (λ (r : ℕ). list_any (λ (y : ℕ). y == r) (rows_built alias front) ≡ true)
      (λ (r : ℕ). filter (λ (m : List ℕ). (r == get_or m alias 0) && is_owed front parts m) matches' ≡ filter (is_owed front (set parts alias (Some r))) matches')
      (λ r built. filter_agree_on (λ (m : List ℕ). (r == get_or m alias 0) && is_owed front parts m) (is_owed front (set parts alias (Some r))) matches'
      (All-weaker (λ (m : List ℕ). length m ≡ length (sizes_of block tables))
      (λ (m : List ℕ). ((r == get_or m alias 0) && is_owed front parts m) ≡ is_owed front (set parts alias (Some r)) m)
      (λ m count. same_from_ways ((r == get_or m alias 0) && is_owed front parts m) (is_owed front (set parts alias (Some r)) m)
      (there front r m) (back front r m (is_built-rows alias r front ∙ built) (omega (arith, count, length-sizes block tables))))
      matches' (length-bag gives block tables)))
      (rows_built alias front) (each_listed (rows_built alias front))) in
      subst (λ (l : List (List ℕ)). IsPermutation (filter (is_owed front parts) matches') l) each shared
    where
      each_listed : (rs : List ℕ) → All (λ r. list_any (λ (y : ℕ). y == r) rs ≡ true) rs
      each_listed [] = All-nil (λ (r : ℕ). list_any (λ (y : ℕ). y == r) [] ≡ true)
      each_listed (x ∷ xs) =
          All-cons (λ (r : ℕ). list_any (λ (y : ℕ). y == r) (x ∷ xs) ≡ true) x xs (or_left (x == x) (list_any (λ (y : ℕ). y == x) xs) (eq-eqb x x refl))
          (All-weaker (λ (r : ℕ). list_any (λ (y : ℕ). y == r) xs ≡ true) (λ (r : ℕ). list_any (λ (y : ℕ). y == r) (x ∷ xs) ≡ true)
          (λ r h. or_right (x == r) (list_any (λ (y : ℕ). y == r) xs) h) xs (each_listed xs))

      there : (front : List Built) (r : ℕ) (m : List ℕ) → ((r == get_or m alias 0) && is_owed front parts m) ≡ true → is_owed front (set parts alias (Some r)) m ≡ true
      there front r m h =
          let both = and_parts (r == get_or m alias 0) (is_owed front parts m) h in
          owed_from_each front (set parts alias (Some r)) m (λ a low. by a (cases_eq a alias) both.0 (owed_each front parts m both.1 a low))
        where
          by : (a : ℕ) → (a ≡ alias) ⊎ (a ≡ alias → ⊥) → (r == get_or m alias 0) ≡ true → is_part_or_built front (part_of parts a) a (get_or m a 0) ≡ true
              → is_part_or_built front (part_of (set parts alias (Some r)) a) a (get_or m a 0) ≡ true
          by a (inl e) same h =
              at_part front (part_of (set parts alias (Some r)) a) a r (get_or m a 0)
              (ap (part_of (set parts alias (Some r))) e ∙ get_or-set_same parts alias (Some r) None wide)
              ∙ ap (λ (x : ℕ). r == get_or m x 0) e ∙ same
          by a (inr ne) same h = ap (λ (o : Option ℕ). is_part_or_built front o a (get_or m a 0)) (get_or-set_other parts alias a (Some r) None ne) ∙ h

      back : (front : List Built) (r : ℕ) (m : List ℕ) → is_built front alias r ≡ true → alias < length m → is_owed front (set parts alias (Some r)) m ≡ true
          → ((r == get_or m alias 0) && is_owed front parts m) ≡ true
      back front r m built low h =
          let own : (r == get_or m alias 0) ≡ true =
          sym (at_part front (part_of (set parts alias (Some r)) alias) alias r (get_or m alias 0) (get_or-set_same parts alias (Some r) None wide))
          ∙ owed_each front (set parts alias (Some r)) m h alias low in
          and_from (r == get_or m alias 0) (is_owed front parts m) own
          (owed_from_each front parts m (λ a within. by a (cases_eq a alias) (eqb-true r (get_or m alias 0) own) (owed_each front (set parts alias (Some r)) m h a within)))
        where
          by : (a : ℕ) → (a ≡ alias) ⊎ (a ≡ alias → ⊥) → r ≡ get_or m alias 0 → is_part_or_built front (part_of (set parts alias (Some r)) a) a (get_or m a 0) ≡ true
              → is_part_or_built front (part_of parts a) a (get_or m a 0) ≡ true
          by a (inl e) same h =
              at_none front (part_of parts a) a (get_or m a 0) (ap (part_of parts) e ∙ lacks)
              ∙ ap (λ (x : ℕ). is_built front x (get_or m x 0)) e ∙ ap (is_built front alias) (sym same) ∙ built
          by a (inr ne) same h = ap (λ (o : Option ℕ). is_part_or_built front o a (get_or m a 0)) (sym (get_or-set_other parts alias a (Some r) None ne)) ∙ h
