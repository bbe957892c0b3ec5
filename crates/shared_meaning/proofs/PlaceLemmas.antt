-- The places of pairs in a block's log: they rise with the stamps, and the entries of an alias are those of its table's module, each at its place.
use Rattle.std.proofs.Common.{◌≡◌, ◌⊎◌, inl, inr, ℕ, zero, suc, ◌+◌, ◌*◌, ◌<◌, ◌≤◌, Bool, true, false, cond, List, [], ◌∷◌, ◌++◌, length, get_or, take, drop, Some, refl, ap, sym, ◌∙◌, arith, subst}
use Rattle.std.specs.Prelude.{◌==◌, ◌/◌, ◌%◌, nat_lt, map, filter, slice_get, All}
use Rattle.std.specs.List.{flat_map}
use Rattle.std.proofs.lemmas.Bool.{eq-eqb, ne_eqb, lt-ltb, le-ltb, cases_lt, cases_eq}
use Rattle.std.proofs.lemmas.Nat.{div-mul-add, mod-mul-add}
use Rattle.std.proofs.lemmas.List.{append-nil, append_assoc, length-append, length-map, take_at, take_all, take-take, take-append-drop}
use Rattle.std.proofs.lemmas.List.Concat.{flat_map-append}
use Rattle.bag_meaning.specs.declared.combo.Built.{Built}
use Rattle.eddy_meaning.specs.Entries.{entries_from, entries_of}
use Rattle.eddy_meaning.specs.Shared.{aliases_using, pairs_of, block_log}
use Rattle.eddy_meaning.specs.declared.entry.Entry.{Entry}
use Rattle.eddy_meaning.proofs.LogLemmas.{take-next}
use Rattle.shared_meaning.specs.Places.{pair_stamp, table_at, pair_place, place_at, IsPair, placed_entry}

-- the item behind a front
slice_at : {X : Type 0} (front back : List X) (e : X) → slice_get (front ++ e ∷ back) (length front) ≡ Some e
slice_at [] back e = refl
slice_at (x ∷ front) back e = slice_at front back e

-- the place of a pair of the entry behind a front
pair_place-at : (uses : List ℕ) (front back : List Built) (e : Built) (b : ℕ)
    → pair_place uses (front ++ e ∷ back) (length front) b ≡ length (block_log uses front) + length (aliases_using 0 (take b uses) e.alias)
pair_place-at uses front back e b =
    ap (λ (l : List Built). length (block_log uses l) + length (aliases_using 0 (take b uses) (table_at (front ++ e ∷ back) (length front)))) (take_at front (e ∷ back) (length front) refl)
    ∙ ap (λ (o : Rattle.std.specs.Prelude.Option Built). length (block_log uses front) + length (aliases_using 0 (take b uses) (Rattle.std.specs.Option.option_map_or (λ (x : Built). x.alias) o 0))) (slice_at front back e)

entries_from-append : (b n : ℕ) (xs ys : List Built) → entries_from b n (xs ++ ys) ≡ entries_from b n xs ++ entries_from b (n + length xs) ys
entries_from-append b n [] ys = (let same : n ≡ n + 0 = omega arith in ap (λ (k : ℕ). entries_from b k ys) same)
entries_from-append b n (x ∷ xs) ys =
    let next : (n + 1) + length xs ≡ n + suc (length xs) = omega arith in
    by (x.alias == b) (entries_from-append b (n + 1) xs ys ∙ ap (λ (k : ℕ). entries_from b (n + 1) xs ++ entries_from b k ys) next)
  where
    by : (same : Bool) → entries_from b (n + 1) (xs ++ ys) ≡ entries_from b (n + 1) xs ++ entries_from b (n + suc (length xs)) ys
        → cond same (record { row = x.row; stamp = n } ∷ entries_from b (n + 1) (xs ++ ys)) (entries_from b (n + 1) (xs ++ ys))
        ≡ cond same (record { row = x.row; stamp = n } ∷ entries_from b (n + 1) xs) (entries_from b (n + 1) xs) ++ entries_from b (n + suc (length xs)) ys
    by true e = ap (λ (r : List Entry). record { row = x.row; stamp = n } ∷ r) e
    by false e = e

module _ (table row : ℕ) where
  abbrev mk : List ℕ → List Built
  mk aliases = map (λ (a : ℕ). record { alias = a; row = row }) aliases

  one_more : (first n : ℕ) (rest : List ℕ) (b : ℕ) → (first ≡ b → ⊥) → entries_from b n (mk (first ∷ rest)) ≡ entries_from b (n + 1) (mk rest)
  one_more first n rest b ne =
      ap (λ (t : Bool). cond t (record { row = row; stamp = n } ∷ entries_from b (n + 1) (mk rest)) (entries_from b (n + 1) (mk rest))) (ne_eqb first b ne)

  -- no entry of an alias below the first
  none_below : (first n : ℕ) (uses : List ℕ) (b : ℕ) → b < first → entries_from b n (mk (aliases_using first uses table)) ≡ []
  none_below first n [] b low = refl
  none_below first n (u ∷ uses) b low = by (u == table) (λ m. none_below (first + 1) m uses b (omega arith))
    where
      by : (same : Bool) → ((m : ℕ) → entries_from b m (mk (aliases_using (first + 1) uses table)) ≡ [])
          → entries_from b n (mk (cond same (first ∷ aliases_using (first + 1) uses table) (aliases_using (first + 1) uses table))) ≡ []
      by true none = one_more first n (aliases_using (first + 1) uses table) b (λ e. absurd (omega arith)) ∙ none (n + 1)
      by false none = none n

  -- and one for each alias that uses the table
  one_at : (first n : ℕ) (uses : List ℕ) (j : ℕ) → j < length uses
      → entries_from (first + j) n (mk (aliases_using first uses table))
      ≡ cond (get_or uses j 0 == table) (record { row = row; stamp = n + length (aliases_using first (take j uses) table) } ∷ []) []
  one_at first n [] j low = absurd (omega arith)
  one_at first n (u ∷ uses) zero low = by (u == table)
    where
      same : first + 0 ≡ first
      same = omega arith

      rest : entries_from (first + 0) (n + 1) (mk (aliases_using (first + 1) uses table)) ≡ []
      rest = none_below (first + 1) (n + 1) uses (first + 0) (omega arith)

      by : (t : Bool) → entries_from (first + 0) n (mk (cond t (first ∷ aliases_using (first + 1) uses table) (aliases_using (first + 1) uses table)))
          ≡ cond t (record { row = row; stamp = n + 0 } ∷ []) []
      by true =
          let plus : n ≡ n + 0 = omega arith in
          ap (λ (t : Bool). cond t (record { row = row; stamp = n } ∷ entries_from (first + 0) (n + 1) (mk (aliases_using (first + 1) uses table))) (entries_from (first + 0) (n + 1) (mk (aliases_using (first + 1) uses table)))) (eq-eqb first (first + 0) (sym same))
          ∙ ap (λ (l : List Entry). record { row = row; stamp = n } ∷ l) rest
          ∙ ap (λ (k : ℕ). record { row = row; stamp = k } ∷ []) plus
      by false = none_below (first + 1) n uses (first + 0) (omega arith)
  one_at first n (u ∷ uses) (suc j) low =
      let next : (first + 1) + j ≡ first + suc j = omega arith in
      by (u == table) (λ m.
      subst (λ (b : ℕ). entries_from b m (mk (aliases_using (first + 1) uses table))
      ≡ cond (get_or uses j 0 == table) (record { row = row; stamp = m + length (aliases_using (first + 1) (take j uses) table) } ∷ []) [])
      next (one_at (first + 1) m uses j (omega arith)))
    where
      by : (t : Bool)
          → ((m : ℕ) → entries_from (first + suc j) m (mk (aliases_using (first + 1) uses table))
          ≡ cond (get_or uses j 0 == table) (record { row = row; stamp = m + length (aliases_using (first + 1) (take j uses) table) } ∷ []) [])
          → entries_from (first + suc j) n (mk (cond t (first ∷ aliases_using (first + 1) uses table) (aliases_using (first + 1) uses table)))
          ≡ cond (get_or uses j 0 == table)
          (record { row = row; stamp = n + length (cond t (first ∷ aliases_using (first + 1) (take j uses) table) (aliases_using (first + 1) (take j uses) table)) } ∷ []) []
      by true again =
          let plus : (n + 1) + length (aliases_using (first + 1) (take j uses) table) ≡ n + suc (length (aliases_using (first + 1) (take j uses) table)) = omega arith in
          one_more first n (aliases_using (first + 1) uses table) (first + suc j) (λ e. absurd (omega arith)) ∙ again (n + 1)
          ∙ ap (λ (k : ℕ). cond (get_or uses j 0 == table) (record { row = row; stamp = k } ∷ []) []) plus
      by false again = again n

-- the entries of an alias in the block's log are those of its table's module, each at the place of its pair
entries_behind : (uses : List ℕ) (front back : List Built) (b : ℕ) → b < length uses
    → entries_from b (length (block_log uses front)) (block_log uses back)
    ≡ map (placed_entry uses (front ++ back) b) (entries_from (get_or uses b 0) (length front) back)
entries_behind uses front [] b low = refl
entries_behind uses front (e ∷ back) b low =
    let rest : entries_from b (n + length (pairs_of uses e)) (block_log uses back)
    ≡ map (placed_entry uses (front ++ e ∷ back) b) (entries_from (get_or uses b 0) (length front + 1) back) =
    ap (λ (k : ℕ). entries_from b k (block_log uses back)) longer
    ∙ entries_behind uses (front ++ e ∷ []) back b low
    ∙ ap (λ (l : List Built). map (placed_entry uses l b) (entries_from (get_or uses b 0) (length (front ++ e ∷ [])) back)) (append_assoc front (e ∷ []) back)
    ∙ ap (λ (k : ℕ). map (placed_entry uses (front ++ e ∷ back) b) (entries_from (get_or uses b 0) k back)) (length-append front (e ∷ [])) in
    entries_from-append b n (pairs_of uses e) (block_log uses back)
    ∙ ap (λ (r : List Entry). r ++ entries_from b (n + length (pairs_of uses e)) (block_log uses back)) own
    ∙ ap (λ (r : List Entry). cond (get_or uses b 0 == e.alias) (record { row = e.row; stamp = n + c } ∷ []) [] ++ r) rest
    ∙ by (cases_eq (get_or uses b 0) e.alias)
  where
    n : ℕ
    n = length (block_log uses front)

    c : ℕ
    c = length (aliases_using 0 (take b uses) e.alias)

    own : entries_from b n (pairs_of uses e) ≡ cond (get_or uses b 0 == e.alias) (record { row = e.row; stamp = n + c } ∷ []) []
    own =
        let same : 0 + b ≡ b = omega arith in
        subst (λ (x : ℕ). entries_from x n (pairs_of uses e) ≡ cond (get_or uses b 0 == e.alias) (record { row = e.row; stamp = n + c } ∷ []) []) same
        (one_at e.alias e.row 0 n uses b low)

    longer : n + length (pairs_of uses e) ≡ length (block_log uses (front ++ e ∷ []))
    longer = sym (ap length (flat_map-append (pairs_of uses) front (e ∷ [])) ∙ length-append (block_log uses front) (pairs_of uses e ++ [])
        ∙ ap (λ (l : List Built). n + length l) (append-nil (pairs_of uses e)))

    by : (get_or uses b 0 ≡ e.alias) ⊎ (get_or uses b 0 ≡ e.alias → ⊥)
        → cond (get_or uses b 0 == e.alias) (record { row = e.row; stamp = n + c } ∷ []) [] ++ map (placed_entry uses (front ++ e ∷ back) b) (entries_from (get_or uses b 0) (length front + 1) back)
        ≡ map (placed_entry uses (front ++ e ∷ back) b)
        (cond (e.alias == get_or uses b 0) (record { row = e.row; stamp = length front } ∷ entries_from (get_or uses b 0) (length front + 1) back) (entries_from (get_or uses b 0) (length front + 1) back))
    by (inl same) =
        ap (λ (t : Bool). cond t (record { row = e.row; stamp = n + c } ∷ []) [] ++ map (placed_entry uses (front ++ e ∷ back) b) (entries_from (get_or uses b 0) (length front + 1) back)) (eq-eqb (get_or uses b 0) e.alias same)
        ∙ ap (λ (k : ℕ). record { row = e.row; stamp = k } ∷ map (placed_entry uses (front ++ e ∷ back) b) (entries_from (get_or uses b 0) (length front + 1) back)) (sym (pair_place-at uses front back e b))
        ∙ sym (ap (λ (t : Bool). map (placed_entry uses (front ++ e ∷ back) b)
        (cond t (record { row = e.row; stamp = length front } ∷ entries_from (get_or uses b 0) (length front + 1) back) (entries_from (get_or uses b 0) (length front + 1) back)))
        (eq-eqb e.alias (get_or uses b 0) (sym same)))
    by (inr ne) =
        ap (λ (t : Bool). cond t (record { row = e.row; stamp = n + c } ∷ []) [] ++ map (placed_entry uses (front ++ e ∷ back) b) (entries_from (get_or uses b 0) (length front + 1) back)) (ne_eqb (get_or uses b 0) e.alias ne)
        ∙ sym (ap (λ (t : Bool). map (placed_entry uses (front ++ e ∷ back) b)
        (cond t (record { row = e.row; stamp = length front } ∷ entries_from (get_or uses b 0) (length front + 1) back) (entries_from (get_or uses b 0) (length front + 1) back)))
        (ne_eqb e.alias (get_or uses b 0) (λ f. ne (sym f))))

pub entries_of_block : (uses : List ℕ) (log : List Built) (b : ℕ) → b < length uses
    → entries_of b (block_log uses log) ≡ map (placed_entry uses log b) (entries_of (get_or uses b 0) log)
entries_of_block uses log b low = entries_behind uses [] log b low

-- an alias of the table counts
count_less : (first : ℕ) (uses : List ℕ) (b a t : ℕ) → b < a → a ≤ length uses → get_or uses b 0 ≡ t
    → length (aliases_using first (take b uses) t) + 1 ≤ length (aliases_using first (take a uses) t)
count_less first [] b a t less low is = absurd (omega (arith, less, low))
count_less first (u ∷ uses) b zero t less low is = absurd (omega (arith, less))
count_less first (u ∷ uses) zero (suc a) t less low is =
    subst (λ (s : Bool). 1 ≤ length (cond s (first ∷ aliases_using (first + 1) (take a uses) t) (aliases_using (first + 1) (take a uses) t))) (sym (eq-eqb u t is)) (omega arith)
count_less first (u ∷ uses) (suc b) (suc a) t less low is = by (u == t) (count_less (first + 1) uses b a t (omega (arith, less)) (omega (arith, low)) is)
  where
    by : (s : Bool) → length (aliases_using (first + 1) (take b uses) t) + 1 ≤ length (aliases_using (first + 1) (take a uses) t)
        → length (cond s (first ∷ aliases_using (first + 1) (take b uses) t) (aliases_using (first + 1) (take b uses) t)) + 1
        ≤ length (cond s (first ∷ aliases_using (first + 1) (take a uses) t) (aliases_using (first + 1) (take a uses) t))
    by true again = omega (arith, again)
    by false again = again

-- a longer front gives no shorter log
pub front_longer : (uses : List ℕ) (log : List Built) (p q : ℕ) → p ≤ q → length (block_log uses (take p log)) ≤ length (block_log uses (take q log))
front_longer uses log p q le =
    let split : take p log ++ drop p (take q log) ≡ take q log =
    ap (λ (l : List Built). l ++ drop p (take q log)) (sym (take-take p q log le)) ∙ take-append-drop p (take q log) in
    let long : length (block_log uses (take q log)) ≡ length (block_log uses (take p log)) + length (block_log uses (drop p (take q log))) =
    ap (λ (l : List Built). length (block_log uses l)) (sym split)
    ∙ ap length (flat_map-append (pairs_of uses) (take p log) (drop p (take q log))) ∙ length-append (block_log uses (take p log)) (block_log uses (drop p (take q log))) in
    omega (arith, long)

-- the place of a pair of entry p lies in what that entry adds
pub place_high : (uses : List ℕ) (log : List Built) (p a : ℕ) (e : Built) → slice_get log p ≡ Some e → a < length uses → get_or uses a 0 ≡ e.alias
    → pair_place uses log p a + 1 ≤ length (block_log uses (take (p + 1) log))
place_high uses log p a e at low of =
    let next : length (block_log uses (take (p + 1) log)) ≡ length (block_log uses (take p log)) + length (aliases_using 0 uses e.alias) =
    ap (λ (l : List Built). length (block_log uses l)) (take-next log p e at)
    ∙ ap length (flat_map-append (pairs_of uses) (take p log) (e ∷ []))
    ∙ length-append (block_log uses (take p log)) (pairs_of uses e ++ [])
    ∙ ap (λ (l : List Built). length (block_log uses (take p log)) + length l) (append-nil (pairs_of uses e))
    ∙ ap (λ (k : ℕ). length (block_log uses (take p log)) + k) (length-map (aliases_using 0 uses e.alias) (λ (x : ℕ). record { alias = x; row = e.row })) in
    let is : pair_place uses log p a ≡ length (block_log uses (take p log)) + length (aliases_using 0 (take a uses) e.alias) =
    ap (λ (t : ℕ). length (block_log uses (take p log)) + length (aliases_using 0 (take a uses) t)) (table_is log p e at) in
    let less = subst (λ (us : List ℕ). length (aliases_using 0 (take a uses) e.alias) + 1 ≤ length (aliases_using 0 us e.alias)) (take_all (length uses) uses (omega arith))
    (count_less 0 uses a (length uses) e.alias low (omega arith) of) in
    omega (arith, next, is, less)
  where
    table_is : (log : List Built) (p : ℕ) (e : Built) → slice_get log p ≡ Some e → table_at log p ≡ e.alias
    table_is log p e at = ap (λ (o : Rattle.std.specs.Prelude.Option Built). Rattle.std.specs.Option.option_map_or (λ (x : Built). x.alias) o 0) at

-- of one entry the places rise with the aliases
place_less : (uses : List ℕ) (log : List Built) (p b a : ℕ) (e : Built) → slice_get log p ≡ Some e → b < a → a ≤ length uses → get_or uses b 0 ≡ e.alias
    → pair_place uses log p b + 1 ≤ pair_place uses log p a
place_less uses log p b a e at less low of =
    let table : table_at log p ≡ e.alias = ap (λ (o : Rattle.std.specs.Prelude.Option Built). Rattle.std.specs.Option.option_map_or (λ (x : Built). x.alias) o 0) at in
    let more = count_less 0 uses b a (table_at log p) less low (of ∙ sym table) in
    omega (arith, more)

-- the place of a pair's stamp
pub place_pair : (uses : List ℕ) (log : List Built) (p a : ℕ) → a < 12 → place_at uses log (pair_stamp p a) ≡ pair_place uses log p a
place_pair uses log p a low =
    let same : 12 * p + a ≡ p * 12 + a = omega arith in
    ap (λ (s : ℕ). pair_place uses log (s / 12) (s % 12)) same
    ∙ ap (λ (x : ℕ). pair_place uses log x ((p * 12 + a) % 12)) (div-mul-add p 12 a low)
    ∙ ap (λ (x : ℕ). pair_place uses log p x) (mod-mul-add p 12 a low)

pub place_stamp : (uses : List ℕ) (log : List Built) (s : ℕ) (h : IsPair uses log s) → length uses ≤ 12 → place_at uses log s ≡ pair_place uses log h.p h.a
place_stamp uses log s h few =
    let low : h.a < length uses = h.alias in
    ap (place_at uses log) h.is ∙ place_pair uses log h.p h.a (omega (arith, low, few))

-- the places of pairs rise with their stamps
pub place_rises : (uses : List ℕ) (log : List Built) (s t : ℕ) → IsPair uses log s → IsPair uses log t → length uses ≤ 12 → s < t → place_at uses log s < place_at uses log t
place_rises uses log s t h k few less = by (cases_lt h.p k.p)
  where
    is_s : s ≡ 12 * h.p + h.a
    is_s = h.is

    is_t : t ≡ 12 * k.p + k.a
    is_t = k.is

    low_s : h.a < length uses
    low_s = h.alias

    low_t : k.a < length uses
    low_t = k.alias

    here : place_at uses log s ≡ pair_place uses log h.p h.a
    here = place_stamp uses log s h few

    there : place_at uses log t ≡ pair_place uses log k.p k.a
    there = place_stamp uses log t k few

    by : (h.p < k.p) ⊎ (k.p ≤ h.p) → place_at uses log s < place_at uses log t
    by (inl before) =
        let high = place_high uses log h.p h.a h.e h.at h.alias h.of in
        let up = front_longer uses log (h.p + 1) k.p (omega (arith, before)) in
        omega (arith, high, up, here, there)
    by (inr behind) =
        let same : h.p ≡ k.p = omega (arith, behind, is_s, is_t, less, low_s, low_t, few) in
        let more = place_less uses log h.p h.a k.a h.e h.at (omega (arith, same, is_s, is_t, less)) (omega (arith, low_t)) h.of in
        let there' : place_at uses log t ≡ pair_place uses log h.p k.a = there ∙ ap (λ (x : ℕ). pair_place uses log x k.a) (sym same) in
        omega (arith, more, here, there')

pub place_test : (uses : List ℕ) (log : List Built) (s t : ℕ) → IsPair uses log s → IsPair uses log t → length uses ≤ 12 → nat_lt (place_at uses log s) (place_at uses log t) ≡ nat_lt s t
place_test uses log s t h k few = by (cases_lt s t)
  where
    not_below : t ≤ s → (t < s) ⊎ (s ≤ t) → place_at uses log t ≤ place_at uses log s
    not_below le (inl less) = let rises = place_rises uses log t s k h few less in omega (arith, rises)
    not_below le (inr ge) =
        let same : t ≡ s = omega (arith, le, ge) in
        subst (λ (x : ℕ). place_at uses log t ≤ place_at uses log x) same (omega arith)

    by : (s < t) ⊎ (t ≤ s) → nat_lt (place_at uses log s) (place_at uses log t) ≡ nat_lt s t
    by (inl less) = lt-ltb (place_at uses log s) (place_at uses log t) (place_rises uses log s t h k few less) ∙ sym (lt-ltb s t less)
    by (inr le) = le-ltb (place_at uses log s) (place_at uses log t) (not_below le (cases_lt t s)) ∙ sym (le-ltb s t le)
