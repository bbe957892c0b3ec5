-- The log that a block gets from a shared one is a build log, and what stands in it before a place is what the modules of the tables hold.
use Rattle.std.proofs.Common.{◌≡◌, ◌⊎◌, inl, inr, ℕ, zero, suc, ◌+◌, ◌*◌, ◌<◌, ◌≤◌, Bool, true, false, cond, List, [], ◌∷◌, ◌++◌, length, get_or, take, drop, Some, refl, ap, sym, ◌∙◌, arith, subst}
use Rattle.std.specs.Prelude.{◌==◌, nat_lt, map, filter, slice_get}
use Rattle.std.specs.List.{list_any}
use Rattle.std.proofs.lemmas.Bool.{eqb-true, eq-eqb, ne_eqb, lt-ltb, le-ltb, cases_lt, cases_eq, or_from}
use Rattle.std.proofs.lemmas.List.{append-nil, append_assoc, map-append, length-append, length-map, take_at, take-append-drop, get_or-take, length-take-le}
use Rattle.std.proofs.lemmas.List.Concat.{flat_map-append}
use Rattle.std.proofs.lemmas.List.Elements.{filter-append}
use Rattle.bag_meaning.specs.Credit.{is_built}
use Rattle.bag_meaning.specs.declared.combo.Built.{Built}
use Rattle.bag_meaning.proofs.CreditLemmas.{is_built-append}
use Rattle.eddy_meaning.specs.Log.{HasNoRepeat, rows_built}
use Rattle.eddy_meaning.specs.Shared.{aliases_using, pairs_of, block_log, place_in}
use Rattle.eddy_meaning.proofs.LogLemmas.{is_built-rows}

abbrev pub mk : ℕ → List ℕ → List Built
mk row aliases = map (λ (a : ℕ). record { alias = a; row = row }) aliases

rows_built-append : (b : ℕ) (xs ys : List Built) → rows_built b (xs ++ ys) ≡ rows_built b xs ++ rows_built b ys
rows_built-append b xs ys =
    ap (map (λ (c : Built). c.row)) (filter-append (λ (c : Built). c.alias == b) xs ys) ∙ map-append (λ (c : Built). c.row) (filter (λ (c : Built). c.alias == b) xs) (filter (λ (c : Built). c.alias == b) ys)

module _ (table row : ℕ) where
  abbrev pairs_from : ℕ → List ℕ → List Built
  pairs_from first uses = map (λ (a : ℕ). record { alias = a; row = row }) (aliases_using first uses table)

  one_more : (first : ℕ) (uses : List ℕ) (b : ℕ) (same : Bool) → (first ≡ b → ⊥)
      → rows_built b (map (λ (a : ℕ). record { alias = a; row = row }) (cond same (first ∷ aliases_using (first + 1) uses table) (aliases_using (first + 1) uses table))) ≡ rows_built b (pairs_from (first + 1) uses)
  one_more first uses b false ne = refl
  one_more first uses b true ne =
      ap (λ (t : Bool). map (λ (c : Built). c.row) (cond t (record { alias = first; row = row } ∷ filter (λ (c : Built). c.alias == b) (pairs_from (first + 1) uses)) (filter (λ (c : Built). c.alias == b) (pairs_from (first + 1) uses))))
      (ne_eqb first b ne)

  -- no pair below the first alias, and none past the last
  none_below : (first : ℕ) (uses : List ℕ) (b : ℕ) → b < first → rows_built b (pairs_from first uses) ≡ []
  none_below first [] b low = refl
  none_below first (u ∷ uses) b low = one_more first uses b (u == table) (λ e. absurd (omega arith)) ∙ none_below (first + 1) uses b (omega arith)

  none_above : (first : ℕ) (uses : List ℕ) (b : ℕ) → first + length uses ≤ b → rows_built b (pairs_from first uses) ≡ []
  none_above first [] b high = refl
  none_above first (u ∷ uses) b high = one_more first uses b (u == table) (λ e. absurd (omega arith)) ∙ none_above (first + 1) uses b (omega arith)

  -- and one for each alias that uses the table
  one_at : (first : ℕ) (uses : List ℕ) (j : ℕ) → j < length uses → rows_built (first + j) (pairs_from first uses) ≡ cond (get_or uses j 0 == table) (row ∷ []) []
  one_at first [] j low = absurd (omega arith)
  one_at first (u ∷ uses) zero low =
      let b : first + zero ≡ first = omega arith in
      by (u == table) (none_below (first + 1) uses (first + zero) (omega arith)) (eq-eqb first (first + zero) (sym b))
    where
      by : (same : Bool) → rows_built (first + zero) (pairs_from (first + 1) uses) ≡ [] → (first == first + zero) ≡ true
          → rows_built (first + zero) (map (λ (a : ℕ). record { alias = a; row = row }) (cond same (first ∷ aliases_using (first + 1) uses table) (aliases_using (first + 1) uses table))) ≡ cond same (row ∷ []) []
      by true none here =
          ap (λ (t : Bool). map (λ (c : Built). c.row) (cond t (record { alias = first; row = row } ∷ filter (λ (c : Built). c.alias == first + zero) (pairs_from (first + 1) uses)) (filter (λ (c : Built). c.alias == first + zero) (pairs_from (first + 1) uses)))) here
          ∙ ap (λ (r : List ℕ). row ∷ r) none
      by false none here = none
  one_at first (u ∷ uses) (suc j) low =
      let next : (first + 1) + j ≡ first + suc j = omega arith in
      one_more first uses (first + suc j) (u == table) (λ e. absurd (omega arith))
      ∙ subst (λ (b : ℕ). rows_built b (pairs_from (first + 1) uses) ≡ cond (get_or uses j 0 == table) (row ∷ []) []) next (one_at (first + 1) uses j (omega arith))

-- the rows of an alias are those of its table
pub rows_of_block : (uses : List ℕ) (shared : List Built) (b : ℕ) → b < length uses → rows_built b (block_log uses shared) ≡ rows_built (get_or uses b 0) shared
rows_of_block uses [] b low = refl
rows_of_block uses (e ∷ shared) b low =
    let own : rows_built b (pairs_of uses e) ≡ cond (get_or uses b 0 == e.alias) (e.row ∷ []) [] =
    (let same : 0 + b ≡ b = omega arith in subst (λ (x : ℕ). rows_built x (pairs_of uses e) ≡ cond (get_or uses b 0 == e.alias) (e.row ∷ []) []) same (one_at e.alias e.row 0 uses b low)) in
    rows_built-append b (pairs_of uses e) (block_log uses shared)
    ∙ ap (λ (r : List ℕ). r ++ rows_built b (block_log uses shared)) own
    ∙ ap (λ (r : List ℕ). cond (get_or uses b 0 == e.alias) (e.row ∷ []) [] ++ r) (rows_of_block uses shared b low)
    ∙ by (cases_eq (get_or uses b 0) e.alias)
  where
    by : (get_or uses b 0 ≡ e.alias) ⊎ (get_or uses b 0 ≡ e.alias → ⊥)
        → cond (get_or uses b 0 == e.alias) (e.row ∷ []) [] ++ rows_built (get_or uses b 0) shared
        ≡ map (λ (c : Built). c.row) (cond (e.alias == get_or uses b 0) (e ∷ filter (λ (c : Built). c.alias == get_or uses b 0) shared) (filter (λ (c : Built). c.alias == get_or uses b 0) shared))
    by (inl same) =
        ap (λ (t : Bool). cond t (e.row ∷ []) [] ++ rows_built (get_or uses b 0) shared) (eq-eqb (get_or uses b 0) e.alias same)
        ∙ sym (ap (λ (t : Bool). map (λ (c : Built). c.row) (cond t (e ∷ filter (λ (c : Built). c.alias == get_or uses b 0) shared) (filter (λ (c : Built). c.alias == get_or uses b 0) shared)))
        (eq-eqb e.alias (get_or uses b 0) (sym same)))
    by (inr ne) =
        ap (λ (t : Bool). cond t (e.row ∷ []) [] ++ rows_built (get_or uses b 0) shared) (ne_eqb (get_or uses b 0) e.alias ne)
        ∙ sym (ap (λ (t : Bool). map (λ (c : Built). c.row) (cond t (e ∷ filter (λ (c : Built). c.alias == get_or uses b 0) shared) (filter (λ (c : Built). c.alias == get_or uses b 0) shared)))
        (ne_eqb e.alias (get_or uses b 0) (λ f. ne (sym f))))

-- the aliases of two lists of tables in a row
aliases_using-append : (first : ℕ) (xs ys : List ℕ) (table : ℕ) → aliases_using first (xs ++ ys) table ≡ aliases_using first xs table ++ aliases_using (first + length xs) ys table
aliases_using-append first [] ys table =
    let same : first ≡ first + 0 = omega arith in
    ap (λ (n : ℕ). aliases_using n ys table) same
aliases_using-append first (u ∷ xs) ys table =
    let next : (first + 1) + length xs ≡ first + suc (length xs) = omega arith in
    by (u == table) (aliases_using-append (first + 1) xs ys table ∙ ap (λ (n : ℕ). aliases_using (first + 1) xs table ++ aliases_using n ys table) next)
  where
    by : (same : Bool) → aliases_using (first + 1) (xs ++ ys) table ≡ aliases_using (first + 1) xs table ++ aliases_using (first + suc (length xs)) ys table
        → cond same (first ∷ aliases_using (first + 1) (xs ++ ys) table) (aliases_using (first + 1) (xs ++ ys) table)
        ≡ cond same (first ∷ aliases_using (first + 1) xs table) (aliases_using (first + 1) xs table) ++ aliases_using (first + suc (length xs)) ys table
    by true e = ap (λ (r : List ℕ). first ∷ r) e
    by false e = e

-- what stands before the place of an alias's pair
pub take_place : (uses : List ℕ) (front back : List Built) (e : Built) (a : ℕ)
    → take (place_in uses front e.alias a) (block_log uses (front ++ e ∷ back)) ≡ block_log uses front ++ mk e.row (aliases_using 0 (take a uses) e.alias)
take_place uses front back e a =
    let used : aliases_using 0 uses e.alias ≡ aliases_using 0 (take a uses) e.alias ++ aliases_using (0 + length (take a uses)) (drop a uses) e.alias =
    ap (λ (us : List ℕ). aliases_using 0 us e.alias) (sym (take-append-drop a uses)) ∙ aliases_using-append 0 (take a uses) (drop a uses) e.alias in
    let some = mk e.row (aliases_using 0 (take a uses) e.alias) in
    let rest = mk e.row (aliases_using (0 + length (take a uses)) (drop a uses) e.alias) in
    let whole : block_log uses (front ++ e ∷ back) ≡ (block_log uses front ++ some) ++ (rest ++ block_log uses back) =
    flat_map-append (pairs_of uses) front (e ∷ back)
    ∙ ap (λ (l : List Built). block_log uses front ++ (l ++ block_log uses back))
    (ap (map (λ (x : ℕ). record { alias = x; row = e.row })) used ∙ map-append (λ (x : ℕ). record { alias = x; row = e.row }) (aliases_using 0 (take a uses) e.alias) (aliases_using (0 + length (take a uses)) (drop a uses) e.alias))
    ∙ ap (λ (l : List Built). block_log uses front ++ l) (append_assoc some rest (block_log uses back))
    ∙ sym (append_assoc (block_log uses front) some (rest ++ block_log uses back)) in
    let long : length (block_log uses front ++ some) ≡ place_in uses front e.alias a =
    length-append (block_log uses front) some ∙ ap (λ (n : ℕ). length (block_log uses front) + n) (length-map (aliases_using 0 (take a uses) e.alias) (λ (x : ℕ). record { alias = x; row = e.row })) in
    ap (take (place_in uses front e.alias a)) whole ∙ take_at (block_log uses front ++ some) (rest ++ block_log uses back) (place_in uses front e.alias a) long

one_row : (t : ℕ) (e : Built) → cond (t == e.alias) (e.row ∷ []) [] ≡ rows_built t (e ∷ [])
one_row t e = by (cases_eq t e.alias)
  where
    by : (t ≡ e.alias) ⊎ (t ≡ e.alias → ⊥) → cond (t == e.alias) (e.row ∷ []) [] ≡ map (λ (c : Built). c.row) (cond (e.alias == t) (e ∷ []) [])
    by (inl same) =
        ap (λ (b : Bool). cond b (e.row ∷ []) []) (eq-eqb t e.alias same) ∙ sym (ap (λ (b : Bool). map (λ (c : Built). c.row) (cond b (e ∷ []) [])) (eq-eqb e.alias t (sym same)))
    by (inr ne) =
        ap (λ (b : Bool). cond b (e.row ∷ []) []) (ne_eqb t e.alias ne) ∙ sym (ap (λ (b : Bool). map (λ (c : Built). c.row) (cond b (e ∷ []) [])) (ne_eqb e.alias t (λ f. ne (sym f))))

-- the rows of an alias that stand before the place of a pair: those of its table up to the shared entry, which counts where the alias is a lower one
pub shared_rows : (uses : List ℕ) (front back : List Built) (e : Built) (a b : ℕ) → a ≤ length uses → b < length uses
    → rows_built b (take (place_in uses front e.alias a) (block_log uses (front ++ e ∷ back)))
    ≡ rows_built (get_or uses b 0) (take (cond (nat_lt b a) (length front + 1) (length front)) (front ++ e ∷ back))
shared_rows uses front back e a b low in' =
    ap (rows_built b) (take_place uses front back e a)
    ∙ rows_built-append b (block_log uses front) (mk e.row (aliases_using 0 (take a uses) e.alias))
    ∙ ap (λ (r : List ℕ). r ++ rows_built b (mk e.row (aliases_using 0 (take a uses) e.alias))) (rows_of_block uses front b in')
    ∙ by (cases_lt b a)
  where
    by : (b < a) ⊎ (a ≤ b) → rows_built (get_or uses b 0) front ++ rows_built b (mk e.row (aliases_using 0 (take a uses) e.alias))
        ≡ rows_built (get_or uses b 0) (take (cond (nat_lt b a) (length front + 1) (length front)) (front ++ e ∷ back))
    by (inl below) =
        let own : rows_built b (mk e.row (aliases_using 0 (take a uses) e.alias)) ≡ cond (get_or uses b 0 == e.alias) (e.row ∷ []) [] =
        (let same : 0 + b ≡ b = omega arith in
        subst (λ (x : ℕ). rows_built x (mk e.row (aliases_using 0 (take a uses) e.alias)) ≡ cond (get_or (take a uses) b 0 == e.alias) (e.row ∷ []) []) same
        (one_at e.alias e.row 0 (take a uses) b (omega (arith, length-take-le a uses low))))
        ∙ ap (λ (u : ℕ). cond (u == e.alias) (e.row ∷ []) []) (get_or-take a uses b 0 below) in
        let both : take (length front + 1) (front ++ e ∷ back) ≡ front ++ e ∷ [] =
        ap (take (length front + 1)) (sym (append_assoc front (e ∷ []) back)) ∙ take_at (front ++ e ∷ []) back (length front + 1) (length-append front (e ∷ [])) in
        ap (λ (r : List ℕ). rows_built (get_or uses b 0) front ++ r) (own ∙ one_row (get_or uses b 0) e)
        ∙ sym (rows_built-append (get_or uses b 0) front (e ∷ []))
        ∙ sym (ap (λ (t : Bool). rows_built (get_or uses b 0) (take (cond t (length front + 1) (length front)) (front ++ e ∷ back))) (lt-ltb b a below)
        ∙ ap (rows_built (get_or uses b 0)) both)
    by (inr above) =
        let none : rows_built b (mk e.row (aliases_using 0 (take a uses) e.alias)) ≡ [] = none_above e.alias e.row 0 (take a uses) b (omega (arith, length-take-le a uses low)) in
        ap (λ (r : List ℕ). rows_built (get_or uses b 0) front ++ r) none ∙ append-nil (rows_built (get_or uses b 0) front)
        ∙ sym (ap (λ (t : Bool). rows_built (get_or uses b 0) (take (cond t (length front + 1) (length front)) (front ++ e ∷ back))) (le-ltb b a above)
        ∙ ap (rows_built (get_or uses b 0)) (take_at front (e ∷ back) (length front) refl))

-- the test of stamps 12 p + a is that of places
pub stamp_test : (p q a b : ℕ) → a < 12 → b < 12 → nat_lt (12 * q + b) (12 * p + a) ≡ nat_lt q (cond (nat_lt b a) (p + 1) p)
stamp_test p q a b la lb = by (cases_lt b a)
  where
    by : (b < a) ⊎ (a ≤ b) → nat_lt (12 * q + b) (12 * p + a) ≡ nat_lt q (cond (nat_lt b a) (p + 1) p)
    by (inl below) = two (cases_lt q (p + 1)) ∙ sym (ap (λ (t : Bool). nat_lt q (cond t (p + 1) p)) (lt-ltb b a below))
      where
        two : (q < p + 1) ⊎ (p + 1 ≤ q) → nat_lt (12 * q + b) (12 * p + a) ≡ nat_lt q (p + 1)
        two (inl l) = lt-ltb (12 * q + b) (12 * p + a) (omega arith) ∙ sym (lt-ltb q (p + 1) l)
        two (inr g) = le-ltb (12 * q + b) (12 * p + a) (omega arith) ∙ sym (le-ltb q (p + 1) g)
    by (inr above) = two (cases_lt q p) ∙ sym (ap (λ (t : Bool). nat_lt q (cond t (p + 1) p)) (le-ltb b a above))
      where
        two : (q < p) ⊎ (p ≤ q) → nat_lt (12 * q + b) (12 * p + a) ≡ nat_lt q p
        two (inl l) = lt-ltb (12 * q + b) (12 * p + a) (omega arith) ∙ sym (lt-ltb q p l)
        two (inr g) = le-ltb (12 * q + b) (12 * p + a) (omega arith) ∙ sym (le-ltb q p g)

-- a block's log repeats nothing where the shared one doesn't
HasNoRepeat-append : (xs ys : List Built) → HasNoRepeat xs → HasNoRepeat ys → ((b : Built) (k : ℕ) → slice_get xs k ≡ Some b → is_built ys b.alias b.row ≡ false) → HasNoRepeat (xs ++ ys)
HasNoRepeat-append [] ys h k apart = k
HasNoRepeat-append (x ∷ xs) ys h k apart = (
  is_built-append xs ys x.alias x.row ∙ or_from (is_built xs x.alias x.row) (is_built ys x.alias x.row) h.0 (apart x zero refl),
  HasNoRepeat-append xs ys h.1 k (λ b i e. apart b (suc i) e),
)

-- no pair of one entry stands twice
pairs_once : (table row first : ℕ) (uses : List ℕ) → HasNoRepeat (map (λ (a : ℕ). record { alias = a; row = row }) (aliases_using first uses table))
pairs_once table row first [] = tt
pairs_once table row first (u ∷ uses) =
    by (u == table)
    (is_built-rows first row (pairs_from table row (first + 1) uses) ∙ ap (list_any (λ (r : ℕ). r == row)) (none_below table row (first + 1) uses first (omega arith)))
    (pairs_once table row (first + 1) uses)
  where
    by : (same : Bool) → is_built (map (λ (a : ℕ). record { alias = a; row = row }) (aliases_using (first + 1) uses table)) first row ≡ false
        → HasNoRepeat (map (λ (a : ℕ). record { alias = a; row = row }) (aliases_using (first + 1) uses table))
        → HasNoRepeat (map (λ (a : ℕ). record { alias = a; row = row }) (cond same (first ∷ aliases_using (first + 1) uses table) (aliases_using (first + 1) uses table)))
    by true e rest = (e, rest)
    by false e rest = rest

-- each pair is of an alias that uses the table, and of the row
pair_is : (table row first : ℕ) (uses : List ℕ) (k : ℕ) (b : Built) → slice_get (map (λ (a : ℕ). record { alias = a; row = row }) (aliases_using first uses table)) k ≡ Some b
    → (j : ℕ) × (j < length uses) × (b.alias ≡ first + j) × (get_or uses j 0 ≡ table) × (b.row ≡ row)
pair_is table row first [] k b e = absurd cc
pair_is table row first (u ∷ uses) k b e = by (u == table) (eqb-true u table) k e (λ i f. pair_is table row (first + 1) uses i b f)
  where
    later : (j : ℕ) × (j < length uses) × (b.alias ≡ (first + 1) + j) × (get_or uses j 0 ≡ table) × (b.row ≡ row) → (j : ℕ) × (j < suc (length uses)) × (b.alias ≡ first + j) × (get_or (u ∷ uses) j 0 ≡ table) × (b.row ≡ row)
    later p =
        let low : p.0 < length uses = p.1 in
        let alias : b.alias ≡ (first + 1) + p.0 = p.2 in
        (suc p.0, omega arith, omega arith, p.3, p.4)

    by : (same : Bool) → (same ≡ true → u ≡ table) → (i : ℕ) → slice_get (map (λ (a : ℕ). record { alias = a; row = row }) (cond same (first ∷ aliases_using (first + 1) uses table) (aliases_using (first + 1) uses table))) i ≡ Some b
        → ((i : ℕ) → slice_get (map (λ (a : ℕ). record { alias = a; row = row }) (aliases_using (first + 1) uses table)) i ≡ Some b → (j : ℕ) × (j < length uses) × (b.alias ≡ (first + 1) + j) × (get_or uses j 0 ≡ table) × (b.row ≡ row))
        → (j : ℕ) × (j < suc (length uses)) × (b.alias ≡ first + j) × (get_or (u ∷ uses) j 0 ≡ table) × (b.row ≡ row)
    by true t zero f again =
        let is : record { alias = first; row = row } ≡ b = cc in
        let alias : first ≡ b.alias = ap (λ (x : Built). x.alias) is in
        (zero, omega arith, omega arith, t refl, sym (ap (λ (x : Built). x.row) is))
    by true t (suc i) f again = later (again i f)
    by false t i f again = later (again i f)

pub block_log_once : (uses : List ℕ) (shared : List Built) → HasNoRepeat shared → HasNoRepeat (block_log uses shared)
block_log_once uses [] h = tt
block_log_once uses (e ∷ shared) h =
    HasNoRepeat-append (pairs_of uses e) (block_log uses shared) (pairs_once e.alias e.row 0 uses) (block_log_once uses shared h.1) (λ b k at.
    let p = pair_is e.alias e.row 0 uses k b at in
    let alias : b.alias ≡ p.0 = (let from : b.alias ≡ 0 + p.0 = p.2 in omega arith) in
    is_built-rows b.alias b.row (block_log uses shared)
    ∙ ap (λ (a : ℕ). list_any (λ (r : ℕ). r == b.row) (rows_built a (block_log uses shared))) alias
    ∙ ap (list_any (λ (r : ℕ). r == b.row)) (rows_of_block uses shared p.0 p.1)
    ∙ sym (is_built-rows (get_or uses p.0 0) b.row shared)
    ∙ ap (λ (t : ℕ). is_built shared t b.row) p.3 ∙ ap (is_built shared e.alias) p.4 ∙ h.0)
