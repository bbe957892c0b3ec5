-- Numbers that are met for the first time.
use Rattle.std.proofs.Common.{◌≡◌, ℕ, zero, suc, ◌+◌, ◌<◌, Bool, true, false, cond, List, [], ◌∷◌, ◌++◌, length, get_or, drop, map, refl, ap, sym, ◌∙◌, arith, append-nil, append_assoc, subst}
use Rattle.std.specs.Prelude.{◌||◌, ◌==◌, not}
use Rattle.std.specs.List.{list_any, position_or_len, fold}
use Rattle.std.specs.Cmp.{IsEquivalence}
use Rattle.std.proofs.lemmas.Bool.{false≢true, eq-eqb, ne_eqb}
use Rattle.std.proofs.lemmas.List.{length-append}
use Rattle.indexmap.specs.IndexSet.{insert_key, insert_all}
use Rattle.group_sink.specs.Dense.{numbered}
use Rattle.group_sink.specs.Groups.{firsts}
use Rattle.group_sink.specs.Picked.{met_first, kinds_from}
use Rattle.group_sink.proofs.KindLemmas.{firsts-seen}

module _ {X : Type 0} where
  -- an element that is among the first ones is found there
  found_before : (p : X → Bool) (ks more : List X) → list_any p ks ≡ true → position_or_len p (ks ++ more) < length ks
  found_before p [] more h = absurd (false≢true h)
  found_before p (k ∷ ks) more h = by (p k) refl h (found_before p ks more)
    where
      by : (b : Bool) → p k ≡ b → (b || list_any p ks) ≡ true → (list_any p ks ≡ true → position_or_len p (ks ++ more) < length ks)
          → position_or_len p ((k ∷ ks) ++ more) < suc (length ks)
      by true e d again =
          let here : position_or_len p ((k ∷ ks) ++ more) ≡ 0 = ap (λ (c : Bool). cond (not c) (1 + position_or_len p (ks ++ more)) 0) e in
          omega (arith, here)
      by false e d again =
          let later : position_or_len p ((k ∷ ks) ++ more) ≡ 1 + position_or_len p (ks ++ more) = ap (λ (c : Bool). cond (not c) (1 + position_or_len p (ks ++ more)) 0) e in
          omega (arith, later, again d)

  -- and else behind them
  found_next : (p : X → Bool) (ks : List X) (x : X) (more : List X) → list_any p ks ≡ false → p x ≡ true → position_or_len p (ks ++ x ∷ more) ≡ length ks
  found_next p [] x more none passes = ap (λ (c : Bool). cond (not c) (1 + position_or_len p more) 0) passes
  found_next p (k ∷ ks) x more none passes = by (p k) refl none (λ rest. found_next p ks x more rest passes)
    where
      by : (b : Bool) → p k ≡ b → (b || list_any p ks) ≡ false → (list_any p ks ≡ false → position_or_len p (ks ++ x ∷ more) ≡ length ks)
          → position_or_len p ((k ∷ ks) ++ x ∷ more) ≡ suc (length ks)
      by true e d again = absurd (false≢true (sym d))
      by false e d again =
          let later : position_or_len p ((k ∷ ks) ++ x ∷ more) ≡ 1 + position_or_len p (ks ++ x ∷ more) = ap (λ (c : Bool). cond (not c) (1 + position_or_len p (ks ++ x ∷ more)) 0) e in
          omega (arith, later, again d)

  drop_front : (ks more : List X) → drop (length ks) (ks ++ more) ≡ more
  drop_front [] more = refl
  drop_front (k ∷ ks) more = drop_front ks more

  module _ (same : X → X → Bool) (equal : IsEquivalence same) where
    -- what is seen stays in front
    seen_more : (ks xs : List X) → (more : List X) × (fold (insert_key same) ks xs ≡ ks ++ more)
    seen_more ks [] = ([], sym (append-nil ks))
    seen_more ks (x ∷ xs) = by (list_any (same x) ks) (seen_more ks xs) (seen_more (ks ++ x ∷ []) xs)
      where
        by : (b : Bool) → (more : List X) × (fold (insert_key same) ks xs ≡ ks ++ more)
            → (more : List X) × (fold (insert_key same) (ks ++ x ∷ []) xs ≡ (ks ++ x ∷ []) ++ more)
            → (more : List X) × (fold (insert_key same) (cond b ks (ks ++ x ∷ [])) xs ≡ ks ++ more)
        by true old new = old
        by false old new = (x ∷ new.0, new.1 ∙ append_assoc ks (x ∷ []) new.0)

    abbrev place : List X → X → ℕ
    place all x = position_or_len (same x) all

    place_old : (all ks xs : List X) (x : X) → all ≡ fold (insert_key same) ks xs → list_any (same x) ks ≡ true → (place all x == length ks) ≡ false
    place_old all ks xs x e there =
        let more = seen_more ks xs in
        let low : place all x < length ks = subst (λ (l : List X). position_or_len (same x) l < length ks) (sym (e ∙ more.1)) (found_before (same x) ks more.0 there) in
        ne_eqb (place all x) (length ks) (λ h. omega (arith, low, h))

    place_new : (all ks xs : List X) (x : X) → all ≡ fold (insert_key same) (ks ++ x ∷ []) xs → list_any (same x) ks ≡ false → (place all x == length ks) ≡ true
    place_new all ks xs x e none =
        let more = seen_more (ks ++ x ∷ []) xs in
        let split : all ≡ ks ++ x ∷ more.0 = e ∙ more.1 ∙ append_assoc ks (x ∷ []) more.0 in
        eq-eqb (place all x) (length ks) (ap (λ (l : List X). position_or_len (same x) l) split ∙ found_next (same x) ks x more.0 none (equal.refl x))

    long : (ks : List X) (x : X) → length (ks ++ x ∷ []) ≡ 1 + length ks
    long ks x = omega (arith, length-append ks (x ∷ []))

    kinds_go : (all ks xs : List X) → all ≡ fold (insert_key same) ks xs → kinds_from (length ks) (map (place all) xs) ≡ length all
    kinds_go all ks [] e = ap (length {A = X}) (sym e)
    kinds_go all ks (x ∷ xs) e = by (list_any (same x) ks) refl e (kinds_go all ks xs) (kinds_go all (ks ++ x ∷ []) xs)
      where
        by : (b : Bool) → list_any (same x) ks ≡ b → all ≡ fold (insert_key same) (cond b ks (ks ++ x ∷ [])) xs
            → (all ≡ fold (insert_key same) ks xs → kinds_from (length ks) (map (place all) xs) ≡ length all)
            → (all ≡ fold (insert_key same) (ks ++ x ∷ []) xs → kinds_from (length (ks ++ x ∷ [])) (map (place all) xs) ≡ length all)
            → cond (place all x == length ks) (kinds_from (1 + length ks) (map (place all) xs)) (kinds_from (length ks) (map (place all) xs)) ≡ length all
        by true there e old new =
            ap (λ (b : Bool). cond b (kinds_from (1 + length ks) (map (place all) xs)) (kinds_from (length ks) (map (place all) xs))) (place_old all ks xs x e there) ∙ old e
        by false none e old new =
            ap (λ (b : Bool). cond b (kinds_from (1 + length ks) (map (place all) xs)) (kinds_from (length ks) (map (place all) xs))) (place_new all ks xs x e none)
            ∙ ap (λ (n : ℕ). kinds_from n (map (place all) xs)) (sym (long ks x)) ∙ new e

    firsts_go : (all ks xs : List X) → all ≡ fold (insert_key same) ks xs → met_first (length ks) (map (place all) xs) xs ≡ drop (length ks) all
    firsts_go all ks [] e = sym (ap (drop (length ks)) (e ∙ sym (append-nil ks)) ∙ drop_front ks [])
    firsts_go all ks (x ∷ xs) e = by (list_any (same x) ks) refl e (firsts_go all ks xs) (firsts_go all (ks ++ x ∷ []) xs)
      where
        both : ℕ → Bool → List X
        both next b = cond b (x ∷ met_first (1 + next) (map (place all) xs) xs) (met_first next (map (place all) xs) xs)

        by : (b : Bool) → list_any (same x) ks ≡ b → all ≡ fold (insert_key same) (cond b ks (ks ++ x ∷ [])) xs
            → (all ≡ fold (insert_key same) ks xs → met_first (length ks) (map (place all) xs) xs ≡ drop (length ks) all)
            → (all ≡ fold (insert_key same) (ks ++ x ∷ []) xs → met_first (length (ks ++ x ∷ [])) (map (place all) xs) xs ≡ drop (length (ks ++ x ∷ [])) all)
            → cond (place all x == length ks) (x ∷ met_first (1 + length ks) (map (place all) xs) xs) (met_first (length ks) (map (place all) xs) xs) ≡ drop (length ks) all
        by true there e old new = ap (both (length ks)) (place_old all ks xs x e there) ∙ old e
        by false none e old new =
            let more = seen_more (ks ++ x ∷ []) xs in
            let one : all ≡ (ks ++ x ∷ []) ++ more.0 = e ∙ more.1 in
            let rest : drop (length (ks ++ x ∷ [])) all ≡ more.0 = ap (drop (length (ks ++ x ∷ []))) one ∙ drop_front (ks ++ x ∷ []) more.0 in
            let whole : drop (length ks) all ≡ x ∷ more.0 = ap (drop (length ks)) (one ∙ append_assoc ks (x ∷ []) more.0) ∙ drop_front ks (x ∷ more.0) in
            ap (both (length ks)) (place_new all ks xs x e none)
            ∙ ap (λ (n : ℕ). x ∷ met_first n (map (place all) xs) xs) (sym (long ks x))
            ∙ ap (λ (l : List X). x ∷ l) (new e ∙ rest) ∙ sym whole

    -- of elements that are numbered by kind: how many kinds there are, and the first of each
    pub kinds_from-numbered : (xs : List X) → kinds_from 0 (numbered same xs) ≡ length (firsts same xs)
    kinds_from-numbered xs = kinds_go (insert_all same [] xs) [] xs refl ∙ ap (length {A = X}) (firsts-seen same equal xs)

    pub met_first-numbered : (xs : List X) → met_first 0 (numbered same xs) xs ≡ firsts same xs
    met_first-numbered xs = firsts_go (insert_all same [] xs) [] xs refl ∙ firsts-seen same equal xs

-- one number more in front
pub met-more : {X : Type 0} (next : ℕ) (ns : List ℕ) (xs : List X) (k : ℕ) (d : X) → k < length ns → length ns ≡ length xs
    → met_first next (drop k ns) (drop k xs)
    ≡ cond (get_or ns k 0 == next) (get_or xs k d ∷ met_first (1 + next) (drop (suc k) ns) (drop (suc k) xs)) (met_first next (drop (suc k) ns) (drop (suc k) xs))
met-more next [] xs k d low same = absurd (omega arith)
met-more next (n ∷ ns) [] k d low same = absurd (omega (arith, same))
met-more next (n ∷ ns) (x ∷ xs) zero d low same = refl
met-more next (n ∷ ns) (x ∷ xs) (suc k) d low same = met-more next ns xs k d (omega arith) (omega (arith, same))

pub kinds-more : (next : ℕ) (ns : List ℕ) (k : ℕ) → k < length ns
    → kinds_from next (drop k ns)
    ≡ cond (get_or ns k 0 == next) (kinds_from (1 + next) (drop (suc k) ns)) (kinds_from next (drop (suc k) ns))
kinds-more next [] k low = absurd (omega arith)
kinds-more next (n ∷ ns) zero low = refl
kinds-more next (n ∷ ns) (suc k) low = kinds-more next ns k (omega arith)

-- what is kept, one number more
abbrev added : List ℕ → ℕ → Bool → List ℕ
added kept x b = kept ++ cond b (x ∷ []) []

pub kept_step : (kept now ns xs : List ℕ) (k d : ℕ) (whole : List ℕ) → k < length ns → length ns ≡ length xs
    → now ≡ kept ++ cond (get_or ns k 0 == length kept) (get_or xs k d ∷ []) []
    → kept ++ met_first (length kept) (drop k ns) (drop k xs) ≡ whole
    → now ++ met_first (length now) (drop (k + 1) ns) (drop (k + 1) xs) ≡ whole
kept_step kept now ns xs k d whole low same is so_far =
    ap (λ (l : List ℕ). l ++ met_first (length l) (drop (k + 1) ns) (drop (k + 1) xs)) is
    ∙ ap (λ (n : ℕ). added kept (get_or xs k d) (get_or ns k 0 == length kept) ++ met_first (length (added kept (get_or xs k d) (get_or ns k 0 == length kept))) (drop n ns) (drop n xs)) next
    ∙ by (get_or ns k 0 == length kept)
    ∙ ap (λ (l : List ℕ). kept ++ l) (sym (met-more (length kept) ns xs k d low same))
    ∙ so_far
  where
    next : k + 1 ≡ suc k
    next = omega arith

    by : (b : Bool) → added kept (get_or xs k d) b ++ met_first (length (added kept (get_or xs k d) b)) (drop (suc k) ns) (drop (suc k) xs)
        ≡ kept ++ cond b (get_or xs k d ∷ met_first (1 + length kept) (drop (suc k) ns) (drop (suc k) xs)) (met_first (length kept) (drop (suc k) ns) (drop (suc k) xs))
    by true =
        let size : length (kept ++ get_or xs k d ∷ []) ≡ 1 + length kept = omega (arith, length-append kept (get_or xs k d ∷ [])) in
        append_assoc kept (get_or xs k d ∷ []) (met_first (length (kept ++ get_or xs k d ∷ [])) (drop (suc k) ns) (drop (suc k) xs))
        ∙ ap (λ (n : ℕ). kept ++ get_or xs k d ∷ met_first n (drop (suc k) ns) (drop (suc k) xs)) size
    by false = ap (λ (l : List ℕ). l ++ met_first (length l) (drop (suc k) ns) (drop (suc k) xs)) (append-nil kept)
