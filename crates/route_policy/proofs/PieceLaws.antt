-- Bytes cut at their commas.
use Rattle.std.proofs.Common.{◌≡◌, ℕ, zero, suc, ◌+◌, ◌-◌, ◌<◌, ◌≤◌, Bool, true, false, ◌==◌, List, [], ◌∷◌, length, get_or, take, drop, None, Some, ◌⊎◌, inl, inr, arith, ◌∙◌, ap, refl, add-one}
use Rattle.std.proofs.lemmas.Bool.{cases_Bool, cases_lt, lt-ltb, cond-true, cond-false}
use Rattle.std.proofs.lemmas.List.{take_all, length-drop}
use Rattle.std.proofs.lemmas.List.Sums.{fails_before_first}
use Rattle.std.proofs.lemmas.List.Quantifiers.{position-Some}
use Rattle.std.specs.List.{position, position_or_len}
use Rattle.route_policy.specs.ScriptReading.{pieces_of, onto_first}

-- whether a byte is a comma
abbrev pub is_comma : ℕ → Bool
is_comma byte = byte == 44

-- the first piece ends before the first comma
pub pieces_of-split : (bytes : List ℕ) (place : ℕ) → place < length bytes → ((k : ℕ) → k < place → is_comma (get_or bytes k 0) ≡ false)
    → is_comma (get_or bytes place 0) ≡ true → pieces_of bytes ≡ take place bytes ∷ pieces_of (drop (suc place) bytes)
pieces_of-split [] place in_list before here = absurd (omega arith)
pieces_of-split (c ∷ cs) zero in_list before here = cond-true (is_comma c) _ _ here
pieces_of-split (c ∷ cs) (suc place) in_list before here =
    let no_comma : is_comma c ≡ false = before 0 (omega arith) in
    let rest : pieces_of cs ≡ take place cs ∷ pieces_of (drop (suc place) cs) =
    pieces_of-split cs place (omega (arith, in_list)) (λ k h. before (suc k) (omega (arith, h))) here in
    cond-false (is_comma c) _ _ no_comma ∙ ap (onto_first c) rest

-- bytes without a comma are one piece
pub pieces_of-whole : (bytes : List ℕ) → ((k : ℕ) → k < length bytes → is_comma (get_or bytes k 0) ≡ false) → pieces_of bytes ≡ bytes ∷ []
pieces_of-whole [] none = refl
pieces_of-whole (c ∷ cs) none =
    let no_comma : is_comma c ≡ false = none 0 (omega arith) in
    let rest : pieces_of cs ≡ cs ∷ [] = pieces_of-whole cs (λ k h. none (suc k) (omega (arith, h))) in
    cond-false (is_comma c) _ _ no_comma ∙ ap (onto_first c) rest

-- a place that isn't found is past the end
pub position-None : {X : Type 0} (p : X → Bool) (xs : List X) → position p xs ≡ None → length xs ≤ position_or_len p xs
position-None p xs none = by (cases_lt (position_or_len p xs) (length xs))
  where
    by : (position_or_len p xs < length xs) ⊎ (length xs ≤ position_or_len p xs) → length xs ≤ position_or_len p xs
    by (inl found) =
        let some : position p xs ≡ Some (position_or_len p xs) = cond-true _ _ _ (lt-ltb _ _ found) in
        absurd (cc (some, none))
    by (inr past) = past

-- the piece before the first comma, and those behind it
pub pieces_of-at : (bytes : List ℕ) (place : ℕ) → position is_comma bytes ≡ Some place
    → pieces_of bytes ≡ take place bytes ∷ pieces_of (take (length bytes - (place + 1)) (drop (place + 1) bytes))
pieces_of-at bytes place found =
    let facts = position-Some is_comma bytes place 0 found in
    let whole : take (length bytes - (place + 1)) (drop (place + 1) bytes) ≡ drop (place + 1) bytes =
    take_all (length bytes - (place + 1)) (drop (place + 1) bytes) (omega (arith, length-drop (place + 1) bytes)) in
    rw (whole, add-one) (pieces_of-split bytes place facts.0 facts.2 facts.1)

-- one piece where there is no comma
pub pieces_of-none : (bytes : List ℕ) → position is_comma bytes ≡ None → pieces_of bytes ≡ bytes ∷ []
pieces_of-none bytes none =
    pieces_of-whole bytes (λ k h. fails_before_first is_comma bytes k 0 (omega (arith, h, position-None is_comma bytes none)))

-- there is always a piece
pub pieces_of-some : (bytes : List ℕ) → (piece : List ℕ) × (more : List (List ℕ)) × (pieces_of bytes ≡ piece ∷ more)
pieces_of-some [] = ([], [], refl)
pieces_of-some (c ∷ cs) = by (cases_Bool (is_comma c)) (pieces_of-some cs)
  where
    by : (is_comma c ≡ true) ⊎ (is_comma c ≡ false)
        → (piece : List ℕ) × (more : List (List ℕ)) × (pieces_of cs ≡ piece ∷ more)
        → (piece : List ℕ) × (more : List (List ℕ)) × (pieces_of (c ∷ cs) ≡ piece ∷ more)
    by (inl comma) rest = ([], pieces_of cs, cond-true (is_comma c) _ _ comma)
    by (inr other) rest = (c ∷ rest.0, rest.1, cond-false (is_comma c) _ _ other ∙ ap (onto_first c) rest.2)
