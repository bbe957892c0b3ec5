-- What pieces that begin with words come to.
use Rattle.std.proofs.Common.{◌≡◌, ℕ, suc, ◌+◌, ◌-◌, ◌<◌, ◌≤◌, Bool, false, not, cond, List, [], ◌∷◌, ◌++◌, length, map, take, sum_by, All, filter_map, None, is_none, Ok, Err, arith, sym, ◌∙◌, ap, refl, subst, length-append, append-nil, append_assoc, min}
use Rattle.std.proofs.Math.Seq.{take-append_seam, take-append-add}
use Rattle.std.proofs.lemmas.Bool.{lt-ltb, le-ltb, cond-true, cond-false}
use Rattle.std.proofs.lemmas.List.{length-map, length-take, map-append}
use Rattle.std.proofs.lemmas.List.Elements.{All-head, All-tail}
use Rattle.std.proofs.lemmas.List.Sums.{sum_by-cons}
use Rattle.std.specs.List.{position_or_len, cons_option}
use Rattle.route_policy.specs.declared.fault.ScriptFault.TheVariants.{BadWord, TooLong}
use Rattle.route_policy.specs.declared.word.RouteWord.{RouteWord}
use Rattle.route_policy.specs.Script.{fresh_script, IsWord, word_text}
use Rattle.route_policy.specs.ScriptReading.{read_word, first_bad, start_of, script_of_pieces}
use Rattle.route_policy.proofs.WordLaws.{read_word-text}

-- whether a piece is no word
abbrev pub is_bad : List ℕ → Bool
is_bad piece = is_none (read_word piece)

-- the texts of words are read as these words
pub filter_map-texts : (words : List RouteWord) → All IsWord words → filter_map read_word (map word_text words) ≡ words
filter_map-texts [] known = refl
filter_map-texts (w ∷ words) known =
    ap (λ found. cons_option found (filter_map read_word (map word_text words))) (read_word-text w (All-head IsWord w words known))
    ∙ ap (λ rest. w ∷ rest) (filter_map-texts words (All-tail IsWord w words known))

-- the first bad piece stands behind the words
pub first_bad-texts : (words : List RouteWord) (rest : List (List ℕ)) → All IsWord words
    → position_or_len is_bad (map word_text words ++ rest) ≡ length words + position_or_len is_bad rest
first_bad-texts [] rest known = omega arith
first_bad-texts (w ∷ words) rest known =
    let here : is_bad (word_text w) ≡ false = ap is_none (read_word-text w (All-head IsWord w words known)) in
    let step : position_or_len is_bad (word_text w ∷ (map word_text words ++ rest)) ≡ 1 + position_or_len is_bad (map word_text words ++ rest) =
    ap (λ b. cond (not b) (1 + position_or_len is_bad (map word_text words ++ rest)) 0) here in
    omega (arith, step, first_bad-texts words rest (All-tail IsWord w words known))

-- how many bytes these words take, with a comma behind each
abbrev pub bytes_of_words : List RouteWord → ℕ
bytes_of_words words = sum_by (λ word. length (word_text word) + 1) words

pub sum_by-texts : (words : List RouteWord) → sum_by (λ piece. length piece + 1) (map word_text words) ≡ bytes_of_words words
sum_by-texts [] = refl
sum_by-texts (w ∷ words) =
    omega
    (arith, sum_by-cons (λ piece. length piece + 1) (word_text w) (map word_text words), sum_by-cons (λ word. length (word_text word) + 1) w words, sum_by-texts words)

pub length-texts : (words : List RouteWord) → length (map word_text words) ≡ length words
length-texts words = length-map words word_text

-- a piece behind the words begins behind their bytes
pub start_of-texts : (words : List RouteWord) (rest : List (List ℕ)) → start_of (map word_text words ++ rest) (length words) ≡ bytes_of_words words
start_of-texts words rest =
    let front : take (length words) (map word_text words ++ rest) ≡ map word_text words =
    subst (λ n. take n (map word_text words ++ rest) ≡ map word_text words) (length-texts words) (take-append_seam (map word_text words) rest) in
    ap (sum_by (λ piece. length piece + 1)) front ∙ sum_by-texts words

-- the leading 64 of pieces that begin with at most 64 words
pub leading-texts : (words : List RouteWord) (rest : List (List ℕ)) → length words ≤ 64
    → take 64 (map word_text words ++ rest) ≡ map word_text words ++ take (64 - length words) rest
leading-texts words rest few =
    let count : length (map word_text words) + (64 - length words) ≡ 64 = omega (arith, length-texts words) in
    subst (λ n. take n (map word_text words ++ rest) ≡ map word_text words ++ take (64 - length words) rest) count
    (take-append-add (map word_text words) rest (64 - length words))

-- the first bad one of these, and how many they are
pub first_bad-leading : (words : List RouteWord) (rest : List (List ℕ)) → All IsWord words → length words ≤ 64
    → first_bad (map word_text words ++ rest) ≡ length words + position_or_len is_bad (take (64 - length words) rest)
first_bad-leading words rest known few =
    ap (position_or_len is_bad) (leading-texts words rest few) ∙ first_bad-texts words (take (64 - length words) rest) known

pub length-leading : (words : List RouteWord) (rest : List (List ℕ)) → length words ≤ 64
    → length (take 64 (map word_text words ++ rest)) ≡ length words + min (64 - length words) (length rest)
length-leading words rest few =
    omega
    (arith, ap length (leading-texts words rest few), length-append (map word_text words) (take (64 - length words) rest), length-texts words, length-take (64 - length words) rest)

pub length-pieces : (words : List RouteWord) (rest : List (List ℕ)) → length (map word_text words ++ rest) ≡ length words + length rest
length-pieces words rest = omega (arith, length-append (map word_text words) rest, length-texts words)

-- at most 64 words and nothing behind them
pub script_of-words : (words : List RouteWord) → All IsWord words → length words ≤ 64
    → script_of_pieces (map word_text words ++ []) ≡ Ok (fresh_script words)
script_of-words words known few =
    cond-false _ _ _
    (le-ltb (first_bad (map word_text words ++ [])) (length (take 64 (map word_text words ++ [])))
    (omega (arith, first_bad-leading words [] known few, length-leading words [] few)))
    ∙ cond-false _ _ _ (le-ltb 64 (length (map word_text words ++ [])) (omega (arith, length-pieces words [], few)))
    ∙ ap (λ pieces. Ok (fresh_script (filter_map read_word pieces))) (append-nil (map word_text words))
    ∙ ap (λ found. Ok (fresh_script found)) (filter_map-texts words known)

-- 64 words and more pieces
pub script_of-long : (words : List RouteWord) (piece : List ℕ) (more : List (List ℕ)) → All IsWord words → length words ≡ 64
    → script_of_pieces (map word_text words ++ (piece ∷ more)) ≡ Err TooLong
script_of-long words piece more known full =
    cond-false _ _ _
    (le-ltb (first_bad (map word_text words ++ (piece ∷ more))) (length (take 64 (map word_text words ++ (piece ∷ more))))
    (omega
    (arith, full, first_bad-leading words (piece ∷ more) known (omega (arith, full)), length-leading words (piece ∷ more) (omega (arith, full)))))
    ∙ cond-true _ _ _ (lt-ltb 64 (length (map word_text words ++ (piece ∷ more))) (omega (arith, full, length-pieces words (piece ∷ more))))

-- fewer words and then a piece that is none
pub script_of-bad : (words : List RouteWord) (piece : List ℕ) (more : List (List ℕ)) → All IsWord words → length words < 64
    → read_word piece ≡ None → script_of_pieces (map word_text words ++ (piece ∷ more)) ≡ Err (BadWord (bytes_of_words words))
script_of-bad words piece more known room none =
    cond-true _ _ _
    (lt-ltb (first_bad (map word_text words ++ (piece ∷ more))) (length (take 64 (map word_text words ++ (piece ∷ more))))
    (omega (arith, room, first, length-leading words (piece ∷ more) (omega (arith, room)))))
    ∙ ap (λ place. Err (BadWord (start_of (map word_text words ++ (piece ∷ more)) place))) first
    ∙ ap (λ at. Err (BadWord at)) (start_of-texts words (piece ∷ more))
  where
    one : 64 - length words ≡ suc (63 - length words)
    one = omega (arith, room)

    bad : position_or_len is_bad (take (64 - length words) (piece ∷ more)) ≡ 0
    bad =
        ap (λ n. position_or_len is_bad (take n (piece ∷ more))) one
        ∙ ap (λ found. cond (not (is_none found)) (1 + position_or_len is_bad (take (63 - length words) more)) 0) none

    first : first_bad (map word_text words ++ (piece ∷ more)) ≡ length words
    first = omega (arith, bad, first_bad-leading words (piece ∷ more) known (omega (arith, room)))

-- one word more, with what is left behind it
pub pieces-more : (words : List RouteWord) (w : RouteWord) (piece : List ℕ) (all left more : List (List ℕ))
    → all ≡ map word_text words ++ left → left ≡ piece ∷ more → word_text w ≡ piece → all ≡ map word_text (words ++ w ∷ []) ++ more
pieces-more words w piece all left more so_far next is =
    so_far ∙ ap (λ rest. map word_text words ++ rest) next
    ∙ ap (λ text. map word_text words ++ (text ∷ more)) (sym is)
    ∙ sym (append_assoc (map word_text words) (word_text w ∷ []) more)
    ∙ sym (ap (λ front. front ++ more) (map-append word_text words (w ∷ [])))
