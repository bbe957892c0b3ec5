-- The text of words, cut at its commas, and the pieces of a text, joined by commas.
use Rattle.std.proofs.Common.{◌≡◌, ℕ, ◌+◌, ◌/◌, ◌%◌, ◌<◌, ◌≤◌, Bool, true, false, List, [], ◌∷◌, ◌++◌, length, map, filter_map, take, All, Option, None, Some, is_none, Result, Ok, Err, ◌⊎◌, inl, inr, arith, sym, ◌∙◌, ap, refl, subst, nat_lt, not, cond, append-nil, if◌then◌else◌}
use Rattle.std.proofs.lemmas.Bool.{cases_Bool, cases_lt, ltb-false, eqb-true, ne_eqb, cond-true, cond-false}
use Rattle.std.proofs.lemmas.List.{take_all}
use Rattle.std.proofs.lemmas.List.Elements.{All-nil, All-cons}
use Rattle.std.specs.List.{join_with_byte, position_or_len, cons_option}
use Rattle.route_policy.specs.declared.fault.ScriptFault.{ScriptFault}
use Rattle.route_policy.specs.declared.fault.ScriptFault.TheVariants.{BadWord, TooLong}
use Rattle.route_policy.specs.declared.word.RouteWord.{RouteWord}
use Rattle.route_policy.specs.declared.word.RouteWord.TheVariants as word
use Rattle.route_policy.specs.Script.{ScriptState, fresh_script, IsWord, numeral, word_text, script_text}
use Rattle.route_policy.specs.ScriptReading.{read_word, pieces_of, onto_first, text_pieces, first_bad, start_of, script_of_pieces, script_of}
use Rattle.route_policy.specs.ScriptLaw.{AreWords, ScriptLaw}
use Rattle.route_policy.proofs.PieceLaws.{is_comma, pieces_of-some}
use Rattle.route_policy.proofs.WordLaws.{numeral-one, numeral-two, read_word-Some}
use Rattle.route_policy.proofs.ReadingLaws.{is_bad, script_of-words}

-- no byte is a comma
abbrev pub LacksComma : List ℕ → Type 0
LacksComma [] = Unit {0}
LacksComma (c ∷ cs) = (is_comma c ≡ false) × LacksComma cs

-- a piece ends at the comma behind it
pub pieces_of-comma : (piece rest : List ℕ) → LacksComma piece → pieces_of (piece ++ (44 ∷ rest)) ≡ piece ∷ pieces_of rest
pieces_of-comma [] rest lacks = refl
pieces_of-comma (c ∷ cs) rest lacks = cond-false (is_comma c) _ _ lacks.0 ∙ ap (onto_first c) (pieces_of-comma cs rest lacks.1)

pub pieces_of-last : (piece : List ℕ) → LacksComma piece → pieces_of piece ≡ piece ∷ []
pieces_of-last [] lacks = refl
pieces_of-last (c ∷ cs) lacks = cond-false (is_comma c) _ _ lacks.0 ∙ ap (onto_first c) (pieces_of-last cs lacks.1)

-- a number's text has no comma
pub numeral-lacks : (n : ℕ) → LacksComma (numeral n)
numeral-lacks n = by (cases_lt n 10)
  where
    by : (n < 10) ⊎ (10 ≤ n) → LacksComma (numeral n)
    by (inl one) = subst LacksComma (sym (numeral-one n one)) (ne_eqb (48 + n) 44 (λ e. omega (arith, e)), tt)
    by (inr two) =
        subst LacksComma (sym (numeral-two n two))
        (ne_eqb (48 + n / 10) 44 (λ e. omega (arith, e)), (ne_eqb (48 + n % 10) 44 (λ e. omega (arith, e)), tt))

pub word_text-lacks : (w : RouteWord) → LacksComma (word_text w)
word_text-lacks word.Build = (refl, tt)
word_text-lacks (word.Select n) = (refl, numeral-lacks n)
word_text-lacks (word.All n) = (refl, numeral-lacks n)
word_text-lacks (word.By n) = (refl, numeral-lacks n)
word_text-lacks (word.Band n) = (refl, numeral-lacks n)

-- the pieces of some words' text are the texts of the words
pub pieces_of-texts : (w : RouteWord) (words : List RouteWord) → pieces_of (script_text (w ∷ words)) ≡ map word_text (w ∷ words)
pieces_of-texts w [] = pieces_of-last (word_text w) (word_text-lacks w)
pieces_of-texts w (v ∷ words) =
    pieces_of-comma (word_text w) (script_text (v ∷ words)) (word_text-lacks w)
    ∙ ap (λ pieces. word_text w ∷ pieces) (pieces_of-texts v words)

-- a text that isn't empty has the pieces between its commas
pub text_pieces-some : (text piece : List ℕ) (pieces : List (List ℕ)) → pieces_of text ≡ piece ∷ pieces → (text ≡ [] → ⊥) → text_pieces text ≡ pieces_of text
text_pieces-some [] piece pieces is some = absurd (some refl)
text_pieces-some (c ∷ cs) piece pieces is some = refl

pub word_text-some : (w : RouteWord) (rest : List ℕ) → word_text w ++ rest ≡ [] → ⊥
word_text-some word.Build rest none = cc none
word_text-some (word.Select n) rest none = cc none
word_text-some (word.All n) rest none = cc none
word_text-some (word.By n) rest none = cc none
word_text-some (word.Band n) rest none = cc none

pub script_text-some : (w : RouteWord) (words : List RouteWord) → script_text (w ∷ words) ≡ [] → ⊥
script_text-some w [] none = word_text-some w [] (append-nil (word_text w) ∙ none)
script_text-some w (v ∷ words) none = word_text-some w (44 ∷ script_text (v ∷ words)) none

pub text_pieces-texts : (words : List RouteWord) → text_pieces (script_text words) ≡ map word_text words
text_pieces-texts [] = refl
text_pieces-texts (w ∷ words) =
    text_pieces-some (script_text (w ∷ words)) (word_text w) (map word_text words) (pieces_of-texts w words) (script_text-some w words)
    ∙ pieces_of-texts w words

-- the pieces of a text, joined by commas, are the text
pub join-onto_first : (c : ℕ) (piece : List ℕ) (pieces : List (List ℕ))
    → join_with_byte 44 (onto_first c (piece ∷ pieces)) ≡ c ∷ join_with_byte 44 (piece ∷ pieces)
join-onto_first c piece [] = refl
join-onto_first c piece (q ∷ pieces) = refl

pub join-pieces_of : (text : List ℕ) → join_with_byte 44 (pieces_of text) ≡ text
join-pieces_of [] = refl
join-pieces_of (c ∷ cs) = by (cases_Bool (is_comma c)) (pieces_of-some cs) (join-pieces_of cs)
  where
    by : (is_comma c ≡ true) ⊎ (is_comma c ≡ false)
        → (piece : List ℕ) × (more : List (List ℕ)) × (pieces_of cs ≡ piece ∷ more)
        → join_with_byte 44 (pieces_of cs) ≡ cs → join_with_byte 44 (pieces_of (c ∷ cs)) ≡ c ∷ cs
    by (inl comma) some rest =
        ap (join_with_byte 44) (cond-true (is_comma c) _ _ comma)
        ∙ ap (λ pieces. join_with_byte 44 ([] ∷ pieces)) some.2
        ∙ ap (λ joined. 44 ∷ joined) (sym (ap (join_with_byte 44) some.2) ∙ rest)
        ∙ ap (λ byte. byte ∷ cs) (sym (eqb-true c 44 comma))
    by (inr other) some rest =
        ap (join_with_byte 44) (cond-false (is_comma c) _ _ other)
        ∙ ap (λ pieces. join_with_byte 44 (onto_first c pieces)) some.2
        ∙ join-onto_first c some.0 some.1
        ∙ ap (λ joined. c ∷ joined) (sym (ap (join_with_byte 44) some.2) ∙ rest)

pub join-text_pieces : (text : List ℕ) → join_with_byte 44 (text_pieces text) ≡ text
join-text_pieces [] = refl
join-text_pieces (c ∷ cs) = join-pieces_of (c ∷ cs)

-- pieces of which none is bad are the texts of words
pub record AreTexts (pieces : List (List ℕ)) : Type 0 where
  pub texts : map word_text (filter_map read_word pieces) ≡ pieces
  pub each : All IsWord (filter_map read_word pieces)
  pub as_many : length (filter_map read_word pieces) ≡ length pieces

pub texts-cons : (piece : List ℕ) (pieces : List (List ℕ)) (found : Option RouteWord) → read_word piece ≡ found → is_none found ≡ false
    → AreTexts pieces → AreTexts (piece ∷ pieces)
texts-cons piece pieces None is bad rest = absurd (cc bad)
texts-cons piece pieces (Some w) is good rest =
    let spelled = read_word-Some piece w is in
    let found : filter_map read_word (piece ∷ pieces) ≡ w ∷ filter_map read_word pieces =
    ap (λ o. cons_option o (filter_map read_word pieces)) is in
    record {
      texts = ap (map word_text) found ∙ ap (λ text. text ∷ map word_text (filter_map read_word pieces)) spelled.text ∙ ap (λ more. piece ∷ more) rest.texts;
      each = subst (All IsWord) (sym found) (All-cons IsWord w (filter_map read_word pieces) spelled.known rest.each);
      as_many = omega (arith, ap length found, rest.as_many);
    }

pub texts-from_none_bad : (pieces : List (List ℕ)) → length pieces ≤ position_or_len is_bad pieces → AreTexts pieces
texts-from_none_bad [] none = record { texts = refl; each = All-nil IsWord; as_many = refl }
texts-from_none_bad (piece ∷ pieces) none = by (cases_Bool (is_bad piece)) (texts-from_none_bad pieces)
  where
    by : (is_bad piece ≡ true) ⊎ (is_bad piece ≡ false) → (length pieces ≤ position_or_len is_bad pieces → AreTexts pieces)
        → AreTexts (piece ∷ pieces)
    by (inl bad) rest = absurd (omega (arith, none, ap (λ b. cond (not b) (1 + position_or_len is_bad pieces) 0) bad))
    by (inr good) rest =
        texts-cons piece pieces (read_word piece) refl good
        (rest (omega (arith, none, ap (λ b. cond (not b) (1 + position_or_len is_bad pieces) 0) good)))

-- the three answers to pieces
abbrev pub at_bad : List (List ℕ) → Result ScriptState ScriptFault
at_bad pieces = Err (BadWord (start_of pieces (first_bad pieces)))

abbrev pub read_all : List (List ℕ) → Result ScriptState ScriptFault
read_all pieces = Ok (fresh_script (filter_map read_word pieces))

abbrev pub past_bad : List (List ℕ) → Result ScriptState ScriptFault
past_bad pieces = if nat_lt 64 (length pieces) then Err TooLong else read_all pieces

-- what an answer Ok says of the pieces
pub script_of_pieces-Ok : (pieces : List (List ℕ)) (s : ScriptState) → script_of_pieces pieces ≡ Ok s
    → (script_text s.words ≡ join_with_byte 44 pieces) × AreWords s.words
script_of_pieces-Ok pieces s is =
    by (cases_Bool (nat_lt (first_bad pieces) (length (take 64 pieces)))) (cases_Bool (nat_lt 64 (length pieces)))
  where
    by : (nat_lt (first_bad pieces) (length (take 64 pieces)) ≡ true) ⊎ (nat_lt (first_bad pieces) (length (take 64 pieces)) ≡ false)
        → (nat_lt 64 (length pieces) ≡ true) ⊎ (nat_lt 64 (length pieces) ≡ false)
        → (script_text s.words ≡ join_with_byte 44 pieces) × AreWords s.words
    by (inl bad) more =
        absurd (cc (cond-true (nat_lt (first_bad pieces) (length (take 64 pieces))) _ (past_bad pieces) bad, is))
    by (inr good) (inl long) =
        absurd
        (cc
        (cond-false (nat_lt (first_bad pieces) (length (take 64 pieces))) (at_bad pieces) _ good, cond-true (nat_lt 64 (length pieces)) _ (read_all pieces) long, is))
    by (inr good) (inr short) =
        let found : read_all pieces ≡ Ok s =
        sym
        (cond-false (nat_lt (first_bad pieces) (length (take 64 pieces))) (at_bad pieces) (past_bad pieces) good
        ∙ cond-false (nat_lt 64 (length pieces)) _ _ short)
        ∙ is in
        let same : fresh_script (filter_map read_word pieces) ≡ s = cc found in
        let words : filter_map read_word pieces ≡ s.words = ap (λ t. t.words) same in
        let whole : take 64 pieces ≡ pieces = take_all 64 pieces (ltb-false 64 (length pieces) short) in
        let none : length pieces ≤ position_or_len is_bad pieces =
        subst (λ ps. length ps ≤ position_or_len is_bad ps) whole (ltb-false _ _ good) in
        let texts = texts-from_none_bad pieces none in (
          ap script_text (sym words) ∙ ap (join_with_byte 44) texts.texts,
          record {
            few = omega (arith, ap length words, texts.as_many, ltb-false 64 (length pieces) short);
            each = subst (All IsWord) words texts.each;
          },
        )

pub script_laws : ScriptLaw
script_laws =
    record {
      written = λ words are.
          ap script_of_pieces (text_pieces-texts words ∙ sym (append-nil (map word_text words))) ∙ script_of-words words are.each are.few;
      read = λ text s is.
          let facts = script_of_pieces-Ok (text_pieces text) s is in (facts.0 ∙ join-text_pieces text, facts.1);
    }
