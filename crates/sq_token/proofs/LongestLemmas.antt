-- The tokens that the code reads are those of the law: each the longest that begins what is left.
use Rattle.std.proofs.Common.{◌≡◌, ◌⊎◌, inl, inr, ◌+◌, ◌<◌, ◌≤◌, ℕ, zero, suc, Bool, true, false, List, [], ◌∷◌, ◌++◌, length, take, drop, refl, ap, sym, subst, append_assoc, ◌∙◌, arith, if◌then◌else◌}
use Rattle.std.specs.Prelude.{◌&&◌, ◌||◌, ◌==◌, slice_index}
use Rattle.std.specs.List.{concat}
use Rattle.std.proofs.Math.Seq.{take-append_seam, drop-append_seam}
use Rattle.std.proofs.lemmas.Bool.{and_parts, eqb-true, eq-eqb}
use Rattle.std.proofs.lemmas.List.{take-append-drop, append-nil, length-append, length-drop}
use Rattle.sq_token.specs.declared.form.Class.TheVariants as class
use Rattle.sq_token.specs.declared.form.Form.{Form}
use Rattle.sq_token.specs.declared.form.Form.TheVariants as form
use Rattle.sq_token.specs.Form.{Text, is_in, run, quoted, symbol, front}
use Rattle.sq_token.specs.Piece.{Piece, piece_then, pieces}
use Rattle.sq_token.specs.Longest.{symbols, IsOneOf, IsLongest, IsBetween, IsGap, NoGap, AreTokens}
use Rattle.sq_token.proofs.PieceLemmas.{pieces_step, pieces_none}
use Rattle.sq_token.proofs.RunLemmas.{not_both}
use Rattle.sq_token.proofs.FrontLemmas.{opener, opens_number, opens_word, opens_symbol, each_symbol, Opens, opens, longest_by, none_by, Said, IsFront, number_front, word_front, blank_front, comment_front, name_front, text_front}

-- ---- symbols

-- what the code reads where a symbol stands
abbrev Read : Text → Type 0
Read s = (after : Text)
    → ((symbol (slice_index (s ++ after) 0) (slice_index (s ++ after) 1)).0 ≡ form.Symbol)
    × (length s ≤ (symbol (slice_index (s ++ after) 0) (slice_index (s ++ after) 1)).1)

one_or_two : (t : Bool) → 1 ≤ (if t then 2 else 1)
one_or_two true = omega arith
one_or_two false = omega arith

read_each : (s : Text) → IsOneOf symbols s → Read s
read_each =
    each_symbol Read (λ after. (refl, omega arith)) (λ after. (refl, omega arith)) (λ after. (refl, omega arith)) (λ after. (refl, omega arith))
    (λ after. (refl, omega arith)) (λ after. (refl, omega arith)) (λ after. (refl, omega arith)) (λ after. (refl, omega arith))
    (λ after. (refl, omega arith)) (λ after. (refl, omega arith)) (λ after. (refl, omega arith))
    (λ after. (refl, one_or_two (slice_index (60 ∷ after) 1 == 61 || slice_index (60 ∷ after) 1 == 62))) (λ after. (refl, omega arith))
    (λ after. (refl, one_or_two (slice_index (62 ∷ after) 1 == 61))) (λ after. (refl, omega arith))

-- what the code reads is a symbol, or nothing
abbrev Reads : ℕ → Text → Form × ℕ → Type 0
Reads b z r =
    (r ≡ (form.Bad, 1))
    ⊎ ((token : Text) × ((rest : Text) × ((token ++ rest ≡ b ∷ z) × ((r ≡ (form.Symbol, length token)) × IsOneOf symbols token))))

abbrev ReadsAt : ℕ → Text → Type 0
ReadsAt b z = Reads b z (symbol b (slice_index (b ∷ z) 1))

equal_or : (b c : ℕ) → (b ≡ c) ⊎ ((b == c) ≡ false)
equal_or b c = by (b == c) refl
  where
    by : (t : Bool) → (b == c) ≡ t → (b ≡ c) ⊎ ((b == c) ≡ false)
    by true e = inl (eqb-true b c e)
    by false e = inr e

less : (z : Text) → ReadsAt 60 z
less [] = inr (60 ∷ [], ([], (refl, (refl, inr (inr (inr (inr (inr (inr (inr (inr (inr (inr (inr (inl refl)))))))))))))))
less (c ∷ z) = by (equal_or c 61) (equal_or c 62)
  where
    by : (c ≡ 61) ⊎ ((c == 61) ≡ false) → (c ≡ 62) ⊎ ((c == 62) ≡ false) → ReadsAt 60 (c ∷ z)
    by (inl e) h =
        subst (λ (d : ℕ). ReadsAt 60 (d ∷ z)) (sym e)
        (inr (60 ∷ 61 ∷ [], (z, (refl, (refl, inr (inr (inr (inr (inr (inr (inr (inr (inr (inr (inr (inr (inl refl)))))))))))))))))
    by (inr e) (inl f) =
        subst (λ (d : ℕ). ReadsAt 60 (d ∷ z)) (sym f)
        (inr (60 ∷ 62 ∷ [], (z, (refl, (refl, inr (inr (inr (inr (inr (inr (inr (inr (inr (inl refl))))))))))))))
    by (inr e) (inr f) =
        inr (60 ∷ [], (c ∷ z, (refl, (rw (e, f) refl, inr (inr (inr (inr (inr (inr (inr (inr (inr (inr (inr (inl refl)))))))))))))))

greater : (z : Text) → ReadsAt 62 z
greater [] = inr (62 ∷ [], ([], (refl, (refl, inr (inr (inr (inr (inr (inr (inr (inr (inr (inr (inr (inr (inr (inl refl)))))))))))))))))
greater (c ∷ z) = by (equal_or c 61)
  where
    by : (c ≡ 61) ⊎ ((c == 61) ≡ false) → ReadsAt 62 (c ∷ z)
    by (inl e) =
        subst (λ (d : ℕ). ReadsAt 62 (d ∷ z)) (sym e)
        (inr (62 ∷ 61 ∷ [], (z, (refl, (refl, inr (inr (inr (inr (inr (inr (inr (inr (inr (inr (inr (inr (inr (inr (inl refl)))))))))))))))))))
    by (inr e) =
        inr (62 ∷ [], (c ∷ z, (refl, (rw e refl, inr (inr (inr (inr (inr (inr (inr (inr (inr (inr (inr (inr (inr (inl refl)))))))))))))))))

unequal : (z : Text) → ReadsAt 33 z
unequal [] = inl refl
unequal (c ∷ z) = by (equal_or c 61)
  where
    by : (c ≡ 61) ⊎ ((c == 61) ≡ false) → ReadsAt 33 (c ∷ z)
    by (inl e) =
        subst (λ (d : ℕ). ReadsAt 33 (d ∷ z)) (sym e)
        (inr (33 ∷ 61 ∷ [], (z, (refl, (refl, inr (inr (inr (inr (inr (inr (inr (inr (inr (inr (inl refl)))))))))))))))
    by (inr e) = inl (rw e refl)

abbrev Or : ℕ → ℕ → Type 0
Or b c = (b ≡ c) ⊎ ((b == c) ≡ false)

reads : (b : ℕ) (z : Text) → ReadsAt b z
reads b z =
    by (equal_or b 60) (equal_or b 62) (equal_or b 33) (equal_or b 44) (equal_or b 59) (equal_or b 46) (equal_or b 42) (equal_or b 40)
    (equal_or b 41) (equal_or b 43) (equal_or b 45) (equal_or b 61)
  where
    at : (c : ℕ) → b ≡ c → ReadsAt c z → ReadsAt b z
    at c e h = subst (λ (d : ℕ). ReadsAt d z) (sym e) h

    by : Or b 60 → Or b 62 → Or b 33 → Or b 44 → Or b 59 → Or b 46 → Or b 42 → Or b 40 → Or b 41 → Or b 43 → Or b 45 → Or b 61
        → ReadsAt b z
    by (inl e) g x a c d h i j k l m = at 60 e (less z)
    by (inr f) (inl e) x a c d h i j k l m = at 62 e (greater z)
    by (inr f) (inr g) (inl e) a c d h i j k l m = at 33 e (unequal z)
    by (inr f) (inr g) (inr x) (inl e) c d h i j k l m = at 44 e (inr (44 ∷ [], (z, (refl, (refl, inl refl)))))
    by (inr f) (inr g) (inr x) (inr a) (inl e) d h i j k l m = at 59 e (inr (59 ∷ [], (z, (refl, (refl, inr (inl refl))))))
    by (inr f) (inr g) (inr x) (inr a) (inr c) (inl e) h i j k l m = at 46 e (inr (46 ∷ [], (z, (refl, (refl, inr (inr (inl refl)))))))
    by (inr f) (inr g) (inr x) (inr a) (inr c) (inr d) (inl e) i j k l m =
        at 42 e (inr (42 ∷ [], (z, (refl, (refl, inr (inr (inr (inl refl))))))))
    by (inr f) (inr g) (inr x) (inr a) (inr c) (inr d) (inr h) (inl e) j k l m =
        at 40 e (inr (40 ∷ [], (z, (refl, (refl, inr (inr (inr (inr (inl refl)))))))))
    by (inr f) (inr g) (inr x) (inr a) (inr c) (inr d) (inr h) (inr i) (inl e) k l m =
        at 41 e (inr (41 ∷ [], (z, (refl, (refl, inr (inr (inr (inr (inr (inl refl))))))))))
    by (inr f) (inr g) (inr x) (inr a) (inr c) (inr d) (inr h) (inr i) (inr j) (inl e) l m =
        at 43 e (inr (43 ∷ [], (z, (refl, (refl, inr (inr (inr (inr (inr (inr (inl refl)))))))))))
    by (inr f) (inr g) (inr x) (inr a) (inr c) (inr d) (inr h) (inr i) (inr j) (inr k) (inl e) m =
        at 45 e (inr (45 ∷ [], (z, (refl, (refl, inr (inr (inr (inr (inr (inr (inr (inl refl))))))))))))
    by (inr f) (inr g) (inr x) (inr a) (inr c) (inr d) (inr h) (inr i) (inr j) (inr k) (inr l) (inl e) =
        at 61 e (inr (61 ∷ [], (z, (refl, (refl, inr (inr (inr (inr (inr (inr (inr (inr (inl refl)))))))))))))
    by (inr f) (inr g) (inr x) (inr a) (inr c) (inr d) (inr h) (inr i) (inr j) (inr k) (inr l) (inr m) =
        inl (rw (f, g, x, a, c, d, h, i, j, k, l, m) refl)

symbol_front : (b : ℕ) (z : Text) → NoGap (b ∷ z) → opener b ≡ form.Symbol → IsFront (symbol b (slice_index (b ∷ z) 1)) (b ∷ z)
unfolding Said
symbol_front b z gap o = by (symbol b (slice_index (b ∷ z) 1)) refl (reads b z)
  where
    -- a symbol that begins the text is not longer than what the code reads
    begins : (other after : Text) → other ++ after ≡ b ∷ z → IsOneOf symbols other
        → ((symbol b (slice_index (b ∷ z) 1)).0 ≡ form.Symbol) × (length other ≤ (symbol b (slice_index (b ∷ z) 1)).1)
    begins other after e t =
        subst (λ (w : Text). ((symbol (slice_index w 0) (slice_index w 1)).0 ≡ form.Symbol) × (length other ≤ (symbol (slice_index w 0) (slice_index w 1)).1)) e
        (read_each other t after)

    differ : form.Bad ≡ form.Symbol → ⊥
    differ e = absurd cc

    by : (r : Form × ℕ) → symbol b (slice_index (b ∷ z) 1) ≡ r → Reads b z r → IsFront r (b ∷ z)
    by r e (inl bad) =
        subst (λ (x : Form × ℕ). IsFront x (b ∷ z)) (sym bad) (record {
          token = b ∷ [];
          rest = z;
          is = refl;
          long = refl;
          some = omega arith;
          said = (
            gap,
            (
              refl,
              none_by b z form.Symbol o (λ other after h t.
                  differ (sym (ap (λ (x : Form × ℕ). x.0) (e ∙ bad)) ∙ (begins other after h t).0)),
            ),
          );
        })
    by r e (inr (token, (rest, (whole, (is, t))))) =
        subst (λ (x : Form × ℕ). IsFront x (b ∷ z)) (sym is) (record {
          token = token;
          rest = rest;
          is = whole;
          long = refl;
          some = some token t;
          said = (
            subst NoGap (sym whole) gap,
            longest_by b z form.Symbol o token rest whole t (λ other after h u.
                subst (λ (n : ℕ). length other ≤ n) (ap (λ (x : Form × ℕ). x.1) (e ∙ is)) (begins other after h u).1),
          );
        })
      where
        some : (x : Text) → IsOneOf symbols x → 1 ≤ length x
        some [] u = none (opens form.Symbol [] [] u)
          where
            none : Opens form.Symbol [] → 1 ≤ 0
            none (c, (m, (starts, h))) = absurd cc
        some (c ∷ m) u = omega arith

-- ---- the whole

module _ (b : ℕ) (z : Text) where
  abbrev after_text : Form × ℕ
  after_text = symbol b (slice_index (b ∷ z) 1)

  abbrev after_name : Form × ℕ
  after_name = if b == 39 then quoted form.Text 1 (b ∷ z) else after_text

  abbrev after_word : Form × ℕ
  after_word = if b == 34 then quoted form.Delimited 2 (b ∷ z) else after_name

  abbrev after_number : Form × ℕ
  after_number = if is_in class.Word b then (form.Word, run class.Word (b ∷ z)) else after_word

  abbrev after_comment : Form × ℕ
  after_comment = if is_in class.Digit b then (form.Number, run class.Digit (b ∷ z)) else after_number

  abbrev after_blank : Form × ℕ
  after_blank = if b == 45 && slice_index (b ∷ z) 1 == 45 then (form.Blank, run class.Line (b ∷ z)) else after_comment

  texts : (t : Bool) → (b == 39) ≡ t → NoGap (b ∷ z) → is_in class.Digit b ≡ false → is_in class.Word b ≡ false → (b == 34) ≡ false
      → IsFront (if t then quoted form.Text 1 (b ∷ z) else after_text) (b ∷ z)
  texts true e gap d w q =
      let same = eqb-true b 39 e in
      subst (λ (c : ℕ). IsFront (quoted form.Text 1 (c ∷ z)) (c ∷ z)) (sym same) (text_front z (subst (λ (c : ℕ). NoGap (c ∷ z)) same gap))
  texts false e gap d w q = symbol_front b z gap (opens_symbol b d w q e)

  names : (t : Bool) → (b == 34) ≡ t → NoGap (b ∷ z) → is_in class.Digit b ≡ false → is_in class.Word b ≡ false
      → IsFront (if t then quoted form.Delimited 2 (b ∷ z) else after_name) (b ∷ z)
  names true e gap d w =
      let same = eqb-true b 34 e in
      subst (λ (c : ℕ). IsFront (quoted form.Delimited 2 (c ∷ z)) (c ∷ z)) (sym same)
      (name_front z (subst (λ (c : ℕ). NoGap (c ∷ z)) same gap))
  names false e gap d w = texts (b == 39) refl gap d w e

  words' : (t : Bool) → is_in class.Word b ≡ t → NoGap (b ∷ z) → is_in class.Digit b ≡ false
      → IsFront (if t then (form.Word, run class.Word (b ∷ z)) else after_word) (b ∷ z)
  words' true e gap d = word_front b z gap (opens_word b d e) d e
  words' false e gap d = names (b == 34) refl gap d e

  numbers : (t : Bool) → is_in class.Digit b ≡ t → NoGap (b ∷ z)
      → IsFront (if t then (form.Number, run class.Digit (b ∷ z)) else after_number) (b ∷ z)
  numbers true e gap = number_front b z gap (opens_number b e) e
  numbers false e gap = words' (is_in class.Word b) refl gap e

  starts : (w : Text) → (b == 45 && slice_index (b ∷ w) 1 == 45) ≡ true → IsFront (form.Blank, run class.Line (b ∷ w)) (b ∷ w)
  starts [] e = let both = and_parts (b == 45) (slice_index (b ∷ []) 1 == 45) e in absurd (not_both false both.1 refl)
  starts (c ∷ w) e =
      let both = and_parts (b == 45) (c == 45) e in
      subst (λ (x : ℕ). IsFront (form.Blank, run class.Line (x ∷ c ∷ w)) (x ∷ c ∷ w)) (sym (eqb-true b 45 both.0))
      (subst (λ (x : ℕ). IsFront (form.Blank, run class.Line (45 ∷ x ∷ w)) (45 ∷ x ∷ w)) (sym (eqb-true c 45 both.1)) (comment_front w))

  comment : (t : Bool) → (b == 45 && slice_index (b ∷ z) 1 == 45) ≡ t → is_in class.Blank b ≡ false
      → IsFront (if t then (form.Blank, run class.Line (b ∷ z)) else after_comment) (b ∷ z)
  comment true e n = starts z e
  comment false e n = numbers (is_in class.Digit b) refl (record {
    no_blank = n;
    no_comment = λ first second. not_both (b == 45 && slice_index (b ∷ z) 1 == 45) (rw (eq-eqb b 45 first, eq-eqb (slice_index (b ∷ z) 1) 45 second) refl) e;
  })

  blank : (t : Bool) → is_in class.Blank b ≡ t
      → IsFront (if t then (form.Blank, run class.Blank (b ∷ z)) else after_blank) (b ∷ z)
  blank true e = blank_front b z e
  blank false e = comment (b == 45 && slice_index (b ∷ z) 1 == 45) refl e

  front_is : IsFront (front (b ∷ z)) (b ∷ z)
  unfolding front
  front_is = blank (is_in class.Blank b) refl

-- a blank or a comment before what follows
gap_with : (at : ℕ) (token rest : Text) (ps : List Piece) → IsBetween token rest → AreTokens (at + length token) rest ps
    → AreTokens at (token ++ rest) ps
gap_with at token rest [] h g =
    let same : rest ≡ concat g.parts ++ [] = g.is ∙ sym (append-nil (concat g.parts)) in
    record {
      parts = token ∷ g.parts;
      is = ap (λ (x : Text). token ++ x) g.is;
      between = (subst (IsBetween token) same h, g.between);
    }
gap_with at token rest (p ∷ ps) h (gap, (more, (is, (place, (g, (none, next)))))) =
    let same : rest ≡ concat g.parts ++ (p.bytes ++ more) = is ∙ ap (λ (x : Text). x ++ (p.bytes ++ more)) g.is in
    let size = length-append token gap in (
      token ++ gap,
      (
        more,
        (
          ap (λ (x : Text). token ++ x) is ∙ sym (append_assoc token gap (p.bytes ++ more)),
          (
            omega (arith, place, size),
            (
              record {
                parts = token ∷ g.parts;
                is = ap (λ (x : Text). token ++ x) g.is;
                between = (subst (IsBetween token) same h, g.between);
              },
              (none, next),
            ),
          ),
        ),
      ),
    )

no_gap : (rest : Text) → IsGap [] rest
no_gap rest = record { parts = []; is = refl; between = tt }

-- what the code takes of a text, and the tokens of what is left
module _ (at n : ℕ) (w : Text) where
  abbrev left : List Piece
  left = pieces (at + n) (drop n w)

  token_then : (f : Form) → IsFront (f, n) w → NoGap (take n w ++ drop n w) × IsLongest f (take n w) (drop n w)
      → AreTokens (at + n) (drop n w) left → AreTokens at w (record { at = at; form = f; bytes = take n w } ∷ left)
  token_then f r s h =
      let whole = sym (take-append-drop n w) in
      let size : length (take n w) ≡ n =
      ap (λ (x : Text). length (take n x)) (sym r.is) ∙ ap (λ (k : ℕ). length (take k (r.token ++ r.rest))) (sym r.long)
      ∙ ap length (take-append_seam r.token r.rest) ∙ r.long in
      ([], (drop n w, (whole, (omega arith, (no_gap (take n w ++ drop n w), (s.0, inl (s.1, subst (λ (k : ℕ). AreTokens (at + k) (drop n w) left) (sym size) h)))))))

  front_taken : (f : Form) (r : IsFront (f, n) w) → (take n w ≡ r.token) × (drop n w ≡ r.rest)
  front_taken f r = (
    ap (λ (x : Text). take n x) (sym r.is) ∙ ap (λ (k : ℕ). take k (r.token ++ r.rest)) (sym r.long) ∙ take-append_seam r.token r.rest,
    ap (λ (x : Text). drop n x) (sym r.is) ∙ ap (λ (k : ℕ). drop k (r.token ++ r.rest)) (sym r.long) ∙ drop-append_seam r.token r.rest,
  )

  said_of : (f : Form) → IsFront (f, n) w → Said f (take n w) (drop n w)
  said_of f r =
      let both = front_taken f r in
      subst (λ (x : Text). Said f x (drop n w)) (sym both.0) (subst (Said f r.token) (sym both.1) r.said)

  step : (f : Form) → IsFront (f, n) w → AreTokens (at + n) (drop n w) left → AreTokens at w (piece_then f n at w left)
  unfolding Said
  step form.Blank r h =
      let both = front_taken form.Blank r in
      let size = r.long in
      let place : at + n ≡ at + length (take n w) = ap (λ (k : ℕ). at + k) (sym (ap length both.0 ∙ size)) in
      subst (λ (x : Text). AreTokens at x left) (take-append-drop n w)
      (gap_with at (take n w) (drop n w) left (said_of form.Blank r) (subst (λ (k : ℕ). AreTokens k (drop n w) left) place h))
  step form.Bad r h =
      let s = said_of form.Bad r in
      ([], (drop n w, (sym (take-append-drop n w), (omega arith, (no_gap (take n w ++ drop n w), (s.0, inr (refl, (s.1.0, (s.1.1, refl)))))))))
  step form.Word r h = token_then form.Word r (said_of form.Word r) h
  step form.Number r h = token_then form.Number r (said_of form.Number r) h
  step form.Delimited r h = token_then form.Delimited r (said_of form.Delimited r) h
  step form.Text r h = token_then form.Text r (said_of form.Text r) h
  step form.Symbol r h = token_then form.Symbol r (said_of form.Symbol r) h

law_for : (fuel at : ℕ) (z : Text) → length z < fuel → AreTokens at z (pieces at z)
law_for zero at z h = absurd (omega (arith, h))
law_for (suc fuel) at [] h = subst (AreTokens at []) (sym (pieces_none at [] refl)) (no_gap [])
law_for (suc fuel) at (b ∷ z) h =
    let r = front_is b z in
    let n = (front (b ∷ z)).1 in
    let some = r.some in
    let size = length-drop n (b ∷ z) in
    let low : length (drop n (b ∷ z)) < fuel = omega (arith, h, some, size) in
    subst (AreTokens at (b ∷ z)) (sym (pieces_step at (b ∷ z) (omega arith) some))
    (step at n (b ∷ z) (front (b ∷ z)).0 r (law_for fuel (at + n) (drop n (b ∷ z)) low))

pub are_tokens : (at : ℕ) (z : Text) → AreTokens at z (pieces at z)
are_tokens at z = law_for (suc (length z)) at z (omega arith)
