-- What the code finds at the front of a text: words, numbers, quoted tokens, blanks and comments.
use Rattle.std.proofs.Common.{◌≡◌, ◌⊎◌, inl, inr, ◌+◌, ◌≤◌, ℕ, suc, Bool, true, false, cond, [], ◌∷◌, ◌++◌, Option, Some, None, length, take, drop, refl, ap, sym, subst, append_assoc, ◌∙◌, arith, if◌then◌else◌}
use Rattle.std.specs.Prelude.{◌==◌, not, nat_lt, codes}
use Rattle.std.specs.List.{prefix_len, list_all}
use Rattle.std.proofs.lemmas.Bool.{and_parts, eqb-true, ltb-true, ltb-false}
use Rattle.std.proofs.lemmas.List.{take-append-drop, length-take-le, length-append}
use Rattle.std.proofs.lemmas.List.Sums.{prefix_len-le-length}
use Rattle.sq_token.specs.declared.form.Class.TheVariants as class
use Rattle.sq_token.specs.declared.form.Form.{Form}
use Rattle.sq_token.specs.declared.form.Form.TheVariants as form
use Rattle.sq_token.specs.Form.{Text, is_in, run, closing, closed, quoted}
use Rattle.sq_token.specs.Longest.{doubled, IsQuoted, symbols, IsOneOf, IsWordToken, IsNumberToken, IsToken, IsLongest, NoToken, EndsLine, IsBetween, NoGap}
use Rattle.sq_token.proofs.RunLemmas.{run_all, run_ends, run_bound, run_some, doubled_long, Closes, closes, closed_at}

-- ---- what byte a token begins with

abbrev pub opener_by : Bool → Bool → Bool → Bool → Form
opener_by d w q t =
    if d then form.Number else (if w then form.Word else (if q then form.Delimited else (if t then form.Text else form.Symbol)))

pub opener : ℕ → Form
opener b = opener_by (is_in class.Digit b) (is_in class.Word b) (b == 34) (b == 39)

pub opens_number : (b : ℕ) → is_in class.Digit b ≡ true → opener b ≡ form.Number
unfolding opener
opens_number b d = ap (λ (x : Bool). opener_by x (is_in class.Word b) (b == 34) (b == 39)) d

pub opens_word : (b : ℕ) → is_in class.Digit b ≡ false → is_in class.Word b ≡ true → opener b ≡ form.Word
unfolding opener
opens_word b d w =
    ap (λ (x : Bool). opener_by x (is_in class.Word b) (b == 34) (b == 39)) d
    ∙ ap (λ (x : Bool). opener_by false x (b == 34) (b == 39)) w

pub opens_symbol : (b : ℕ) → is_in class.Digit b ≡ false → is_in class.Word b ≡ false → (b == 34) ≡ false → (b == 39) ≡ false → opener b ≡ form.Symbol
unfolding opener
opens_symbol b d w q t =
    ap (λ (x : Bool). opener_by x (is_in class.Word b) (b == 34) (b == 39)) d
    ∙ ap (λ (x : Bool). opener_by false x (b == 34) (b == 39)) w
    ∙ ap (λ (x : Bool). opener_by false false x (b == 39)) q
    ∙ ap (λ (x : Bool). opener_by false false false x) t

-- a fact of each symbol
pub each_symbol : (P : Text → Type 0) → P (codes ",") → P (codes ";") → P (codes ".") → P (codes "*") → P (codes "(") → P (codes ")")
    → P (codes "+") → P (codes "-") → P (codes "=") → P (codes "<>") → P (codes "!=") → P (codes "<") → P (codes "<=") → P (codes ">")
    → P (codes ">=") → (z : Text) → IsOneOf symbols z → P z
each_symbol P a b c d e f g h i j k l m n o z s = by s
  where
    at : (x : Text) → P x → z ≡ x → P z
    at x p is = subst P (sym is) p

    by : IsOneOf symbols z → P z
    by (inl is) = at (codes ",") a is
    by (inr (inl is)) = at (codes ";") b is
    by (inr (inr (inl is))) = at (codes ".") c is
    by (inr (inr (inr (inl is)))) = at (codes "*") d is
    by (inr (inr (inr (inr (inl is))))) = at (codes "(") e is
    by (inr (inr (inr (inr (inr (inl is)))))) = at (codes ")") f is
    by (inr (inr (inr (inr (inr (inr (inl is))))))) = at (codes "+") g is
    by (inr (inr (inr (inr (inr (inr (inr (inl is)))))))) = at (codes "-") h is
    by (inr (inr (inr (inr (inr (inr (inr (inr (inl is))))))))) = at (codes "=") i is
    by (inr (inr (inr (inr (inr (inr (inr (inr (inr (inl is)))))))))) = at (codes "<>") j is
    by (inr (inr (inr (inr (inr (inr (inr (inr (inr (inr (inl is))))))))))) = at (codes "!=") k is
    by (inr (inr (inr (inr (inr (inr (inr (inr (inr (inr (inr (inl is)))))))))))) = at (codes "<") l is
    by (inr (inr (inr (inr (inr (inr (inr (inr (inr (inr (inr (inr (inl is))))))))))))) = at (codes "<=") m is
    by (inr (inr (inr (inr (inr (inr (inr (inr (inr (inr (inr (inr (inr (inl is)))))))))))))) = at (codes ">") n is
    by (inr (inr (inr (inr (inr (inr (inr (inr (inr (inr (inr (inr (inr (inr (inl is))))))))))))))) = at (codes ">=") o is
    by (inr (inr (inr (inr (inr (inr (inr (inr (inr (inr (inr (inr (inr (inr (inr none))))))))))))))) = elim none [ ]

-- a token isn't empty, and its first byte tells its form
abbrev pub Opens : Form → Text → Type 0
Opens f z = (b : ℕ) × ((m : Text) × ((z ≡ b ∷ m) × (opener b ≡ f)))

pub opens : (f : Form) (token rest : Text) → IsToken f token rest → Opens f token
unfolding opener
opens form.Word [] rest t = absurd t
opens form.Word (b ∷ z) rest t =
    let both = and_parts (is_in class.Word b) (list_all (is_in class.Word) z) t.1 in
    (b, (z, (refl, opens_word b t.0 both.0)))
opens form.Number [] rest t = absurd t
opens form.Number (b ∷ z) rest t =
    let both = and_parts (is_in class.Digit b) (list_all (is_in class.Digit) z) t in (b, (z, (refl, opens_number b both.0)))
opens form.Delimited token rest t = (34, (doubled 34 t.content ++ (34 ∷ []), (t.is, refl)))
opens form.Text token rest t = (39, (doubled 39 t.content ++ (39 ∷ []), (t.is, refl)))
opens form.Symbol token rest t =
    each_symbol (Opens form.Symbol) (44, ([], (refl, refl))) (59, ([], (refl, refl))) (46, ([], (refl, refl))) (42, ([], (refl, refl)))
    (40, ([], (refl, refl))) (41, ([], (refl, refl))) (43, ([], (refl, refl))) (45, ([], (refl, refl))) (61, ([], (refl, refl)))
    (60, (62 ∷ [], (refl, refl))) (33, (61 ∷ [], (refl, refl))) (60, ([], (refl, refl))) (60, (61 ∷ [], (refl, refl))) (62, ([], (refl, refl)))
    (62, (61 ∷ [], (refl, refl))) token t
opens form.Blank token rest t = absurd t
opens form.Bad token rest t = absurd t

-- so what begins a text has the form that its first byte tells
module _ (b : ℕ) (z : Text) (f : Form) (is : opener b ≡ f) where
  pub form_is : (g : Form) (other after : Text) → other ++ after ≡ b ∷ z → IsToken g other after → g ≡ f
  form_is g other after e t = by (opens g other after t)
    where
      same : (c : ℕ) (m : Text) → (c ∷ m) ++ after ≡ b ∷ z → c ≡ b
      same c m h = cc

      by : Opens g other → g ≡ f
      by (c, (m, (starts, o))) =
          sym o ∙ ap opener (same c m (ap (λ (x : Text). x ++ after) (sym starts) ∙ e)) ∙ is

  -- and it is enough to look at tokens of this form
  pub longest_by : (token rest : Text) → token ++ rest ≡ b ∷ z → IsToken f token rest
      → ((other after : Text) → other ++ after ≡ b ∷ z → IsToken f other after → length other ≤ length token) → IsLongest f token rest
  longest_by token rest whole t each = record {
    is = t;
    longest = λ g other after e h.
        each other after (e ∙ whole) (subst (λ (k : Form). IsToken k other after) (form_is g other after (e ∙ whole) h) h);
  }

  pub none_by : ((other after : Text) → other ++ after ≡ b ∷ z → IsToken f other after → ⊥) → NoToken (b ∷ z)
  none_by each g other after e h =
      each other after e (subst (λ (k : Form). IsToken k other after) (form_is g other after e h) h)

-- ---- what the code finds at the front

-- a blank or a comment, a token, or nothing
unfoldable pub Said : Form → Text → Text → Type 0
Said form.Blank token rest = IsBetween token rest
Said form.Bad token rest = NoGap (token ++ rest) × ((length token ≡ 1) × NoToken (token ++ rest))
Said form.Word token rest = NoGap (token ++ rest) × IsLongest form.Word token rest
Said form.Number token rest = NoGap (token ++ rest) × IsLongest form.Number token rest
Said form.Delimited token rest = NoGap (token ++ rest) × IsLongest form.Delimited token rest
Said form.Text token rest = NoGap (token ++ rest) × IsLongest form.Text token rest
Said form.Symbol token rest = NoGap (token ++ rest) × IsLongest form.Symbol token rest

pub record IsFront (found : Form × ℕ) (z : Text) : Type 0 where
  pub token : Text
  pub rest : Text
  pub is : token ++ rest ≡ z
  pub long : length token ≡ found.1
  pub some : 1 ≤ found.1
  pub said : Said found.0 token rest

-- a run of bytes
module _ (p : ℕ → Bool) (b : ℕ) (z : Text) (h : p b ≡ true) where
  pub run_of : ℕ
  run_of = prefix_len p (b ∷ z)

  pub run_is : take run_of (b ∷ z) ++ drop run_of (b ∷ z) ≡ b ∷ z
  run_is = take-append-drop run_of (b ∷ z)

  pub run_long : length (take run_of (b ∷ z)) ≡ run_of
  unfolding run_of
  run_long = length-take-le (prefix_len p (b ∷ z)) (b ∷ z) (prefix_len-le-length p (b ∷ z))

  -- it begins with the first byte
  pub run_first : (m : Text) × (take run_of (b ∷ z) ≡ b ∷ m)
  unfolding run_of
  run_first = (take (prefix_len p z) z, ap (λ (t : Bool). take (cond t (1 + prefix_len p z) 0) (b ∷ z)) h ∙ ap (λ (k : ℕ). take k (b ∷ z)) more)
    where
      more : 1 + prefix_len p z ≡ suc (prefix_len p z)
      more = omega arith

  pub run_within : (other after : Text) → other ++ after ≡ b ∷ z → list_all p other ≡ true → length other ≤ length (take run_of (b ∷ z))
  unfolding run_of
  run_within other after e all =
      let low = subst (λ (w : Text). length other ≤ prefix_len p w) e (run_bound p other after all) in
      let same = run_long in
      omega (arith, low, same)

pub number_front : (b : ℕ) (z : Text) → NoGap (b ∷ z) → opener b ≡ form.Number → is_in class.Digit b ≡ true
    → IsFront (form.Number, run class.Digit (b ∷ z)) (b ∷ z)
unfolding Said run_of
number_front b z gap o h =
    let p = is_in class.Digit in
    let k = prefix_len p (b ∷ z) in
    let whole = run_is p b z h in
    let first = run_first p b z h in
    let t : IsNumberToken (take k (b ∷ z)) =
    subst IsNumberToken (sym first.1) (ap (list_all p) (sym first.1) ∙ run_all p (b ∷ z)) in
    record {
      token = take k (b ∷ z);
      rest = drop k (b ∷ z);
      is = whole;
      long = run_long p b z h;
      some = run_some p b z h;
      said = (
        subst NoGap (sym whole) gap,
        longest_by b z form.Number o (take k (b ∷ z)) (drop k (b ∷ z)) whole t
            (λ other after e u. run_within p b z h other after e (all other u)),
      );
    }
  where
    all : (other : Text) → IsNumberToken other → list_all (is_in class.Digit) other ≡ true
    all [] u = absurd u
    all (c ∷ m) u = u

pub word_front : (b : ℕ) (z : Text) → NoGap (b ∷ z) → opener b ≡ form.Word → is_in class.Digit b ≡ false → is_in class.Word b ≡ true
    → IsFront (form.Word, run class.Word (b ∷ z)) (b ∷ z)
unfolding Said run_of
word_front b z gap o d h =
    let p = is_in class.Word in
    let k = prefix_len p (b ∷ z) in
    let whole = run_is p b z h in
    let first = run_first p b z h in
    let t : IsWordToken (take k (b ∷ z)) =
    subst IsWordToken (sym first.1) (d, ap (list_all p) (sym first.1) ∙ run_all p (b ∷ z)) in
    record {
      token = take k (b ∷ z);
      rest = drop k (b ∷ z);
      is = whole;
      long = run_long p b z h;
      some = run_some p b z h;
      said = (
        subst NoGap (sym whole) gap,
        longest_by b z form.Word o (take k (b ∷ z)) (drop k (b ∷ z)) whole t
            (λ other after e u. run_within p b z h other after e (all other u)),
      );
    }
  where
    all : (other : Text) → IsWordToken other → list_all (is_in class.Word) other ≡ true
    all [] u = absurd u
    all (c ∷ m) u = u.1

pub blank_front : (b : ℕ) (z : Text) → is_in class.Blank b ≡ true → IsFront (form.Blank, run class.Blank (b ∷ z)) (b ∷ z)
unfolding Said run_of
blank_front b z h =
    let p = is_in class.Blank in
    let k = prefix_len p (b ∷ z) in
    record {
      token = take k (b ∷ z);
      rest = drop k (b ∷ z);
      is = run_is p b z h;
      long = run_long p b z h;
      some = run_some p b z h;
      said = inl (run_all p (b ∷ z));
    }

pub comment_front : (z : Text) → IsFront (form.Blank, run class.Line (45 ∷ 45 ∷ z)) (45 ∷ 45 ∷ z)
unfolding Said run_of
comment_front z =
    let p = is_in class.Line in
    let k = prefix_len p (45 ∷ 45 ∷ z) in
    record {
      token = take k (45 ∷ 45 ∷ z);
      rest = drop k (45 ∷ 45 ∷ z);
      is = run_is p 45 (45 ∷ z) refl;
      long = run_long p 45 (45 ∷ z) refl;
      some = run_some p 45 (45 ∷ z) refl;
      said = inr (record {
        line = take (prefix_len p z) z;
        is = taken;
        inside = run_all p z;
        ends = by (drop k (45 ∷ 45 ∷ z)) (run_ends p (45 ∷ 45 ∷ z));
      });
    }
  where
    taken : take (prefix_len (is_in class.Line) (45 ∷ 45 ∷ z)) (45 ∷ 45 ∷ z) ≡ 45 ∷ 45 ∷ take (prefix_len (is_in class.Line) z) z
    taken =
        let more : 1 + (1 + prefix_len (is_in class.Line) z) ≡ suc (suc (prefix_len (is_in class.Line) z)) = omega arith in
        ap (λ (j : ℕ). take j (45 ∷ 45 ∷ z)) more

    newline : (c : ℕ) → is_in class.Line c ≡ false → c ≡ 10
    newline c e = at (c == 10) refl e
      where
        at : (t : Bool) → (c == 10) ≡ t → not t ≡ false → c ≡ 10
        at true is f = eqb-true c 10 is
        at false is f = absurd cc

    by : (w : Text) → (w ≡ []) ⊎ ((c : ℕ) × ((r : Text) × ((w ≡ c ∷ r) × (is_in class.Line c ≡ false)))) → EndsLine w
    by w (inl e) = subst EndsLine (sym e) tt
    by w (inr (c, (r, (e, f)))) = subst EndsLine (sym e) (newline c f)

-- a quoted token
module _ (f : Form) (q k : ℕ) (open' : opener q ≡ f)
    (to : (token rest : Text) → IsQuoted q k token rest → IsToken f token rest)
    (from : (token rest : Text) → IsToken f token rest → IsQuoted q k token rest)
    (says : (token rest : Text) → NoGap (token ++ rest) → IsLongest f token rest → Said f token rest)
    (few : (t : Text) → k ≤ length (doubled q t) → k ≤ length t) where
  abbrev pub Found : Text → Text → Type 0
  Found z other = (j : ℕ) × ((closing q false 0 z ≡ Some j) × ((length other ≡ j + 1) × (k + 1 ≤ j)))

  -- one that begins a text closes where the code finds it
  pub found : (z other after : Text) → other ++ after ≡ q ∷ z → IsQuoted q k other after → Found z other
  found z other after e t =
      let d = doubled q t.content in
      let j = (0 + length d) + 1 in
      let inner : z ≡ d ++ (q ∷ after) =
      sym (tail (ap (λ (x : Text). x ++ after) (sym t.is) ∙ e)) ∙ append_assoc d (q ∷ []) after in
      let size = ap length t.is in
      let more = length-append d (q ∷ []) in
      let deep = doubled_long q t.content in
      let low = t.long in
      (j, (ap (closing q false 0) inner ∙ closed_at q 0 t.content after t.ends, (omega (arith, size, more), omega (arith, deep, low))))
    where
      tail : {xs : Text} → q ∷ xs ≡ q ∷ z → xs ≡ z
      tail h = cc

  pub other_number : (i j : ℕ) → Some i ≡ Some j → i ≡ j
  other_number i j e = cc

  pub quoted_front : (z : Text) → NoGap (q ∷ z) → IsFront (quoted f (k + 1) (q ∷ z)) (q ∷ z)
  unfolding Said
  quoted_front z gap = by (closing q false 0 z) refl
    where
      bad : NoToken (q ∷ z) → IsFront (form.Bad, 1) (q ∷ z)
      bad none = record { token = q ∷ []; rest = z; is = refl; long = refl; some = omega arith; said = (gap, (refl, none)) }

      good : (n : ℕ) → closing q false 0 z ≡ Some n → k + 1 ≤ n → IsFront (f, n + 1) (q ∷ z)
      good n e low = made (closes q 0 z n e)
        where
          within : (other : Text) → Found z other → (token : Text) → length token ≡ n + 1 → length other ≤ length token
          within other (j, (at, (size, low'))) token count = let same = other_number n j (sym e ∙ at) in omega (arith, same, size, count)

          made : Closes q 0 z n → IsFront (f, n + 1) (q ∷ z)
          made (t, (rest, (is, (ends, long)))) =
              let d = doubled q t in
              let token = q ∷ (d ++ (q ∷ [])) in
              let size = length-append d (q ∷ []) in
              let whole : token ++ rest ≡ q ∷ z = ap (λ (x : Text). q ∷ x) (append_assoc d (q ∷ []) rest ∙ sym is) in
              let quoted' : IsQuoted q k token rest =
              record { content = t; long = few t (omega (arith, long, low)); is = refl; ends = ends } in
              let count : length token ≡ n + 1 = omega (arith, size, long) in
              record {
                token = token;
                rest = rest;
                is = whole;
                long = count;
                some = omega arith;
                said = says token rest (subst NoGap (sym whole) gap)
                    (longest_by q z f open' token rest whole (to token rest quoted')
                    (λ other after h u. within other (found z other after h (from other after u)) token count));
              }

      by : (o : Option ℕ) → closing q false 0 z ≡ o → IsFront (closed f (k + 1) o) (q ∷ z)
      by None e = bad (none_by q z f open' (λ other after h u. none other (found z other after h (from other after u))))
        where
          none : (other : Text) → Found z other → ⊥
          none other (j, (at, rest)) = let h : None ≡ Some j = sym e ∙ at in absurd cc
      by (Some n) e = at (nat_lt n (k + 1)) refl
        where
          none : nat_lt n (k + 1) ≡ true → (other : Text) → Found z other → ⊥
          none less other (j, (at, (size, low))) =
              let same = other_number n j (sym e ∙ at) in let small = ltb-true n (k + 1) less in absurd (omega (arith, same, low, small))

          at : (t : Bool) → nat_lt n (k + 1) ≡ t → IsFront (if t then (form.Bad, 1) else (f, n + 1)) (q ∷ z)
          at true less = bad (none_by q z f open' (λ other after h u. none less other (found z other after h (from other after u))))
          at false less = good n e (ltb-false n (k + 1) less)

pub name_front : (z : Text) → NoGap (34 ∷ z) → IsFront (quoted form.Delimited 2 (34 ∷ z)) (34 ∷ z)
unfolding Said opener
name_front z gap = quoted_front form.Delimited 34 1 refl (λ token rest t. t) (λ token rest t. t) (λ token rest g l. (g, l)) few z gap
  where
    few : (t : Text) → 1 ≤ length (doubled 34 t) → 1 ≤ length t
    few [] h = h
    few (b ∷ t) h = omega arith

pub text_front : (z : Text) → NoGap (39 ∷ z) → IsFront (quoted form.Text 1 (39 ∷ z)) (39 ∷ z)
unfolding Said opener
text_front z gap =
    quoted_front form.Text 39 0 refl (λ token rest t. t) (λ token rest t. t) (λ token rest g l. (g, l)) (λ t h. omega arith) z gap
