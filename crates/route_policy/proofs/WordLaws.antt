-- The words of a script and their texts, each way.
use Rattle.std.proofs.Common.{◌≡◌, ℕ, ◌+◌, ◌-◌, ◌*◌, ◌/◌, ◌%◌, ◌<◌, ◌≤◌, Bool, true, false, ◌==◌, ◌&&◌, nat_lt, nat_le, List, [], ◌∷◌, Option, None, Some, option_map, ◌⊎◌, inl, inr, arith, sym, ◌∙◌, ap, refl, subst, lit≤, if◌then◌else◌}
use Rattle.std.proofs.lemmas.Bool.{cases_Bool, cases_lt, lt-ltb, le-ltb, ltb-true, leb-true, le-leb, eqb-true, and_parts, and_from, cond-true, cond-false}
use Rattle.route_policy.specs.declared.word.RouteWord.{RouteWord}
use Rattle.route_policy.specs.declared.word.RouteWord.TheVariants as word
use Rattle.route_policy.specs.Script.{IsWord, numeral, word_text}
use Rattle.route_policy.specs.ScriptReading.{is_digit, below_limit, digits_number, lettered, read_word}

-- a number below a limit, and its text
pub record Spells (limit : ℕ) (digits : List ℕ) (n : ℕ) : Type 0 where
  pub text : numeral n ≡ digits
  pub below : n < limit

-- a test that answers something answers it under its condition
pub some_under : {X : Type 0} (b : Bool) (o : Option X) (x : X) → (if b then o else None) ≡ Some x → (b ≡ true) × (o ≡ Some x)
some_under b o x h = by (cases_Bool b)
  where
    by : (b ≡ true) ⊎ (b ≡ false) → (b ≡ true) × (o ≡ Some x)
    by (inl holds) = (holds, sym (cond-true b o None holds) ∙ h)
    by (inr fails) = absurd (cc (cond-false b o None fails, h))

pub below_limit-Some : (limit m n : ℕ) → below_limit limit m ≡ Some n → (m < limit) × (m ≡ n)
below_limit-Some limit m n h =
    let parts = some_under (nat_lt m limit) (Some m) n h in
    let same : m ≡ n = cc (parts.1) in
    (ltb-true m limit parts.0, same)

pub below_limit-from : (limit n : ℕ) → n < limit → below_limit limit n ≡ Some n
below_limit-from limit n h = cond-true (nat_lt n limit) _ _ (lt-ltb n limit h)

pub numeral-one : (n : ℕ) → n < 10 → numeral n ≡ (48 + n) ∷ []
numeral-one n h = cond-true (nat_lt n 10) _ _ (lt-ltb n 10 h)

pub numeral-two : (n : ℕ) → 10 ≤ n → numeral n ≡ (48 + n / 10) ∷ (48 + n % 10) ∷ []
numeral-two n h = cond-false (nat_lt n 10) _ _ (le-ltb n 10 h)

pub is_digit-true : (d : ℕ) → is_digit d ≡ true → (48 ≤ d) × (d ≤ 57)
is_digit-true d h = let parts = and_parts (nat_le 48 d) (nat_le d 57) h in (leb-true 48 d parts.0, leb-true d 57 parts.1)

pub is_digit-from : (d : ℕ) → 48 ≤ d → d ≤ 57 → is_digit d ≡ true
is_digit-from d low high = and_from (nat_le 48 d) (nat_le d 57) (le-leb 48 d low) (le-leb d 57 high)

pub digits_number-Some : (limit : ℕ) (digits : List ℕ) (n : ℕ) → digits_number limit digits ≡ Some n → Spells limit digits n
digits_number-Some limit [] n h = absurd (cc h)
digits_number-Some limit (d ∷ []) n h =
    let parts = some_under (is_digit d) (below_limit limit (d - 48)) n h in
    let digit = is_digit-true d parts.0 in
    let value = below_limit-Some limit (d - 48) n parts.1 in
    let same : 48 + n ≡ d = omega (arith, digit.0, value.1) in
    record {
      text = numeral-one n (omega (arith, digit.0, digit.1, value.1)) ∙ ap (λ x. x ∷ []) same;
      below = omega (arith, value.0, value.1);
    }
digits_number-Some limit (d ∷ e ∷ []) n h =
    let parts = some_under (is_digit d && is_digit e && nat_lt 48 d) (below_limit limit (10 * (d - 48) + (e - 48))) n h in
    let tests = and_parts (is_digit d && is_digit e) (nat_lt 48 d) parts.0 in
    let digits = and_parts (is_digit d) (is_digit e) tests.0 in
    let first = is_digit-true d digits.0 in
    let last = is_digit-true e digits.1 in
    let some = ltb-true 48 d tests.1 in
    let value = below_limit-Some limit (10 * (d - 48) + (e - 48)) n parts.1 in
    let tens : 48 + n / 10 ≡ d = omega (arith, first.0, first.1, last.0, last.1, some, value.1) in
    let ones : 48 + n % 10 ≡ e = omega (arith, first.0, first.1, last.0, last.1, some, value.1) in
    record {
      text = numeral-two n (omega (arith, some, last.0, value.1)) ∙ ap (λ x. x ∷ (48 + n % 10) ∷ []) tens ∙ ap (λ x. d ∷ x ∷ []) ones;
      below = omega (arith, value.0, value.1);
    }
digits_number-Some limit (d ∷ e ∷ (f ∷ more)) n h = absurd (cc h)

pub digits_number-numeral : (limit n : ℕ) → n < limit → limit ≤ 100 → digits_number limit (numeral n) ≡ Some n
digits_number-numeral limit n below small = by (cases_lt n 10)
  where
    by : (n < 10) ⊎ (10 ≤ n) → digits_number limit (numeral n) ≡ Some n
    by (inl one) =
        let same : 48 + n - 48 ≡ n = omega arith in
        ap (digits_number limit) (numeral-one n one)
        ∙ cond-true (is_digit (48 + n)) _ _ (is_digit-from (48 + n) (omega arith) (omega arith))
        ∙ ap (below_limit limit) same ∙ below_limit-from limit n below
    by (inr two) =
        let same : 10 * (48 + n / 10 - 48) + (48 + n % 10 - 48) ≡ n = omega arith in
        let first : is_digit (48 + n / 10) ≡ true = is_digit-from (48 + n / 10) (omega arith) (omega arith) in
        let last : is_digit (48 + n % 10) ≡ true = is_digit-from (48 + n % 10) (omega arith) (omega arith) in
        let some : nat_lt 48 (48 + n / 10) ≡ true = lt-ltb 48 (48 + n / 10) (omega arith) in
        ap (digits_number limit) (numeral-two n two)
        ∙ cond-true (is_digit (48 + n / 10) && is_digit (48 + n % 10) && nat_lt 48 (48 + n / 10)) _ _
        (and_from _ _ (and_from _ _ first last) some)
        ∙ ap (below_limit limit) same ∙ below_limit-from limit n below

-- a word, and its text
pub record IsSpelled (piece : List ℕ) (w : RouteWord) : Type 0 where
  pub text : word_text w ≡ piece
  pub known : IsWord w

-- what a mapped option answers
pub option_map-Some : {X Y : Type 0} (f : X → Y) (o : Option X) (y : Y) → option_map f o ≡ Some y → (x : X) × (o ≡ Some x) × (f x ≡ y)
option_map-Some f None y h = absurd (cc h)
option_map-Some f (Some x) y h = (x, refl, cc h)

-- the text of a word of a letter and a number
pub spelled_by : (letter c : ℕ) (number : List ℕ) (limit n : ℕ) (w made : RouteWord) → Spells limit number n → letter ≡ c → made ≡ w
    → word_text made ≡ c ∷ numeral n → IsWord made → IsSpelled (letter ∷ number) w
spelled_by letter c number limit n w made spells is_c is_w text known =
    record {
      text = ap word_text (sym is_w) ∙ text ∙ ap (λ digits. c ∷ digits) spells.text ∙ ap (λ x. x ∷ number) (sym is_c);
      known = subst IsWord is_w known;
    }

pub lettered-Some : (letter : ℕ) (number : List ℕ) (w : RouteWord) → lettered letter number ≡ Some w → IsSpelled (letter ∷ number) w
lettered-Some letter number w h = by_s (cases_Bool (letter == 115))
  where
    by_w : (letter == 115) ≡ false → (letter == 97) ≡ false → (letter == 118) ≡ false → IsSpelled (letter ∷ number) w
    by_w not_s not_a not_v =
        let rest : (if letter == 119 then option_map word.Band (digits_number 48 number) else None) ≡ Some w =
        sym (cond-false (letter == 115) _ _ not_s ∙ cond-false (letter == 97) _ _ not_a ∙ cond-false (letter == 118) _ _ not_v) ∙ h in
        let parts = some_under (letter == 119) (option_map word.Band (digits_number 48 number)) w rest in
        let made = option_map-Some word.Band (digits_number 48 number) w parts.1 in
        let spells = digits_number-Some 48 number made.0 made.1 in
        spelled_by letter 119 number 48 made.0 w (word.Band made.0) spells (eqb-true letter 119 parts.0) made.2 refl spells.below

    by_v : (letter == 115) ≡ false → (letter == 97) ≡ false → ((letter == 118) ≡ true) ⊎ ((letter == 118) ≡ false) → IsSpelled (letter ∷ number) w
    by_v not_s not_a (inl is) =
        let made =
        option_map-Some word.By (digits_number 48 number) w
        (sym (cond-false (letter == 115) _ _ not_s ∙ cond-false (letter == 97) _ _ not_a ∙ cond-true (letter == 118) _ _ is) ∙ h) in
        let spells = digits_number-Some 48 number made.0 made.1 in
        spelled_by letter 118 number 48 made.0 w (word.By made.0) spells (eqb-true letter 118 is) made.2 refl spells.below
    by_v not_s not_a (inr isnt) = by_w not_s not_a isnt

    by_a : (letter == 115) ≡ false → ((letter == 97) ≡ true) ⊎ ((letter == 97) ≡ false) → IsSpelled (letter ∷ number) w
    by_a not_s (inl is) =
        let made =
        option_map-Some word.All (digits_number 12 number) w
        (sym (cond-false (letter == 115) _ _ not_s ∙ cond-true (letter == 97) _ _ is) ∙ h) in
        let spells = digits_number-Some 12 number made.0 made.1 in
        spelled_by letter 97 number 12 made.0 w (word.All made.0) spells (eqb-true letter 97 is) made.2 refl spells.below
    by_a not_s (inr isnt) = by_v not_s isnt (cases_Bool (letter == 118))

    by_s : ((letter == 115) ≡ true) ⊎ ((letter == 115) ≡ false) → IsSpelled (letter ∷ number) w
    by_s (inl is) =
        let made = option_map-Some word.Select (digits_number 48 number) w (sym (cond-true (letter == 115) _ _ is) ∙ h) in
        let spells = digits_number-Some 48 number made.0 made.1 in
        spelled_by letter 115 number 48 made.0 w (word.Select made.0) spells (eqb-true letter 115 is) made.2 refl spells.below
    by_s (inr isnt) = by_a isnt (cases_Bool (letter == 97))

-- a piece that is a word is the text of one
pub read_word-Some : (piece : List ℕ) (w : RouteWord) → read_word piece ≡ Some w → IsSpelled piece w
read_word-Some [] w h = absurd (cc h)
read_word-Some (c ∷ []) w h =
    let parts = some_under (c == 98) (Some word.Build) w h in
    let is_w : word.Build ≡ w = cc (parts.1) in
    record {
      text = ap word_text (sym is_w) ∙ ap (λ x. x ∷ []) (sym (eqb-true c 98 parts.0));
      known = subst IsWord is_w tt;
    }
read_word-Some (c ∷ d ∷ more) w h = lettered-Some c (d ∷ more) w h

-- and the text of a word is that word
pub read_word-lettered : (letter n : ℕ) → read_word (letter ∷ numeral n) ≡ lettered letter (numeral n)
read_word-lettered letter n = by (cases_lt n 10)
  where
    by : (n < 10) ⊎ (10 ≤ n) → read_word (letter ∷ numeral n) ≡ lettered letter (numeral n)
    by (inl one) = ap (λ digits. read_word (letter ∷ digits)) (numeral-one n one) ∙ sym (ap (lettered letter) (numeral-one n one))
    by (inr two) = ap (λ digits. read_word (letter ∷ digits)) (numeral-two n two) ∙ sym (ap (lettered letter) (numeral-two n two))

pub read_word-text : (w : RouteWord) → IsWord w → read_word (word_text w) ≡ Some w
read_word-text word.Build known = refl
read_word-text (word.Select n) known =
    read_word-lettered 115 n ∙ ap (option_map word.Select) (digits_number-numeral 48 n known (lit≤ tt))
read_word-text (word.All n) known = read_word-lettered 97 n ∙ ap (option_map word.All) (digits_number-numeral 12 n known (lit≤ tt))
read_word-text (word.By n) known = read_word-lettered 118 n ∙ ap (option_map word.By) (digits_number-numeral 48 n known (lit≤ tt))
read_word-text (word.Band n) known = read_word-lettered 119 n ∙ ap (option_map word.Band) (digits_number-numeral 48 n known (lit≤ tt))
