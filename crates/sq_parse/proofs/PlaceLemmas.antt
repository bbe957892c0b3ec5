-- The places of tokens rise.
use Rattle.std.proofs.Common.{◌≡◌, ◌⊎◌, inl, inr, ℕ, zero, suc, ◌+◌, ◌-◌, ◌<◌, ◌≤◌, List, [], ◌∷◌, ◌++◌, length, map, refl, ap, sym, subst, ◌∙◌, arith}
use Rattle.sq_token.specs.declared.form.Form.{Form}
use Rattle.sq_token.specs.declared.form.Form.TheVariants as form
use Rattle.sq_token.specs.Form.{Text, front}
use Rattle.sq_token.specs.Piece.{Piece, piece_then, pieces_from, pieces}
use Rattle.sq_token.specs.Tok.{Tok, tok_of, toks, head, behind}
use Rattle.sq_parse.specs.Parse.{place_in}

-- the places rise from the first number on, and lie below the second
abbrev pub Rising : ℕ → List Tok → ℕ → Type 0
Rising low [] high = low ≤ high
Rising low (t ∷ ts) high = (low ≤ t.at) × Rising (t.at + 1) ts high

lower : (low from high : ℕ) (ts : List Tok) → low ≤ from → Rising from ts high → Rising low ts high
lower low from high [] h r = omega arith
lower low from high (t ∷ ts) h r = (omega (arith, r.0), r.1)

rising_then : (f : Form) (n at low high : ℕ) (z : Text) (more : List Piece) → low ≤ at → at + 1 ≤ high → Rising (at + 1) (map tok_of more) high → Rising low (map tok_of (piece_then f n at z more)) high
rising_then form.Blank n at low high z more h e r = lower low (at + 1) high (map tok_of more) (omega arith) r
rising_then form.Bad n at low high z more h e r = (h, e)
rising_then form.Word n at low high z more h e r = (h, r)
rising_then form.Delimited n at low high z more h e r = (h, r)
rising_then form.Number n at low high z more h e r = (h, r)
rising_then form.Text n at low high z more h e r = (h, r)
rising_then form.Symbol n at low high z more h e r = (h, r)

rising_from : (left at low : ℕ) (z : Text) → low ≤ at → Rising low (map tok_of (pieces_from left at z)) (at + length z)
rising_from left at low [] h = omega arith
rising_from (suc left) at low (b ∷ z) h =
    let e : (at + 1) + length z ≡ at + suc (length z) = omega arith in
    subst (λ high. Rising low (map tok_of (pieces_from left (at + 1) z)) high) e (rising_from left (at + 1) low z (omega arith))
rising_from zero at low (b ∷ z) h =
    let f = front (b ∷ z) in
    let e : (at + 1) + length z ≡ at + suc (length z) = omega arith in
    let more = rising_from (f.1 - 1) (at + 1) (at + 1) z (omega arith) in
    rising_then f.0 f.1 at low (at + suc (length z)) (b ∷ z) (pieces_from (f.1 - 1) (at + 1) z) h (omega arith)
    (subst (λ high. Rising (at + 1) (map tok_of (pieces_from (f.1 - 1) (at + 1) z)) high) e more)

pub rising : (z : Text) → Rising 0 (toks 0 z) (length z)
unfolding toks pieces
rising z =
    let e : 0 + length z ≡ length z = omega arith in
    subst (λ high. Rising 0 (map tok_of (pieces_from 0 0 z)) high) e (rising_from 0 0 0 z (omega arith))

pub rising_behind : (low high : ℕ) (before rest : List Tok) → Rising low (before ++ rest) high → (from : ℕ) × Rising from rest high
rising_behind low high [] rest r = (low, r)
rising_behind low high (t ∷ before) rest r = rising_behind (t.at + 1) high before rest r.1

below : (low high : ℕ) (ts : List Tok) → Rising low ts high → low ≤ high
below low high [] r = r
below low high (t ∷ ts) r = let b : t.at + 1 ≤ high = below (t.at + 1) high ts r.1 in omega (arith, r.0)

reaches : (low high : ℕ) (m : List Tok) (t : Tok) (more : List Tok) → Rising low (m ++ t ∷ more) high → low ≤ t.at
reaches low high [] t more r = r.0
reaches low high (x ∷ m) t more r = let b : x.at + 1 ≤ t.at = reaches (x.at + 1) high m t more r.1 in omega (arith, r.0)

-- the next token stands before each later one, and before the end
pub before_token : (low high : ℕ) (m : List Tok) (t : Tok) (more : List Tok) → Rising low (m ++ t ∷ more) high → (place_in high (m ++ t ∷ more) < t.at) ⊎ (m ≡ [])
before_token low high [] t more r = inr refl
before_token low high (x ∷ m) t more r = inl (let b : x.at + 1 ≤ t.at = reaches (x.at + 1) high m t more r.1 in omega arith)

pub before_end : (low high : ℕ) (ts : List Tok) → Rising low ts high → (place_in high ts < high) ⊎ (ts ≡ [])
before_end low high [] r = inr refl
before_end low high (t ∷ ts) r = inl (let b : t.at + 1 ≤ high = below (t.at + 1) high ts r.1 in omega arith)

-- a token of a list stands in its front, or behind it
pub parted : (b : List Tok) (t : Tok) (r before rest : List Tok) → b ++ t ∷ r ≡ before ++ rest
    → ((m : List Tok) × (before ≡ b ++ t ∷ m) × (r ≡ m ++ rest)) ⊎ ((m : List Tok) × (b ≡ before ++ m) × (rest ≡ m ++ t ∷ r))
parted b t r [] rest e = inr (b, refl, sym e)
parted [] t r (x ∷ before) rest e = inl (before, ap (λ y. y ∷ before) (sym (ap head e)), ap behind e)
parted (y ∷ b) t r (x ∷ before) rest e = consed (parted b t r before rest (ap behind e))
  where
    same_head : y ≡ x
    same_head = ap head e

    consed : ((m : List Tok) × (before ≡ b ++ t ∷ m) × (r ≡ m ++ rest)) ⊎ ((m : List Tok) × (b ≡ before ++ m) × (rest ≡ m ++ t ∷ r))
        → ((m : List Tok) × (x ∷ before ≡ (y ∷ b) ++ t ∷ m) × (r ≡ m ++ rest)) ⊎ ((m : List Tok) × (y ∷ b ≡ (x ∷ before) ++ m) × (rest ≡ m ++ t ∷ r))
    consed (inl h) = inl (h.0, ap (λ w. x ∷ w) h.1 ∙ ap (λ w. w ∷ (b ++ t ∷ h.0)) (sym same_head), h.2)
    consed (inr h) = inr (h.0, ap (λ w. y ∷ w) h.1 ∙ ap (λ w. w ∷ (before ++ h.0)) same_head, h.2)
