use Rattle.std.proofs.Common.{◌≡◌, ◌≢◌, ◌+◌, ◌-◌, ◌<◌, ◌≤◌, ℕ, zero, suc, List, [], ◌∷◌, length, take, drop, add-zero, refl, ap, sym, subst, ◌∙◌, arith}
use Rattle.sq_token.specs.declared.form.Form.{Form}
use Rattle.sq_token.specs.declared.form.Form.TheVariants as form
use Rattle.sq_token.specs.Form.{Text, front}
use Rattle.sq_token.specs.Piece.{Piece, piece_then, pieces_from, pieces}

pieces_from-drop : (n at : ℕ) (z : Text) → pieces_from n at z ≡ pieces_from 0 (at + n) (drop n z)
pieces_from-drop zero at z = rw add-zero refl
pieces_from-drop (suc n) at [] = refl
pieces_from-drop (suc n) at (b ∷ z) = let e : (at + 1) + n ≡ at + suc n = omega arith in rw (← e) (pieces_from-drop n (at + 1) z)

behind : (n at b : ℕ) (z : Text) → 1 ≤ n → pieces_from (n - 1) (at + 1) z ≡ pieces_from 0 (at + n) (drop n (b ∷ z))
behind zero at b z h = absurd (omega arith)
behind (suc n) at b z h =
    let e : suc n - 1 ≡ n = omega arith in
    let f : (at + 1) + n ≡ at + suc n = omega arith in
    rw (e, ← f) (pieces_from-drop n (at + 1) z)

-- the tokens of a text by what begins it
pub pieces_step : (at : ℕ) (z : Text) → 0 < length z → 1 ≤ (front z).1 → pieces at z ≡ piece_then (front z).0 (front z).1 at z (pieces (at + (front z).1) (drop (front z).1 z))
unfolding pieces
pieces_step at [] full h = absurd (omega arith)
pieces_step at (b ∷ z) full h = ap (piece_then (front (b ∷ z)).0 (front (b ∷ z)).1 at (b ∷ z)) (behind (front (b ∷ z)).1 at b z h)

pub pieces_none : (at : ℕ) (z : Text) → length z ≡ 0 → pieces at z ≡ []
unfolding pieces
pieces_none at [] e = refl
pieces_none at (b ∷ z) e = absurd (omega arith)

-- each case, for what was found at the front
pub pieces_blank : (at : ℕ) (z : Text) (found : Form × ℕ) → found ≡ front z → 0 < length z → 1 ≤ found.1 → found.0 ≡ form.Blank → pieces at z ≡ pieces (at + found.1) (drop found.1 z)
pieces_blank at z found e full h blank =
    subst (λ (f : Form × ℕ). 1 ≤ f.1 → f.0 ≡ form.Blank → pieces at z ≡ pieces (at + f.1) (drop f.1 z)) (sym e)
    (λ moves is. pieces_step at z full moves ∙ ap (λ f. piece_then f (front z).1 at z (pieces (at + (front z).1) (drop (front z).1 z))) is) h blank

pub pieces_bad : (at : ℕ) (z : Text) (found : Form × ℕ) → found ≡ front z → 0 < length z → 1 ≤ found.1 → found.0 ≡ form.Bad → pieces at z ≡ record { at = at; form = found.0; bytes = take found.1 z } ∷ []
pieces_bad at z found e full h bad =
    subst (λ (f : Form × ℕ). 1 ≤ f.1 → f.0 ≡ form.Bad → pieces at z ≡ record { at = at; form = f.0; bytes = take f.1 z } ∷ []) (sym e)
    (λ moves is. rw is (pieces_step at z full moves ∙ ap (λ f. piece_then f (front z).1 at z (pieces (at + (front z).1) (drop (front z).1 z))) is)) h bad

then_token : (f : Form) (n at : ℕ) (z : Text) (more : List Piece) → f ≢ form.Blank → f ≢ form.Bad → piece_then f n at z more ≡ record { at = at; form = f; bytes = take n z } ∷ more
then_token form.Blank n at z more a b = absurd (a refl)
then_token form.Bad n at z more a b = absurd (b refl)
then_token form.Word n at z more a b = refl
then_token form.Delimited n at z more a b = refl
then_token form.Number n at z more a b = refl
then_token form.Text n at z more a b = refl
then_token form.Symbol n at z more a b = refl

pub pieces_token : (at : ℕ) (z : Text) (found : Form × ℕ) → found ≡ front z → 0 < length z → 1 ≤ found.1 → found.0 ≢ form.Blank → found.0 ≢ form.Bad → pieces at z ≡ record { at = at; form = found.0; bytes = take found.1 z } ∷ pieces (at + found.1) (drop found.1 z)
pieces_token at z found e full h a b =
    subst (λ (f : Form × ℕ). 1 ≤ f.1 → f.0 ≢ form.Blank → f.0 ≢ form.Bad → pieces at z ≡ record { at = at; form = f.0; bytes = take f.1 z } ∷ pieces (at + f.1) (drop f.1 z)) (sym e)
    (λ moves not_blank not_bad. pieces_step at z full moves ∙ then_token (front z).0 (front z).1 at z _ not_blank not_bad) h a b
