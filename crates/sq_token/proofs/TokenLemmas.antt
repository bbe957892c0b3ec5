use Rattle.std.proofs.Common.{◌≡◌, ◌+◌, ◌-◌, ◌<◌, ◌≤◌, ℕ, List, [], ◌∷◌, ◌++◌, length, take, drop, map, refl, ap, sym, subst, append_assoc, ◌∙◌, arith}
use Rattle.std.proofs.lemmas.List.{drop-take, take-take, length-take-le}
use Rattle.sq_token.specs.declared.token.Token.{Token}
use Rattle.sq_token.specs.Form.{Text}
use Rattle.sq_token.specs.Piece.{Piece, pieces}
use Rattle.sq_token.specs.Quoted.{inside}
use Rattle.sq_token.specs.Token.{token_of, tokens_of, InOrder}

pub inside_front : (z : Text) (n : ℕ) → 2 ≤ n → n ≤ length z → inside (take n z) ≡ take (n - 2) (drop 1 z)
inside_front z n low high =
    let e : 1 + (n - 1) ≡ n = omega arith in
    let f : drop 1 (take n z) ≡ take (n - 1) (drop 1 z) =
    subst (λ k. drop 1 (take k z) ≡ take (n - 1) (drop 1 z)) e (drop-take 1 (n - 1) z) in
    rw (length-take-le n z high, f) (take-take (n - 2) (n - 1) (drop 1 z) (omega arith))

pub tokens_start : (z : Text) → map token_of (pieces 0 z) ≡ tokens_of z
unfolding tokens_of
tokens_start z = refl

-- one more span behind those before
pub InOrder-push : (low at high : ℕ) (ts : List Token) (t : Token) → InOrder low at ts → at ≤ t.span.from → t.span.from < t.span.to → t.span.to ≤ high → InOrder low high (ts ++ t ∷ [])
InOrder-push low at high [] t h a b c = (omega arith, b, c)
InOrder-push low at high (s ∷ ts) t h a b c = (h.0, h.1, InOrder-push s.span.to at high ts t h.2 a b c)

pub InOrder-wider : (low at high : ℕ) (ts : List Token) → InOrder low at ts → at ≤ high → InOrder low high ts
InOrder-wider low at high [] h a = omega arith
InOrder-wider low at high (s ∷ ts) h a = (h.0, h.1, InOrder-wider s.span.to at high ts h.2 a)

-- one more token taken from those that are left
pub tokens_step : (found new all : List Token) (t : Token) (p : Piece) (ps more : List Piece) → new ≡ found ++ t ∷ [] → t ≡ token_of p → ps ≡ p ∷ more → found ++ map token_of ps ≡ all → new ++ map token_of more ≡ all
tokens_step found new all t p ps more pushed made drawn so_far =
    rw (pushed, made, append_assoc) (ap (λ qs. found ++ map token_of qs) (sym drawn) ∙ so_far)

pub InOrder-step : (at high : ℕ) (found new : List Token) (t : Token) (p : Piece) → new ≡ found ++ t ∷ [] → t ≡ token_of p → InOrder 0 at found → at ≤ p.at → 0 < length p.bytes → p.at + length p.bytes ≤ high → InOrder 0 high new
InOrder-step at high found new t p pushed made h a b c =
    rw (pushed, made) (InOrder-push 0 at high found (token_of p) h a (omega arith) c)
