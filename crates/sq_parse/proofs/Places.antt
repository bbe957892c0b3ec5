-- Where numbers may stand: a number beside a `*` has another bound.
use Rattle.std.proofs.Common.{◌≡◌, Bool, true, not, ◌&&◌, List, [], ◌∷◌, ◌++◌, refl, ap}
use Rattle.sq_token.specs.declared.mark.Mark.{Mark}
use Rattle.sq_token.specs.declared.mark.Mark.TheVariants as k
use Rattle.sq_token.specs.Mark.{is}
use Rattle.sq_token.specs.Tok.{Tok, next, done}
use Rattle.sq_parse.specs.Fault.{last, is_large}

-- a token is no number, or may stand between these two
abbrev pub fits : Mark → Tok → Mark → Bool
fits left t right = not (is k.Number t.mark && is_large left t.number right)

-- the next mark of a list before a given one
abbrev pub first : List Tok → Mark → Mark
first [] m = m
first (t ∷ ts) m = t.mark

-- each number of a list may stand where it stands
abbrev pub Clean : Mark → List Tok → Mark → Type 0
Clean left [] right = Unit {0}
Clean left (t ∷ ts) right = (fits left t (first ts right) ≡ true) × Clean t.mark ts right

-- ---- lists one behind the other

pub last-append : (m : Mark) (us vs : List Tok) → last m (us ++ vs) ≡ last (last m us) vs
last-append m [] vs = refl
last-append m (t ∷ us) vs = last-append t.mark us vs

first-append : (us vs : List Tok) (m : Mark) → first (us ++ vs) m ≡ first us (first vs m)
first-append [] vs m = refl
first-append (t ∷ us) vs m = refl

pub next-append : (us rest : List Tok) → next (us ++ rest) ≡ first us (next rest)
next-append [] rest = refl
next-append (t ∷ us) rest = refl

-- what comes next doesn't depend on what stands behind the next token
pub next_same : (us v w : List Tok) → next v ≡ next w → next (us ++ v) ≡ next (us ++ w)
next_same [] v w e = e
next_same (t ∷ us) v w e = refl

-- what a reading function sees of tokens that it doesn't read: the next mark, and whether there is a token
abbrev pub view : List Tok → Mark × Bool
view ts = (next ts, done ts)

pub view_same : (us v w : List Tok) → view v ≡ view w → view (us ++ v) ≡ view (us ++ w)
view_same [] v w e = e
view_same (t ∷ us) v w e = refl

pub next_seen : (v w : List Tok) → view v ≡ view w → next v ≡ next w
next_seen v w e = ap (λ z. z.0) e

pub done_same : (us v w : List Tok) → view v ≡ view w → done (us ++ v) ≡ done (us ++ w)
done_same us v w e = ap (λ z. z.1) (view_same us v w e)

pub Clean-append : (left : Mark) (us vs : List Tok) (right : Mark) → Clean left us (first vs right) → Clean (last left us) vs right → Clean left (us ++ vs) right
Clean-append left [] vs right x y = y
Clean-append left (t ∷ us) vs right x y = (rw (first-append us vs right) x.0, Clean-append t.mark us vs right x.1 y)
