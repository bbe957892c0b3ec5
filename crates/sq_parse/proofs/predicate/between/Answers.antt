use Rattle.std.proofs.Common.{refl}
use Rattle.sq_parse.specs.Reader as read
use Rattle.sq_parse.proofs.Steps.{hands_on}
use Rattle.sq_parse.proofs.predicate.between.Goals as goal

pub returns-in_err-expect : goal.returns-in_err-expect
unfolding read.between
returns-in_err-expect c =
    hands_on _ _ _ _ c.from_residual.ensures.1 (λ other. rw (c.in_err-expect.ensures.0, c.in_err-expect.ensures.1, c.in_err-expect.ensures.2) refl)

pub returns-in_err-low : goal.returns-in_err-low
unfolding read.between
returns-in_err-low c =
    hands_on _ _ _ _ c.from_residual-in_err-low.ensures.1 (λ other. rw (c.in_ok-expect.ensures.0, rw c.in_ok-expect.ensures.1 at (c.in_err-low.ensures other)) refl)

pub returns-in_err-expect-2 : goal.returns-in_err-expect-2
unfolding read.between
returns-in_err-expect-2 c =
    hands_on _ _ _ _ c.from_residual-in_err-expect-2.ensures.1 (λ other.
    rw (c.in_ok-expect.ensures.0, rw c.in_ok-expect.ensures.1 at c.in_ok-low.ensures, c.in_err-expect-2.ensures.0, c.in_err-expect-2.ensures.1, c.in_err-expect-2.ensures.2) refl)

pub returns-in_err-high : goal.returns-in_err-high
unfolding read.between
returns-in_err-high c =
    hands_on _ _ _ _ c.from_residual-in_err-high.ensures.1 (λ other.
    rw (c.in_ok-expect.ensures.0, rw c.in_ok-expect.ensures.1 at c.in_ok-low.ensures, c.in_ok-expect-2.ensures.0, rw c.in_ok-expect-2.ensures.1 at (c.in_err-high.ensures other)) refl)

pub returns : goal.returns
unfolding read.between
returns c =
    rw (c.in_ok-expect.ensures.0, rw c.in_ok-expect.ensures.1 at c.in_ok-low.ensures, c.in_ok-expect-2.ensures.0, rw c.in_ok-expect-2.ensures.1 at c.in_ok-high.ensures, c.in_ok-high-2.ensures, c.begin_of.ensures) refl
