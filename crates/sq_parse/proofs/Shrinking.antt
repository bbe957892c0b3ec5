-- What is read in a loop takes a token at least, and doesn't begin at the end.
use Rattle.std.proofs.Common.{◌≡◌, true, false, ℕ, refl, arith}
use Rattle.std.proofs.lemmas.Bool.Decides.{nat_tests}
use Rattle.sq_token.specs.declared.mark.Mark.TheVariants as k
use Rattle.sq_token.specs.Mark.{is, same, is_sign}
use Rattle.sq_parse.specs.Grammar as g
use Rattle.sq_parse.specs.Grammar.{shipped}
use Rattle.sq_parse.specs.Reader as read
use Rattle.sq_parse.specs.Reading.{after}
use Rattle.sq_parse.proofs.Exact as exact
use Rattle.sq_parse.proofs.ItemsExact as items
use Rattle.sq_parse.proofs.ConditionsExact as conditions
use Rattle.sq_parse.proofs.StatementsExact as statements
use Rattle.sq_parse.proofs.Loops.{Shrinks, Shrinks-exact}
use Rattle.sq_parse.proofs.OperandsExact as operands

pub no_sign : is_sign k.End ≡ false
unfolding same
no_sign = refl

pub signed_term : Shrinks (read.signed_term shipped)
signed_term = Shrinks-exact (operands.signed_term shipped) (operands.Full-signed shipped)

pub no_comma : is k.Comma k.End ≡ false
unfolding same
no_comma = refl

-- the limits of scripts allow no more beside a `*` than elsewhere
pub nested : (n : ℕ) → shipped.narrow n ≡ true → shipped.wide n ≡ true
nested n h = grind (arith, nat_tests)

pub operand : Shrinks (after k.Comma (read.operand shipped))
unfolding same
operand = Shrinks-exact (exact.after k.Comma refl (operands.operand shipped)) (exact.Full-after k.Comma (g.operand shipped))

pub simple : Shrinks (after k.Comma (read.simple shipped))
unfolding same
simple = Shrinks-exact (exact.after k.Comma refl (operands.simple shipped nested)) (exact.Full-after k.Comma (g.simple shipped))

pub item : Shrinks (after k.Comma read.item)
unfolding same
item = Shrinks-exact (exact.after k.Comma refl items.item) (exact.Full-after k.Comma g.item)

pub key : Shrinks (after k.Comma read.key)
unfolding same
key = Shrinks-exact (exact.after k.Comma refl items.key) (exact.Full-after k.Comma g.key)

pub column : Shrinks (after k.Comma read.column)
unfolding same
column = Shrinks-exact (exact.after k.Comma refl operands.column) (exact.Full-after k.Comma g.column)

pub no_and : is k.And k.End ≡ false
unfolding same
no_and = refl

pub no_or : is k.Or k.End ≡ false
unfolding same
no_or = refl

pub neg : (d : ℕ) → Shrinks (after k.And (read.neg shipped d))
unfolding same
neg d = Shrinks-exact (exact.after k.And refl (conditions.neg shipped nested d)) (exact.Full-after k.And (g.neg shipped d))

pub conjunction : (d : ℕ) → Shrinks (after k.Or (read.conjunction_at shipped d))
unfolding same
conjunction d = Shrinks-exact (exact.after k.Or refl (conditions.conjunction_at shipped nested d)) (exact.Full-after k.Or (g.conjunction (g.neg shipped d)))

pub no_join : read.begins_join k.End ≡ false
unfolding same
no_join = refl

pub join : (d : ℕ) → Shrinks (read.join shipped d)
join d = Shrinks-exact (statements.join shipped nested d) (statements.Full-join shipped nested d)
