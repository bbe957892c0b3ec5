use Rattle.sq_value.proofs.DecimalLemmas.{here-before, here-behind, later-before, later-behind, end-before, end-behind}
use Rattle.sq_value.proofs.decimal_reading.parts.Goals as goal

pub returns-then-byte-eq46-clause-before : goal.returns-then-byte-eq46-clause-before
returns-then-byte-eq46-clause-before c =
    here-before c.args.digits.now c.loop-place.place c.loop-place-test.true c.if-byte-eq46.true c.loop-place.invariant.before

pub returns-then-byte-eq46-clause-behind : goal.returns-then-byte-eq46-clause-behind
returns-then-byte-eq46-clause-behind c =
    here-behind c.args.digits.now c.loop-place.place c.loop-place-test.true c.if-byte-eq46.true c.loop-place.invariant.behind

pub loop-place-preserved : goal.loop-place-preserved
loop-place-preserved c = record {
  before = later-before c.args.digits.now c.loop-place.place c.loop-place-test.true c.if-byte-eq46.false c.loop-place.invariant.before;
  behind = later-behind c.args.digits.now c.loop-place.place c.loop-place-test.true c.if-byte-eq46.false c.loop-place.invariant.behind;
}

pub returns-clause-before : goal.returns-clause-before
returns-clause-before c = end-before c.args.digits.now c.loop-place.place c.loop-place-test.false c.loop-place.invariant.before

pub returns-clause-behind : goal.returns-clause-behind
returns-clause-behind c = end-behind c.args.digits.now c.loop-place.place c.loop-place-test.false c.loop-place.invariant.behind
