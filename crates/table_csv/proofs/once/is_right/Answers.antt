use Rattle.std.proofs.Common.{sym, ap, ◌∙◌, get_or, arith}
use Rattle.table_csv.specs.declared.heading.Named.{Named}
use Rattle.table_csv.specs.declared.types.Seen.TheVariants as seen
use Rattle.table_csv.specs.Work.{column_of_head}
use Rattle.table_csv.proofs.FrontLemmas.{right-more}
use Rattle.table_csv.proofs.once.is_right.Goals as goal

pub loop-i-preserved : goal.loop-i-preserved
loop-i-preserved c =
    let i = c.loop-i.i in
    let guessed = get_or c.args.guess.now i seen.Nulls in
    let known = get_or c.args.seen.now i seen.Nulls in
    let one = ap (λ (h : Named). column_of_head h guessed) (sym c.index-heads-i.is) ∙ c.is_right_one.ensures c.if-not-is_right_one.false
    ∙ ap (λ (h : Named). column_of_head h known) c.index-heads-i.is in
    λ rest. c.loop-i.invariant (right-more c.args.heads.now c.args.guess.now c.args.seen.now i c.index-heads-i.result c.loop-i-test.true
    (omega (arith, c.loop-i-test.true, c.requires.guess)) (omega (arith, c.loop-i-test.true, c.requires.seen)) one rest)
