use Rattle.std.proofs.Common.{ap, sym, ◌∙◌}
use Rattle.sq_expr.specs.declared.cond.Cond.{Cond}
use Rattle.sq_bind.specs.Reached.{with_cond}
use Rattle.sq_bind.proofs.ReachLemmas as by
use Rattle.sq_bind.proofs.reach.mark_cond.Goals as goal

pub returns-in-Compare : goal.returns-in-Compare
returns-in-Compare c =
    c.mark_compared.ensures
    ∙ sym (ap (λ (d : Cond). with_cond c.args.uses.now d c.args.marks.now) c.in-Compare.is ∙ by.with_cond-Compare c.args.uses.now _ _ _ c.args.marks.now)

pub returns-in-IsNull : goal.returns-in-IsNull
returns-in-IsNull c =
    sym (ap (λ (d : Cond). with_cond c.args.uses.now d c.args.marks.now) c.in-IsNull.is ∙ by.with_cond-IsNull c.args.uses.now _ c.args.marks.now)

pub returns-in-Call : goal.returns-in-Call
returns-in-Call c =
    sym (ap (λ (d : Cond). with_cond c.args.uses.now d c.args.marks.now) c.in-Call.is ∙ by.with_cond-Call c.args.uses.now _ _ _ c.args.marks.now)

pub returns-in-Not : goal.returns-in-Not
returns-in-Not c =
    sym (ap (λ (d : Cond). with_cond c.args.uses.now d c.args.marks.now) c.in-Not.is ∙ by.with_cond-Not c.args.uses.now _ c.args.marks.now)

pub returns-in-All : goal.returns-in-All
returns-in-All c =
    sym (ap (λ (d : Cond). with_cond c.args.uses.now d c.args.marks.now) c.in-All.is ∙ by.with_cond-All c.args.uses.now _ c.args.marks.now)

pub returns-in-Any : goal.returns-in-Any
returns-in-Any c =
    sym (ap (λ (d : Cond). with_cond c.args.uses.now d c.args.marks.now) c.in-Any.is ∙ by.with_cond-Any c.args.uses.now _ c.args.marks.now)

pub returns-in-Is : goal.returns-in-Is
returns-in-Is c =
    sym (ap (λ (d : Cond). with_cond c.args.uses.now d c.args.marks.now) c.in-Is.is ∙ by.with_cond-Is c.args.uses.now _ _ c.args.marks.now)
