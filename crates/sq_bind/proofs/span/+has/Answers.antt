use Rattle.std.proofs.Common.{List, ap, sym, ◌∙◌}
use Rattle.std.specs.List.{list_any}
use Rattle.sq_expr.specs.Fits.{aliases_of, side_aliases, arg_aliases}
use Rattle.sq_expr.specs.declared.cond.Cond.{Cond}
use Rattle.sq_expr.proofs.FitLemmas.{aliases_of-IsNull, aliases_of-Not, aliases_of-Is}
use Rattle.sq_bind.specs.Statement.{is_among}
use Rattle.sq_bind.proofs.OccursLemmas as by
use Rattle.sq_bind.proofs.span.+has.Goals as goal

pub cond_has-returns-then-side_has : goal.cond_has-returns-then-side_has
cond_has-returns-then-side_has t c =
    by.first_decides (is_among c.args.alias (side_aliases c.in-Compare.x)) (is_among c.args.alias (side_aliases c.in-Compare.y)) _ c.side_has.result
    (ap (λ (d : Cond). is_among c.args.alias (aliases_of d)) c.in-Compare.is ∙ by.among-Compare c.args.alias _ _ _) c.side_has.ensures c.if-side_has.true

pub cond_has-returns-else-side_has : goal.cond_has-returns-else-side_has
cond_has-returns-else-side_has t c =
    by.second_decides (is_among c.args.alias (side_aliases c.in-Compare.x)) (is_among c.args.alias (side_aliases c.in-Compare.y)) _ c.side_has.result
    c.side_has-else-side_has.result
    (ap (λ (d : Cond). is_among c.args.alias (aliases_of d)) c.in-Compare.is ∙ by.among-Compare c.args.alias _ _ _) c.side_has.ensures c.if-side_has.false
    c.side_has-else-side_has.ensures

pub cond_has-returns-in-IsNull : goal.cond_has-returns-in-IsNull
cond_has-returns-in-IsNull t c =
    c.side_has-in-IsNull.ensures
    ∙ sym (ap (λ (d : Cond). is_among c.args.alias (aliases_of d)) c.in-IsNull.is ∙ ap (is_among c.args.alias) (aliases_of-IsNull c.in-IsNull.x))

pub cond_has-returns-then-arg_has : goal.cond_has-returns-then-arg_has
cond_has-returns-then-arg_has t c =
    by.first_decides (is_among c.args.alias (arg_aliases c.in-Call.x)) (is_among c.args.alias (arg_aliases c.in-Call.y)) _ c.arg_has.result
    (ap (λ (d : Cond). is_among c.args.alias (aliases_of d)) c.in-Call.is ∙ by.among-Call c.args.alias _ _ _) c.arg_has.ensures c.if-arg_has.true

pub cond_has-returns-else-arg_has : goal.cond_has-returns-else-arg_has
cond_has-returns-else-arg_has t c =
    by.second_decides (is_among c.args.alias (arg_aliases c.in-Call.x)) (is_among c.args.alias (arg_aliases c.in-Call.y)) _ c.arg_has.result
    c.arg_has-else-arg_has.result
    (ap (λ (d : Cond). is_among c.args.alias (aliases_of d)) c.in-Call.is ∙ by.among-Call c.args.alias _ _ _) c.arg_has.ensures c.if-arg_has.false
    c.arg_has-else-arg_has.ensures

pub cond_has-returns-in-Not : goal.cond_has-returns-in-Not
cond_has-returns-in-Not t c =
    c.cond_has.ensures ∙ ap (λ (d : Cond). is_among c.args.alias (aliases_of d)) c.get.ensures
    ∙ sym (ap (λ (d : Cond). is_among c.args.alias (aliases_of d)) c.in-Not.is ∙ ap (is_among c.args.alias) (aliases_of-Not c.in-Not.part))

pub cond_has-returns-in-All : goal.cond_has-returns-in-All
cond_has-returns-in-All t c =
    c.parts_have.ensures ∙ ap (λ (ds : List Cond). list_any (λ (d : Cond). is_among c.args.alias (aliases_of d)) ds) c.as_slice.ensures
    ∙ sym (ap (λ (d : Cond). is_among c.args.alias (aliases_of d)) c.in-All.is ∙ by.among-All c.args.alias c.in-All.parts)

pub cond_has-returns-in-Any : goal.cond_has-returns-in-Any
cond_has-returns-in-Any t c =
    c.parts_have-in-Any.ensures ∙ ap (λ (ds : List Cond). list_any (λ (d : Cond). is_among c.args.alias (aliases_of d)) ds) c.as_slice-in-Any.ensures
    ∙ sym (ap (λ (d : Cond). is_among c.args.alias (aliases_of d)) c.in-Any.is ∙ by.among-Any c.args.alias c.in-Any.parts)

pub cond_has-returns-in-Is : goal.cond_has-returns-in-Is
cond_has-returns-in-Is t c =
    c.cond_has-in-Is.ensures ∙ ap (λ (d : Cond). is_among c.args.alias (aliases_of d)) c.get-in-Is.ensures
    ∙ sym (ap (λ (d : Cond). is_among c.args.alias (aliases_of d)) c.in-Is.is ∙ ap (is_among c.args.alias) (aliases_of-Is c.in-Is.part c.in-Is.field-1))
