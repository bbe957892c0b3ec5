use Rattle.std.proofs.Common.{List, map, subst, ap, sym, ◌∙◌, arith}
use Rattle.std.proofs.lemmas.List.{take_all}
use Rattle.std.specs.Option.{option_map}
use Rattle.sq_value.specs.Key.{rank_of_key}
use Rattle.sq_value.specs.Rank.{rank_of}
use Rattle.sq_expr.specs.declared.cond.Cond.{Cond}
use Rattle.sq_expr.specs.Meaning.{truth_of, greatest}
use Rattle.sq_expr.specs.Membership.{IsEquality}
use Rattle.sq_expr.proofs.MembershipLemmas.{literals_more}
use Rattle.sq_expr.proofs.membership.literals_of.Goals as goal

pub loop-part-init : goal.loop-part-init
loop-part-init c gives at = sym (c.new-literals.ensures (rank_of (at c.args.column)))

pub loop-part-preserved : goal.loop-part-preserved
loop-part-preserved c =
    let i = c.loop-part.part-index in
    let key = option_map rank_of_key c.in-Some.key in
    literals_more c.args.column c.args.parts.now i c.part-item.result c.loop-part.literals c.add.new.self key c.loop-part-test.true c.loop-part.invariant
    (subst (λ (part : Cond). IsEquality c.args.column part key) c.part-item.is c.in-Some.ensures) c.in_ok-add.ensures

pub returns : goal.returns
returns c gives at =
    ap (λ (cs : List Cond). greatest (map (truth_of gives at) cs)) (sym (take_all c.loop-part.part-index c.args.parts.now (omega (arith, c.loop-part-test.false))))
    ∙ c.loop-part.invariant gives at
