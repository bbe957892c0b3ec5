use Rattle.std.proofs.Common.{◌≡◌, Option, ap, ◌∙◌, rules}
use Rattle.std.specs.Option.{option_map}
use Rattle.sq_value.specs.Key.{rank_of_key}
use Rattle.sq_value.specs.declared.key.Key.{Key}
use Rattle.sq_value.specs.declared.value.Value.{Value}
use Rattle.sq_value.specs.declared.value.Cmp.{Cmp}
use Rattle.sq_value.specs.declared.value.Cmp.TheVariants.{Eq}
use Rattle.sq_expr.specs.declared.cond.ColumnOf.{ColumnOf}
use Rattle.sq_expr.specs.declared.cond.Side.{Side}
use Rattle.sq_expr.specs.declared.cond.Side.TheVariants.{Column}
use Rattle.sq_expr.specs.declared.cond.Cond.TheVariants.{Compare}
use Rattle.sq_expr.specs.Meaning.{side_rank}
use Rattle.sq_expr.specs.Membership.{IsEquality}
use Rattle.sq_expr.proofs.MembershipLemmas.{some_so}
use Rattle.sq_expr.proofs.membership.part_key.Goals as goal

pub returns : goal.returns
returns c =
    let at-left = c.in-Some.left.now in
    let at-right = c.in-Some.right.now in
    let left : at-left ≡ Column c.args.column = search rules in
    let how : c.in-Some.cmp ≡ Eq = search rules in
    some_so (λ (k : Option Key). (at : ColumnOf → Value) → side_rank at at-right ≡ option_map rank_of_key k)
    (λ (k : Option Key). IsEquality c.args.column c.args.part.now (option_map rank_of_key k)) c.literal.result
    (λ k h. record { other = at-right; is = c.in-Some.ensures ∙ ap (λ (x : Side). Compare x c.in-Some.cmp at-right) left ∙ ap (λ (how : Cmp). Compare (Column c.args.column) how at-right) how; rank = h })
    c.literal.ensures
