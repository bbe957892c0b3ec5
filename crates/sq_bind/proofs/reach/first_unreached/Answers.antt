use Rattle.std.proofs.Common.{List, not, position, length, ap, sym, ◌∙◌, arith}
use Rattle.std.specs.List.{list_any}
use Rattle.sq_expr.specs.declared.block.AliasUse.{AliasUse}
use Rattle.sq_expr.specs.declared.block.Conjunct.{Conjunct}
use Rattle.sq_bind.specs.Reached.{is_scanned, reached}
use Rattle.sq_bind.proofs.ReachLemmas.{none_any, some_any, position-within, length-all_reached}
use Rattle.sq_bind.proofs.reach.first_unreached.Goals as goal

pub returns-then-not-is_any_scanned : goal.returns-then-not-is_any_scanned
returns-then-not-is_any_scanned c =
    none_any c.args.block.now (ap (list_any is_scanned) (sym c.as_slice-uses.ensures) ∙ sym c.is_any_scanned.ensures ∙ c.if-not-is_any_scanned.true)

pub overflow_cast-result : goal.overflow_cast-result
overflow_cast-result c =
    let uses = c.args.block.now.aliases in
    let marks = c.in_ok-marks.ensures in
    let low = position-within c.as_slice-2.result.now c.in-Some.alias (sym c.first_without.ensures ∙ c.in-Some.is) in
    let same = ap length (c.as_slice-2.ensures.value ∙ c.in_ok-marks.ensures) ∙ length-all_reached c.as_slice-uses.result.now c.as_slice.result.now
    ∙ ap length c.as_slice-uses.ensures in
    let few = c.requires in
    omega (arith, low, same, few)

pub returns-in-Some : goal.returns-in-Some
returns-in-Some c =
    sym c.in-Some.is ∙ c.first_without.ensures ∙ ap (position not) (c.as_slice-2.ensures.value ∙ c.in_ok-marks.ensures
    ∙ ap (λ (uses : List AliasUse). reached uses c.as_slice.result.now) c.as_slice-uses.ensures
    ∙ ap (λ (cs : List Conjunct). reached c.args.block.now.aliases cs) c.as_slice.ensures)
    ∙ sym (some_any c.args.block.now (ap (list_any is_scanned) (sym c.as_slice-uses.ensures) ∙ sym c.is_any_scanned.ensures ∙ c.if-not-is_any_scanned.false))

pub returns : goal.returns
returns c =
    sym c.in-None.is ∙ c.first_without.ensures ∙ ap (position not) (c.as_slice-2.ensures.value ∙ c.in_ok-marks.ensures
    ∙ ap (λ (uses : List AliasUse). reached uses c.as_slice.result.now) c.as_slice-uses.ensures
    ∙ ap (λ (cs : List Conjunct). reached c.args.block.now.aliases cs) c.as_slice.ensures)
    ∙ sym (some_any c.args.block.now (ap (list_any is_scanned) (sym c.as_slice-uses.ensures) ∙ sym c.is_any_scanned.ensures ∙ c.if-not-is_any_scanned.false))
