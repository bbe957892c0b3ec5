use Rattle.std.proofs.Common.{◌≡◌, Some, length, ap, sym, subst, ◌∙◌, arith}
use Rattle.std.specs.Prelude.{slice_get}
use Rattle.std.proofs.lemmas.List.{length_push}
use Rattle.std.proofs.lemmas.Option.{slice_get-get_or}
use Rattle.sq_expr.specs.declared.block.Conjunct.{Conjunct}
use Rattle.sq_expr.specs.declared.prepared.Prepared.{Prepared}
use Rattle.sq_expr.specs.Prepared.{ArePrepared}
use Rattle.sq_expr.proofs.PreparedLemmas.{prepared_none, prepared_more}
use Rattle.sq_expr.proofs.conjuncts.all_prepared.Goals as goal

pub loop-conjunct-init : goal.loop-conjunct-init
loop-conjunct-init c =
    let none = c.new-all.ensures.items in
    record { length' = ap (length {A = Prepared}) none; are = prepared_none c.args.conjuncts.now _ none }

pub loop-conjunct-preserved : goal.loop-conjunct-preserved
loop-conjunct-preserved c =
    let items = c.loop-conjunct.all.items in
    let slot = c.in_ok-prepared_of.field-0 in
    let conjuncts = c.args.conjuncts.now in
    let item : Conjunct = c.conjunct-item.result in
    let inv = c.loop-conjunct.invariant in
    let there : slice_get conjuncts (length items) ≡ Some item =
    ap (slice_get conjuncts) inv.length' ∙ slice_get-get_or conjuncts c.loop-conjunct.conjunct-index item c.loop-conjunct-test.true
    ∙ ap (λ (x : Conjunct). Some x) (sym c.conjunct-item.is) in
    let pushed = c.in_ok-push.ensures.items in
    record {
      length' = ap (length {A = Prepared}) pushed ∙ omega (arith, length_push items slot, inv.length');
      are = subst (ArePrepared conjuncts) (sym pushed) (prepared_more conjuncts items slot item there c.in_ok-prepared_of.ensures inv.are);
    }

pub returns : goal.returns
returns c = c.loop-conjunct.invariant.are
