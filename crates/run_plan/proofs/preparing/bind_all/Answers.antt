use Rattle.std.proofs.Common.{◌≡◌, ◌<◌, List, [], length, get_or, sym, ap, ◌∙◌, arith}
use Rattle.std.proofs.lemmas.List.{take_all}
use Rattle.std.proofs.lemmas.List.Elements.{All-nil, All-push, All-same}
use Rattle.sq_parse.specs.declared.tree.Statement.{Statement}
use Rattle.run_base.specs.Runnable.{IsRunnable}
use Rattle.run_plan.proofs.DoingLemmas.{through, refuses_weaker}
use Rattle.run_plan.proofs.BindingLemmas.{blocks_none, blocks_next, blocks_refused, blocks_of, blocks_are, parsed_at}
use Rattle.run_plan.proofs.preparing.bind_all.Goals as goal

pub loop-index-init : goal.loop-index-init
loop-index-init g c =
    let none : c.new-bounds.result ≡ [] = c.new-bounds.ensures in
    record { bound = blocks_are _ 1 _ _ _ (sym none) (blocks_none _ 1); run = rw none (All-nil (IsRunnable (g.P.Predicates.kinds_of c.args.functions.now) c.args.catalogue.now.tables)) }

pub returns-in_err-bound-clause-refused : goal.returns-in_err-bound-clause-refused
returns-in_err-bound-clause-refused g c =
    through c.from_residual.result c.in_err-bound.field-0.0 _ c.from_residual.ensures.1
    (refuses_weaker _ _ c.in_err-bound.field-0.0
    (λ e. blocks_of _ 1 _ _ _ c.as_slice-statements.ensures
    (blocks_refused _ c.as_slice-statements.result.now c.loop-index.index c.index-statements-index.result c.loop-index.bounds c.in_err-bound.field-0.0 c.loop-index-test.true
    c.index-statements-index.is c.loop-index.invariant.bound e))
    c.in_err-bound.ensures.refused)

pub loop-index-preserved : goal.loop-index-preserved
loop-index-preserved g c =
    let runs = IsRunnable (g.P.Predicates.kinds_of c.args.functions.now) c.args.catalogue.now.tables in
    record {
      bound = blocks_are _ 1 _ _ _ (sym c.in-Ok.ensures.ok)
          (blocks_next _ c.as_slice-statements.result.now c.loop-index.index c.index-statements-index.result c.loop-index.bounds c.in_ok-bound.bound c.loop-index-test.true
          c.index-statements-index.is c.loop-index.invariant.bound c.in_ok-bound.ensures.ok);
      run = All-same runs _ _ c.in-Ok.ensures.ok (All-push runs c.loop-index.bounds c.in_ok-bound.bound c.loop-index.invariant.run c.in_ok-bound.ensures.runs);
    }

pub returns-clause-ok : goal.returns-clause-ok
returns-clause-ok g c =
    blocks_of _ 1 _ _ _ (take_all c.loop-index.index c.as_slice-statements.result.now (omega (arith, c.loop-index-test.false)) ∙ c.as_slice-statements.ensures)
    c.loop-index.invariant.bound

pub bind_one-requires-clause-parsed : goal.bind_one-requires-clause-parsed
bind_one-requires-clause-parsed g c =
    let within : c.loop-index.index < length c.args.script.now.statements = omega (arith, ap (length {A = Statement}) c.as_slice-statements.ensures, c.loop-index-test.true) in
    parsed_at c.args.script.now c.loop-index.index c.index-statements-index.result c.requires.parsed within
    (c.index-statements-index.is ∙ ap (λ (ss : List Statement). get_or ss c.loop-index.index c.index-statements-index.result) c.as_slice-statements.ensures)
