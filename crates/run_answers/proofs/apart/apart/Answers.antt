use Rattle.std.proofs.Common.{List, ◌++◌, map, reverse, ap, ◌∙◌, append-nil}
use Rattle.sq_expr.specs.declared.block.Block.{Block}
use Rattle.run_base.specs.declared.bound.Bound.{Bound}
use Rattle.run_answers.specs.Together.{blocks_in}
use Rattle.run_answers.proofs.TogetherLemmas.{taken_one}
use Rattle.run_answers.proofs.apart.apart.Goals as goal

pub loop-bound-init : goal.loop-bound-init
loop-bound-init c = record {
  blocks = ap (λ l. blocks_in c.args.bounds ++ reverse l) c.new-blocks.ensures.items ∙ append-nil (blocks_in c.args.bounds);
  shapes = ap (λ l. map (λ (b : Bound). b.shape) c.args.bounds ++ reverse l) c.new-shapes.ensures.items ∙ append-nil (map (λ (b : Bound). b.shape) c.args.bounds);
}

pub loop-bound-preserved : goal.loop-bound-preserved
loop-bound-preserved c =
    let before = c.loop-bound.invariant in
    record {
      blocks = taken_one (λ (b : Bound). b.block) _ _ _ _ c.in-Some.bound c.in-Some.ensures c.in_ok-push.ensures.items ∙ before.blocks;
      shapes = taken_one (λ (b : Bound). b.shape) _ _ _ _ c.in-Some.bound c.in-Some.ensures c.in_ok-push-2.ensures.items ∙ before.shapes;
    }
