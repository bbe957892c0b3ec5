use Rattle.std.proofs.Common.{[], ◌∷◌, map}
use Rattle.sq_bind.specs.Seen.{seen}
use Rattle.sq_bind.proofs.ConditionLemmas.{fault_of_two}
use Rattle.sq_bind.proofs.condition.compare_fault.Goals as goal

pub returns : goal.returns
returns c =
    fault_of_two (map seen c.args.aliases.now) c.args.at c.args.left.now (c.args.right.now ∷ []) _ _ _ _ c.one.ensures c.one-2.ensures c.and.ensures
    c.fault_at.ensures
