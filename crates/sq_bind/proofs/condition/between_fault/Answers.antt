use Rattle.std.proofs.Common.{[], ◌∷◌, map}
use Rattle.sq_bind.specs.Seen.{seen}
use Rattle.sq_bind.proofs.ConditionLemmas.{joined_two, fault_of_two}
use Rattle.sq_bind.proofs.condition.between_fault.Goals as goal

pub returns : goal.returns
returns c =
    let aliases = map seen c.args.aliases.now in
    let bounds = joined_two aliases c.args.low.now (c.args.high.now ∷ []) _ _ _ c.one-2.ensures c.one-3.ensures c.and.ensures in
    fault_of_two aliases c.args.at c.args.subject.now (c.args.low.now ∷ c.args.high.now ∷ []) _ _ _ _ c.one.ensures bounds c.and-2.ensures
    c.fault_at.ensures
