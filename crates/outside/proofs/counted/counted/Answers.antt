use Rattle.outside.proofs.counted.counted.Goals as goal

-- the call failed, and one more is counted
pub returns-in-Err-clause-counts : goal.returns-in-Err-clause-counts
returns-in-Err-clause-counts g c = rw c.in-Err.is c.saturating_add.ensures
