use Rattle.std.proofs.Common.{◌≡◌, drop}
use Rattle.std.specs.List.{list_any}
use Rattle.sq_bind.specs.Reached.{is_scanned}
use Rattle.sq_bind.proofs.reach.is_any_scanned.Given as goal

abbrev pub invariant-loop-alias : goal.invariant-loop-alias
invariant-loop-alias l = list_any is_scanned (drop l.alias-index l.uses) ≡ list_any is_scanned l.uses
