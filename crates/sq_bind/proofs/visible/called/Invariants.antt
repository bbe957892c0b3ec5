use Rattle.std.proofs.Common.{◌≡◌, map, drop}
use Rattle.sq_bind.specs.Visible.{called}
use Rattle.sq_bind.specs.Seen.{seen}
use Rattle.sq_bind.proofs.visible.called.Given as goal

abbrev pub invariant-loop-alias : goal.invariant-loop-alias
invariant-loop-alias l = called l.name (map seen (drop l.alias-index l.aliases)) ≡ called l.name (map seen l.aliases)
