use Rattle.std.proofs.Common.{◌≡◌, drop}
use Rattle.sq_bind.specs.Visible.{named_from}
use Rattle.sq_bind.specs.Seen.{tally, both}
use Rattle.sq_bind.proofs.visible.found_among.Given as goal

abbrev pub invariant-loop-index : goal.invariant-loop-index
invariant-loop-index l =
    both l.found (tally (named_from l.alias l.index l.name (drop l.index l.columns))) ≡ tally (named_from l.alias 0 l.name l.columns)
