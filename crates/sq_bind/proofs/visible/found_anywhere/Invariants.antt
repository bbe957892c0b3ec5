use Rattle.std.proofs.Common.{◌≡◌, map, drop}
use Rattle.std.specs.List.{flat_map}
use Rattle.sq_bind.specs.Visible.{named}
use Rattle.sq_bind.specs.Seen.{seen, tally, both}
use Rattle.sq_bind.proofs.visible.found_anywhere.Given as goal

abbrev pub invariant-loop-alias : goal.invariant-loop-alias
invariant-loop-alias l =
    both l.found (tally (flat_map (named l.name) (map seen (drop l.alias-index l.aliases)))) ≡ tally (flat_map (named l.name) (map seen l.aliases))
