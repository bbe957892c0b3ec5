use Rattle.std.specs.Prelude.{All}
use Rattle.sq_expr.specs.Fits.{IsFit}
use Rattle.engine_cases.specs.Given.{no_kinds}
use Rattle.engine_cases.proofs.shared.blocks_of.Given as goal

abbrev pub invariant-loop-line : goal.invariant-loop-line
invariant-loop-line l = All (IsFit no_kinds l.catalogue.tables) l.blocks.items
