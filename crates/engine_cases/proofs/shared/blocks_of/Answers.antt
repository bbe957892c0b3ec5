use Rattle.std.proofs.Common.{Option, sym, subst}
use Rattle.std.specs.Prelude.{All, IfSome}
use Rattle.std.proofs.lemmas.List.Elements.{All-push}
use Rattle.sq_expr.specs.Fits.{IsFit}
use Rattle.sq_expr.specs.declared.block.Block.{Block}
use Rattle.engine_cases.specs.Given.{no_kinds}
use Rattle.engine_cases.proofs.shared.blocks_of.Goals as goal

pub loop-line-preserved : goal.loop-line-preserved
loop-line-preserved c =
    let kinds = no_kinds in
    let tables = c.args.catalogue.now.tables in
    let b : Block = c.in-Some-2.block in
    let fits : IsFit kinds tables b = subst (λ (o : Option Block). IfSome o (IsFit kinds tables)) c.in-Some-2.is c.in_ok-block.ensures.fits in
    subst (All (IsFit kinds tables)) (sym c.in_ok-push-in-Some-2.ensures.items) (All-push (IsFit kinds tables) c.loop-line.blocks.items b c.loop-line.invariant fits)
