use Rattle.std.proofs.Common.{◌≡◌, length, arith}
use Rattle.sq_expr.proofs.ReadyLemmas.{IsReady-fits}
use Rattle.sq_expr.proofs.cond.Cond.truth.Goals as goal

pub evaluate-requires : goal.evaluate-requires
evaluate-requires g c =
    let many : length c.args.rows.now.uses ≡ 12 = omega arith in
    IsReady-fits _ _ _ _ _ _ many c.requires.fits c.requires.covered
