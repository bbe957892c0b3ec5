use Rattle.std.proofs.Common.{arith, ap, Err}
use Rattle.run_plan.proofs.FilesLemmas.{went_loaded, stopped_long, stopped_load}
use Rattle.run_plan.proofs.loading.load.Goals as goal

pub returns-then-len-gt-MOST_BYTES-clause-stopped : goal.returns-then-len-gt-MOST_BYTES-clause-stopped
returns-then-len-gt-MOST_BYTES-clause-stopped g c =
    stopped_long c.args.file c.args.name.now c.in-Ok.bytes.items _ _ c.requires c.in-Ok.ensures.keeps c.in-Ok.ensures.kept c.in-Ok.ensures.gives
    (omega (arith, c.if-len-gt-MOST_BYTES.true))

pub returns-else-len-gt-MOST_BYTES-clause-went : goal.returns-else-len-gt-MOST_BYTES-clause-went
returns-else-len-gt-MOST_BYTES-clause-went g c =
    went_loaded c.args.file c.args.name.now c.in-Ok.bytes.items _ _ c.in-Ok.ensures.keeps c.in-Ok.ensures.kept c.in-Ok.ensures.gives
    (omega (arith, c.if-len-gt-MOST_BYTES.false))

pub returns-in-Err-clause-stopped : goal.returns-in-Err-clause-stopped
returns-in-Err-clause-stopped g c =
    rw c.load_status.ensures
    (stopped_load c.args.file c.args.name.now c.in-Err.fault _ _ c.requires c.in-Err.ensures.keeps c.in-Err.ensures.counts (λ e. c.in-Err.ensures.absent (ap Err e))
    (λ e. c.in-Err.ensures.absent_kept (ap Err e)) (λ e. c.in-Err.ensures.failed (ap Err e)))
