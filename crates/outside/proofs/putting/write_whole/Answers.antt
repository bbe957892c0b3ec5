use Rattle.std.proofs.Common.{subst, rules}
use Rattle.std.specs.Io.KnownBytes.{Appends}
use Rattle.std.proofs.lemmas.List.{take_all}
use Rattle.std.proofs.lemmas.Result.{err_from_is_err_and}
use Rattle.outside.proofs.StreamLemmas.{Appends-more, TakesPrefix-stopped}
use Rattle.outside.proofs.putting.write_whole.Goals as goal

pub loop-start-preserved : goal.loop-start-preserved
loop-start-preserved g c =
    let before = c.loop-start.invariant in
    record {
      inside = search rules;
      taken = Appends-more _ _ _ c.args.piece.now c.loop-start.start c.in_ok-start.field-0 before.taken c.in_ok-start.ensures.taken;
      kept = search rules;
    }

pub returns-in_err-start-clause-prefix : goal.returns-in_err-start-clause-prefix
returns-in_err-start-clause-prefix g c =
    let p = err_from_is_err_and c.from_residual.result c.from_residual.ensures.1 in
    rw p.1
    (TakesPrefix-stopped _ _ _ c.args.piece.now c.loop-start.start c.loop-start.invariant.taken c.in_err-start.ensures.untaken)

-- the loop has come to the end of the piece
pub returns-clause-whole : goal.returns-clause-whole
returns-clause-whole g c =
    subst (Appends (g.W.Write.contents c.args.stream.now) (g.W.Write.contents c.loop-start.stream))
    (take_all c.loop-start.start c.args.piece.now c.loop-start-test.false) c.loop-start.invariant.taken
