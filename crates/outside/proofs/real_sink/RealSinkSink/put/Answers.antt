use Rattle.std.proofs.Common.{subst}
use Rattle.std.specs.Prelude.{OnOk, OnErr}
use Rattle.std.specs.Io.KnownBytes.{Appends}
use Rattle.outside.specs.Real.{RealState}
use Rattle.outside.specs.Streams.{TakesPrefix}
use Rattle.outside.proofs.real_sink.RealSinkSink.put.Goals as goal

-- the sink is seen as what its stream holds
pub returns-clause-whole : goal.returns-clause-whole
returns-clause-whole g c =
    subst (λ (s : RealState). OnOk c.put_whole.result (Appends s.contents (g.W.Write.contents c.put_whole.new.stream) c.args.piece.now))
    c.self.view_is c.put_whole.ensures.whole

pub returns-clause-taken : goal.returns-clause-taken
returns-clause-taken g c =
    subst (λ (s : RealState). OnErr c.put_whole.result (TakesPrefix c.args.piece.now s.contents (g.W.Write.contents c.put_whole.new.stream)))
    c.self.view_is c.put_whole.ensures.prefix
