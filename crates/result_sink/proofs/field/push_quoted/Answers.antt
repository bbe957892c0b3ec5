use Rattle.std.proofs.Common.{refl}
use Rattle.std.proofs.lemmas.List.{append-nil}
use Rattle.result_sink.proofs.TextLemmas.{escaped_none, escaped_step}
use Rattle.result_sink.proofs.field.push_quoted.Goals as goal

pub loop-byte-init : goal.loop-byte-init
loop-byte-init c = rw (escaped_none, append-nil) refl

pub loop-byte-preserved : goal.loop-byte-preserved
loop-byte-preserved c = escaped_step _ _ _ _ _ _ c.loop-byte-test.true c.loop-byte.invariant c.in_ok-push_escaped.ensures
