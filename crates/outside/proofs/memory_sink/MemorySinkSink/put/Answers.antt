use Rattle.std.proofs.Common.{take, drop, sym, ap}
use Rattle.std.proofs.lemmas.List.{take-append-drop}
use Rattle.outside.specs.Chosen.{SinkState, count_taken}
use Rattle.outside.proofs.memory_sink.MemorySinkSink.put.Goals as goal

pub returns-then-take_front-clause-front : goal.returns-then-take_front-clause-front
returns-then-take_front-clause-front c =
    let piece = c.args.piece.now in
    let n = count_taken c.args.self.now piece in
    (take n piece, drop n piece, sym (take-append-drop n piece), ap (λ (s : SinkState). s.written) c.take_front.ensures.after)
