use Rattle.std.proofs.Common.{◌≡◌, ◌≢◌, length, arith, sym, ◌∙◌}
use Rattle.std.proofs.lemmas.Bool.Decides.{Decides-eqb, not_from_Decides}
use Rattle.result_sink.proofs.TextLemmas.{finished_blank, finished_shown}
use Rattle.result_sink.proofs.record.finish_record.Goals as goal

pub returns-then-is_empty : goal.returns-then-is_empty
returns-then-is_empty c = λ fields e.
    let none : c.args.line.now.len ≡ 0 = (Decides-eqb c.args.line.now.len 0).0 (sym c.is_empty.ensures ∙ c.if-is_empty.true) in
    let size : length c.args.line.now.items ≡ 0 = omega (arith, c.args.line.now.ok) in
    finished_blank c.args.line.now.items _ fields size c.in_ok-extend_from_slice.ensures.items e

pub returns : goal.returns
returns c = λ fields e.
    let some = not_from_Decides _ (Decides-eqb c.args.line.now.len 0) (sym c.is_empty.ensures ∙ c.if-is_empty.false) in
    let shown : length c.args.line.now.items ≢ 0 = λ none. some (omega (arith, c.args.line.now.ok)) in
    finished_shown c.args.line.now.items _ fields shown c.in_ok-push.ensures.items e
