use Rattle.sq_parse.proofs.ParseLemmas.{answers_tree, answers_stop}
use Rattle.sq_parse.proofs.parser.parse_text.Goals as goal

pub returns-in-Ok : goal.returns-in-Ok
returns-in-Ok c = answers_tree c.args.text.now c.in-Ok.script c.script.new.tokens (rw c.new-tokens.ensures at c.in-Ok.ensures)

pub returns-in-Err : goal.returns-in-Err
returns-in-Err c =
    answers_stop c.args.text.now c.in-Err.stop c.script.new.tokens c.place_in.result c.fault_at.result
    (λ other. rw c.new-tokens.ensures at (c.in-Err.ensures other)) c.place_in.ensures c.fault_at.ensures
