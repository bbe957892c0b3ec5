use Rattle.sq_value.proofs.OrderLemmas.{sorted_by_total}
use Rattle.bag_meaning.proofs.AnswerLemmas.{IsAnswer-answer, IsAnswer-only, answer-unordered}
use Rattle.bag_meaning.proofs.KeyLemmas.{answer_order_total}
use Rattle.bag_meaning.proofs.laws.answer_laws.Goals as goal

pub returns : goal.returns
returns c = record {
  is_answer = λ gives block tables. IsAnswer-answer gives block tables (answer_order_total sorted_by_total block tables);
  only = λ gives block tables rows h. IsAnswer-only gives block tables (answer_order_total sorted_by_total block tables) rows h;
  unordered = answer-unordered;
}
