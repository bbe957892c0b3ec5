use Rattle.std.proofs.Common.{Result, Err, ap, sym, ◌∙◌}
use Rattle.remote_answers.specs.declared.halting.Halt.{Halt}
use Rattle.whole_run.specs.Ending.{end_of}
use Rattle.whole_run.specs.declared.run.End.TheVariants as end
use Rattle.whole_run.proofs.run.run_over.Goals as goal

pub returns-in-Ok-clause-over : goal.returns-in-Ok-clause-over
returns-in-Ok-clause-over g c =
    record { answer = c.put_over.result; answered = c.put_over.ensures.answered; is = c.end_with.ensures ∙ sym (ap end_of c.in-Ok.is) }

pub returns-in-Err-Refused-clause-over : goal.returns-in-Err-Refused-clause-over
returns-in-Err-Refused-clause-over g c = record {
  answer = c.put_over.result;
  answered = c.put_over.ensures.answered;
  is = ap end.By c.remote_status.ensures
      ∙ sym (ap end_of (c.in-Err-Refused.is ∙ ap (λ (h : Halt). let r : Result (Unit {0}) Halt = Err h in r) c.in-Err-Refused.field-0-is));
}

pub returns-in-Err-Stopped-clause-over : goal.returns-in-Err-Stopped-clause-over
returns-in-Err-Stopped-clause-over g c = record {
  answer = c.put_over.result;
  answered = c.put_over.ensures.answered;
  is = c.end_with-in-Err-Stopped.ensures
      ∙ sym (ap end_of (c.in-Err-Stopped.is ∙ ap (λ (h : Halt). let r : Result (Unit {0}) Halt = Err h in r) c.in-Err-Stopped.field-0-is));
}
