use Rattle.run_answers.proofs.PutLemmas.{put_behind, put_front}
use Rattle.run_answers.proofs.together.put_text.Goals as goal

pub returns-in-Ok : goal.returns-in-Ok
returns-in-Ok g c = put_behind _ _ _ _ _ c.put_lead.result c.write_text.result c.in-Ok.is c.put_lead.ensures c.write_text.ensures

pub returns-in-Err : goal.returns-in-Err
returns-in-Err g c = put_front _ _ _ _ c.put_lead.result c.in-Err.stop c.in-Err.is c.put_lead.ensures
