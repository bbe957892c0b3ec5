use Rattle.std.proofs.Common.{◌≢◌, rules}
use Rattle.run_answers.proofs.PutLemmas.{put_alone, put_equal}
use Rattle.run_answers.proofs.TogetherLemmas.{lead_line}
use Rattle.run_answers.proofs.together.put_lead.Goals as goal

pub returns : goal.returns
returns g c =
    let more : c.args.at ≢ 0 = search rules in
    put_equal _ _ _ _ c.put_empty_line.result (lead_line c.args.at more)
    (put_alone _ _ _ c.put_empty_line.result c.put_empty_line.ensures.output c.put_empty_line.ensures.wrote)
