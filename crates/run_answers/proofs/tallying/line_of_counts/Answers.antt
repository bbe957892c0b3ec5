use Rattle.std.proofs.Common.{◌≡◌, refl, ◌∙◌, append_assoc, length, rules}
use Rattle.std.proofs.lemmas.Result.{IfOk-weaker}
use Rattle.run_answers.specs.Tally.{line_of_counts}
use Rattle.run_answers.proofs.tallying.line_of_counts.Goals as goal

pub returns : goal.returns
unfolding line_of_counts
returns c =
    let log : c.as_slice-log.result.now ≡ c.args.cached.now.answered.built.items = search rules in
    let looked : c.len-looked.result ≡ length c.args.cached.now.answered.looked.items = search rules in
    IfOk-weaker c.format.result _ _ (λ s h. h ∙ simp (append_assoc, c.in_ok-built.ensures, c.in_ok-hits.ensures, c.hits_told.ensures, log, looked) refl) c.format.ensures.ok
