use Rattle.std.proofs.Common.{refl, ◌∙◌, append_assoc}
use Rattle.bag_meaning.proofs.RangeLemmas.{flat_map-last}
use Rattle.run_answers.specs.Tally.{built_part}
use Rattle.run_answers.proofs.tallying.built_text.Goals as goal

pub loop-alias-preserved : goal.loop-alias-preserved
loop-alias-preserved c =
    c.in_ok-text.ensures.ok ∙ simp (append_assoc, c.comma_before-comma.ensures, c.built_of-count.ensures, c.loop-alias.invariant) refl ∙ flat_map-last (built_part c.args.log.now) c.loop-alias.alias
