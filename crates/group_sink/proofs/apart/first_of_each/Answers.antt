use Rattle.group_sink.proofs.FirstLemmas.{kept_step}
use Rattle.group_sink.proofs.apart.first_of_each.Goals as goal

pub loop-place-preserved : goal.loop-place-preserved
loop-place-preserved c =
    kept_step c.loop-place.kept.items c.keep_new.new.kept.items c.args.numbers.now c.args.groups.now c.loop-place.place _ _
    c.loop-place-test.true c.requires c.in_ok-keep_new.ensures c.loop-place.invariant
