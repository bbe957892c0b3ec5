use Rattle.std.proofs.Common.{◌≡◌, length, map, ap, sym, ◌∙◌}
use Rattle.std.proofs.lemmas.List.{length-map}
use Rattle.sq_bind.specs.Reached.{is_scanned, spread}
use Rattle.sq_bind.proofs.ReachLemmas.{no_round, next_round, written_back, length-spread}
use Rattle.sq_bind.proofs.reach.reached.Goals as goal

pub loop-round-init : goal.loop-round-init
loop-round-init c = record {
  length_kept = ap length c.in_ok-marks.ensures ∙ length-map c.args.uses.now is_scanned;
  so_far = c.in_ok-marks.ensures ∙ sym (no_round c.args.uses.now c.args.conjuncts.now _);
}

pub loop-round-preserved : goal.loop-round-preserved
loop-round-preserved c =
    let uses = c.args.uses.now in
    let cs = c.args.conjuncts.now in
    let old = c.loop-round.marks.items in
    let new = c.mark_all.new.marks in
    let spreads = c.mark_all.ensures ∙ ap (spread uses cs) c.as_mut_slice.ensures.value in
    let kept : length new ≡ length old = ap length spreads ∙ length-spread uses cs cs old in
    let back = written_back c.loop-round.marks.len new old (sym c.as_mut_slice.ensures.len ∙ ap length c.as_mut_slice.ensures.value) kept in
    record {
      length_kept = ap length back ∙ kept ∙ c.loop-round.invariant.length_kept;
      so_far = back ∙ spreads ∙ ap (spread uses cs) c.loop-round.invariant.so_far ∙ sym (next_round uses cs c.loop-round._round (map is_scanned uses));
    }
