use Rattle.std.proofs.Common.{◌≡◌, ℕ, suc, ◌-◌, ◌<◌, None, length, get_or, map, ap, sym, ◌∙◌, arith}
use Rattle.std.proofs.lemmas.List.{length-map, get_or_default}
use Rattle.sq_value.specs.declared.value.Value.{Value}
use Rattle.sq_value.specs.declared.value.Value.TheVariants as value
use Rattle.group_sink.specs.Picks.{seen, picked_of}
use Rattle.group_sink.proofs.PickLemmas.{pick_step, mapped_at}
use Rattle.group_sink.proofs.picks.take_picks.Goals as goal

pub loop-place-preserved : goal.loop-place-preserved
loop-place-preserved c =
    let gs = c.args.group_of.now in
    let values = c.args.values.now in
    let which = c.args.pick in
    let n = c.loop-place.place in
    let k = n - 1 in
    let best = c.loop-place.best in
    let h = c.loop-place.invariant in
    let next : n ≡ suc k = omega (arith, c.loop-place-test.true) in
    let low : k < length gs = omega (arith, next, h.within) in
    let same : length gs ≡ length (map seen values) = c.requires.both ∙ sym (length-map values seen) in
    let g : ℕ = get_or gs k 0 in
    let within : g < length best = omega (arith, c.requires.within k 0 low, h.long) in
    let old : Value = seen (get_or best g None) in
    let is : seen c.pick_one.result ≡ picked_of which (get_or (map seen values) k value.Null) old =
    c.pick_one.ensures
    ∙ ap (λ v. picked_of which (seen v) (seen c.index-best-group.result)) (c.index-values-place.is ∙ get_or_default values k c.index-values-place.result None (omega (arith, low, c.requires.both)))
    ∙ ap (λ v. picked_of which (seen (get_or values k None)) (seen v)) (c.index-best-group.is ∙ get_or_default best g c.index-best-group.result None within)
    ∙ ap (λ (v : Value). picked_of which v old) (sym (mapped_at values k (omega (arith, low, c.requires.both)))) in
    pick_step which (length c.args.best.now) gs (map seen values) n k best c.pick_one.result next h same within is
