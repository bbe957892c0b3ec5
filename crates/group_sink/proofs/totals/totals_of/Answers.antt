use Rattle.std.proofs.Common.{ap, sym, ◌∙◌}
use Rattle.std.specs.Prelude.{map}
use Rattle.std.proofs.lemmas.Simd.{map-map}
use Rattle.group_sink.specs.Parts.{value_over}
use Rattle.group_sink.specs.Sums.{sum_at}
use Rattle.group_sink.specs.Totals.{addend_of}
use Rattle.group_sink.proofs.PickedLemmas.{sum_at-picked}
use Rattle.group_sink.proofs.Results.{on_ok}
use Rattle.group_sink.proofs.totals.totals_of.Goals as goal

pub returns : goal.returns
returns c =
    let u = addend_of c.args.what in
    let at = value_over c.args.block.now c.args.tables.now c.args.column in
    on_ok c.sums_of.result
    (λ totals h. λ group below.
    h.each group below
    ∙ ap (sum_at group c.args.numbers.now) (c.as_slice.ensures.value ∙ c.in_ok-units.ensures ∙ sym (map-map u at c.args.members.now))
    ∙ sum_at-picked u group c.args.numbers.now (map at c.args.members.now))
    c.sums_of.ensures
