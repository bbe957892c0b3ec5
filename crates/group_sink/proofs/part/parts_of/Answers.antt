use Rattle.std.proofs.Common.{List, [], ◌∷◌, ◌++◌, get_or, sym, ap, ◌∙◌}
use Rattle.std.specs.Prelude.{map}
use Rattle.std.proofs.lemmas.List.{map-append}
use Rattle.group_sink.specs.Parts.{Pair, seen_part, rank_kept}
use Rattle.group_sink.specs.declared.part.Part.{Part}
use Rattle.group_sink.proofs.PairLists.{pairs_more}
use Rattle.group_sink.proofs.part.parts_of.Goals as goal

pub loop-place-preserved : goal.loop-place-preserved
loop-place-preserved c =
    let gs = c.args.numbers.now in
    let xs = c.args.keys.now in
    let k = c.loop-place.place in
    let old = c.loop-place.parts.items in
    let part : Part = record { group = get_or gs k 0; key = get_or xs k _ } in
    ap (map seen_part) c.in_ok-push.ensures.items
    ∙ map-append seen_part old (part ∷ [])
    ∙ ap (λ (l : List Pair). l ++ seen_part part ∷ []) c.loop-place.invariant
    ∙ sym (pairs_more rank_kept gs xs k _ c.loop-place-test.true c.requires)
