use Rattle.std.proofs.Common.{◌∙◌, ap, arith, map, List, ℕ, Bor}
use Rattle.std.proofs.lemmas.List.{take_all}
use Rattle.case_kit.specs.Ways.{way_of}
use Rattle.case_kit.proofs.WordLaws.{map_twice}
use Rattle.case_kit.proofs.ways.ways_of_words.Goals as goal

pub returns : goal.returns
returns c =
    let past = c.loop-word-test.false in
    c.loop-word.invariant
    ∙ ap (map (λ (word : Bor (List ℕ)). way_of word.now)) (take_all c.loop-word.word-index c.deref-word-items.result.now (omega arith) ∙ c.deref-word-items.ensures.value)
    ∙ map_twice (λ (word : Bor (List ℕ)). word.now) way_of c.in_ok-words.words.items
    ∙ ap (map way_of) c.in_ok-words.ensures
