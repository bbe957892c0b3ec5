use Rattle.std.proofs.Common.{◌≡◌, map, take}
use Rattle.case_kit.specs.Ways.{way_of}
use Rattle.case_kit.proofs.ways.ways_of_words.Given as goal

abbrev pub invariant-loop-word : goal.invariant-loop-word
invariant-loop-word l = l.ways.items ≡ map (λ word. way_of word.now) (take l.word-index l.word-items)
