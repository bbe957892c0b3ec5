use Rattle.std.proofs.Common.{◌≡◌, take}
use Rattle.std.specs.Prelude.{map}
use Rattle.command_line.specs.Tables.{table_of_word}
use Rattle.command_line.proofs.tables.split_words.Given as goal

abbrev pub invariant-loop-word : goal.invariant-loop-word
invariant-loop-word l = l.tables.items ≡ map table_of_word (map (λ w. w.now) (take l.word-index l.words))
