use Rattle.std.proofs.Common.{◌≡◌, ◌<◌, drop, length}
use Rattle.std.specs.Prelude.{All}
use Rattle.eddy_meaning.specs.declared.entry.Entry.{Entry}
use Rattle.board_hands.specs.Logged.{logged}
use Rattle.board_hands.proofs.logged.place_all.Given as goal

abbrev pub invariant-loop-entry : goal.invariant-loop-entry
invariant-loop-entry l = record {
  rest : logged l.alias (drop l.entry-index l.entries) l.built ≡ logged l.alias l.entries l.fn.built;
  within : All (λ (e : Entry). e.stamp < length l.built) l.entries;
}
