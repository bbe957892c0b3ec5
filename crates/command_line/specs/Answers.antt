-- Serves proofs: what a step answers that reads a part of the words.
use Rattle.std.specs.Prelude.{◌≡◌, ℕ, Bool, List, ◌++◌, Option, Some, None, Result, MatchResult}
use Rattle.command_line.specs.Steps.{◌>>=◌}
use Rattle.command_line.specs.Accesses.{accesses_of_items, if_differ}
use Rattle.command_line.specs.declared.command.TableWord.{TableWord}
use Rattle.command_line.specs.declared.command.AccessWord.{AccessWord}
use Rattle.command_line.specs.declared.fault.WordsFault.{WordsFault}
use Rattle.command_line.specs.declared.fault.WordsFault.TheVariants.{OutOfForm}

-- a step answers this, if it is something, and else that the words are out of form; or it wants memory
abbrev pub Reads : {A : Type 0} → Option A → Result A WordsFault → Type 0
Reads expected answer = MatchResult answer (λ x. expected ≡ Some x) (λ e. e ≡ OutOfForm → expected ≡ None)

-- the accesses so far, and those of the items that are left, if no table has two
unfoldable pub with_items : List TableWord → Bool → List AccessWord → List (List ℕ) → Option (List AccessWord)
with_items tables scan seen items = do
  more ← accesses_of_items tables scan items
  if_differ (seen ++ more)
