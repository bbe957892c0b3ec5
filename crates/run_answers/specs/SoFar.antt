-- How far answers came: which statements are finished, by what was written of their text.
use Rattle.std.specs.Prelude.{◌≡◌, ◌≢◌, ℕ, ◌+◌, List, [], ◌++◌, take, Option}
use Rattle.outside.specs.Faults.{RoseOrFull}
use Rattle.outside.specs.Told.{Adds}
use Rattle.run_base.specs.Seen.{Sink}

-- a text begins with another
abbrev pub IsFront : List ℕ → List ℕ → Type 0
IsFront front text = (rest : List ℕ) × (text ≡ front ++ rest)

-- a sink took the whole text of finished statements, and of those that are left a front of the next one's; where its
-- count of faults didn't rise, that one's text isn't whole
pub record TookSoFar {A S : Type 0} (text : List A → List ℕ) (finished left : List A) (before now : Sink S)
    : Type 0 where
  pub added : List ℕ
  pub adds : Adds before.written now.written added
  pub whole : finished ≢ [] → IsFront (text finished) added
  pub front : IsFront added (text (finished ++ take 1 left))
  pub short : ¬ (RoseOrFull before.faults now.faults) → left ≢ [] → added ≢ text (finished ++ take 1 left)

-- a sink took a text, and a front of a second one
abbrev pub AddsFrontBehind : Option (List ℕ) → Option (List ℕ) → List ℕ → List ℕ → Type 0
AddsFrontBehind before now first second =
    (front : List ℕ) × (rest : List ℕ) × (second ≡ front ++ rest) × Adds before now (first ++ front)
