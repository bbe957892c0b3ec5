-- What a sink tells that it took, before and after a call.
use Rattle.std.specs.Prelude.{◌≡◌, ℕ, List, ◌++◌, Option, None, Some, ⊤}

-- what a sink tells after a text was added: it may stop telling, and never begins to
abbrev pub Adds : Option (List ℕ) → Option (List ℕ) → List ℕ → Type 0
Adds None None text = ⊤
Adds None (Some now) text = ⊥
Adds (Some before) None text = ⊤
Adds (Some before) (Some now) text = now ≡ before ++ text

-- the same with a front of the text
abbrev pub AddsFront : Option (List ℕ) → Option (List ℕ) → List ℕ → Type 0
AddsFront before now text = (front : List ℕ) × (rest : List ℕ) × (text ≡ front ++ rest) × Adds before now front
