-- Steps one behind another, each of which may give nothing.
use Rattle.std.specs.Prelude.{Option, Some, None}

-- go on with what a step gives
infixl 10 ◌>>=◌
abbrev pub ◌>>=◌ : {A B : Type 0} → Option A → (A → Option B) → Option B
None >>= more = None
Some x >>= more = more x
