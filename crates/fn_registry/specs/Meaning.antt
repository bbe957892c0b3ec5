-- Meanings of registered predicates, told apart by a number: a program of one's own adds its own here.
use Rattle.std.specs.Prelude.{ℕ, ◌==◌, if◌then◌else◌}
use Rattle.sq_value.specs.declared.value.Value.{Value}
use Rattle.sq_value.specs.declared.value.Truth.{Truth}
use Rattle.sq_value.specs.declared.value.Truth.TheVariants.{Unknown}
use Rattle.fn_registry.specs.Shipped.{shipped_gives}

-- the truth that the predicate of a number gives of two values, by a meaning: 0 is that of the shipped predicates
unfoldable pub gives_of : ℕ → ℕ → Value → Value → Truth
gives_of meaning number x y = if meaning == 0 then shipped_gives number x y else Unknown
