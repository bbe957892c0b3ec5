-- Which sides of a comparison are plain: they stand for one value or one column, and not for a computed one.
use Rattle.std.specs.Prelude.{Bool, true, false, List, [], ◌∷◌, is_none}
use Rattle.sq_expr.specs.declared.cond.Term.{Term}
use Rattle.sq_expr.specs.declared.cond.Side.{Side}
use Rattle.sq_expr.specs.declared.cond.Side.TheVariants as side

-- a sum of one term without a column
abbrev pub is_constant : List Term → Bool
is_constant [] = false
is_constant (t ∷ []) = is_none t.column
is_constant (t ∷ (u ∷ more)) = false

-- NULL, a text, a column, or a sum of one term without a column
abbrev pub is_plain : Side → Bool
is_plain side.Null = true
is_plain (side.Text t) = true
is_plain (side.Column c) = true
is_plain (side.Sum terms) = is_constant terms
