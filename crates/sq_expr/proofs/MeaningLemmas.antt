-- The truth of a condition, case by case.
use Rattle.std.proofs.Common.{◌≡◌, ℕ, Bool, List, [], ◌∷◌, refl, ap, ◌∙◌}
use Rattle.std.specs.Prelude.{◌&&◌, map, is_none}
use Rattle.std.specs.List.{list_all}
use Rattle.sq_value.specs.Comparison.{truth_of_order, two_valued}
use Rattle.sq_value.specs.Rank.{order_between}
use Rattle.sq_value.specs.Truth.{conjoined, negated, is_truth}
use Rattle.sq_value.specs.declared.value.Value.{Value}
use Rattle.sq_value.specs.declared.value.Truth.{Truth}
use Rattle.sq_value.specs.declared.value.Truth.TheVariants.{False, Unknown, True}
use Rattle.sq_value.specs.declared.value.Cmp.{Cmp}
use Rattle.sq_expr.specs.Meaning.{truth_of, truth_at_level, side_rank, arg_value, least, greatest}
use Rattle.sq_expr.specs.declared.cond.ColumnOf.{ColumnOf}
use Rattle.sq_expr.specs.declared.cond.Side.{Side}
use Rattle.sq_expr.specs.declared.cond.Arg.{Arg}
use Rattle.sq_expr.specs.declared.cond.Cond.{Cond, fold_out-Cond}
use Rattle.sq_expr.specs.declared.cond.Cond.TheVariants.{Compare}
use Rattle.sq_expr.specs.declared.cond.Cond.TheVariants as variants

-- a comparison compares what its sides stand for
pub truth_of-Compare : (gives : ℕ → Value → Value → Truth) (at : ColumnOf → Value) (x : Side) (how : Cmp) (y : Side)
    → truth_of gives at (Compare x how y) ≡ truth_of_order (order_between (side_rank at x) (side_rank at y)) how
unfolding truth_of
truth_of-Compare gives at x how y =
    rw (fold_out-Cond Truth (truth_at_level gives at) (Compare x how y), variants.outs-Compare x how y) refl

-- IS NULL asks whether its side is null, and a call is what the predicate gives
pub truth_of-IsNull : (gives : ℕ → Value → Value → Truth) (at : ColumnOf → Value) (x : Side)
    → truth_of gives at (variants.IsNull x) ≡ two_valued (is_none (side_rank at x))
unfolding truth_of
truth_of-IsNull gives at x = rw (fold_out-Cond Truth (truth_at_level gives at) (variants.IsNull x), variants.outs-IsNull x) refl

pub truth_of-Call : (gives : ℕ → Value → Value → Truth) (at : ColumnOf → Value) (number : ℕ) (x y : Arg)
    → truth_of gives at (variants.Call number x y) ≡ gives number (arg_value at x) (arg_value at y)
unfolding truth_of
truth_of-Call gives at number x y =
    rw (fold_out-Cond Truth (truth_at_level gives at) (variants.Call number x y), variants.outs-Call number x y) refl

-- a conjunction is the least of its parts, and a disjunction the greatest
pub truth_of-All : (gives : ℕ → Value → Value → Truth) (at : ColumnOf → Value) (parts : List Cond)
    → truth_of gives at (variants.All parts) ≡ least (map (truth_of gives at) parts)
unfolding truth_of
truth_of-All gives at parts =
    rw (fold_out-Cond Truth (truth_at_level gives at) (variants.All parts), variants.outs-All parts) refl

pub truth_of-Any : (gives : ℕ → Value → Value → Truth) (at : ColumnOf → Value) (parts : List Cond)
    → truth_of gives at (variants.Any parts) ≡ greatest (map (truth_of gives at) parts)
unfolding truth_of
truth_of-Any gives at parts =
    rw (fold_out-Cond Truth (truth_at_level gives at) (variants.Any parts), variants.outs-Any parts) refl

-- negation, and the question whether a truth is the named one
pub truth_of-Not : (gives : ℕ → Value → Value → Truth) (at : ColumnOf → Value) (part : Cond)
    → truth_of gives at (variants.Not part) ≡ negated (truth_of gives at part)
unfolding truth_of
truth_of-Not gives at part =
    rw (fold_out-Cond Truth (truth_at_level gives at) (variants.Not part), variants.outs-Not part) refl

pub truth_of-Is : (gives : ℕ → Value → Value → Truth) (at : ColumnOf → Value) (part : Cond) (named : Truth)
    → truth_of gives at (variants.Is part named) ≡ two_valued (is_truth (truth_of gives at part) named)
unfolding truth_of
truth_of-Is gives at part named =
    rw (fold_out-Cond Truth (truth_at_level gives at) (variants.Is part named), variants.outs-Is part named) refl

-- a conjunction is True where each of its parts is
pub is_truth-least : (ts : List Truth) → is_truth (least ts) True ≡ list_all (λ t. is_truth t True) ts
is_truth-least [] = refl
is_truth-least (t ∷ ts) = both t (least ts) ∙ ap (λ (b : Bool). is_truth t True && b) (is_truth-least ts)
  where
    both : (x y : Truth) → is_truth (conjoined x y) True ≡ (is_truth x True && is_truth y True)
    both False y = refl
    both Unknown False = refl
    both Unknown Unknown = refl
    both Unknown True = refl
    both True y = refl
