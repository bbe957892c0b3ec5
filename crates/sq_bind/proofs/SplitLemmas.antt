-- What a tree binds to, case by case.
use Rattle.std.proofs.Common.{◌≡◌, ℕ, Bool, List, [], ◌∷◌, ◌++◌, map, refl, ap, sym, ◌∙◌}
use Rattle.std.specs.List.{flat_map}
use Rattle.sq_value.specs.declared.value.Cmp.{Cmp}
use Rattle.sq_value.specs.declared.value.Truth.{Truth}
use Rattle.sq_parse.specs.declared.tree.Name.{Name}
use Rattle.sq_parse.specs.declared.tree.Operand.{Operand}
use Rattle.sq_parse.specs.declared.tree.Tree.{Tree, fold_out-Tree}
use Rattle.sq_parse.specs.declared.tree.Tree.TheVariants as t
use Rattle.sq_expr.specs.declared.cond.Cond.{Cond}
use Rattle.sq_expr.specs.declared.cond.Cond.TheVariants as cond
use Rattle.sq_bind.specs.Visible.{Alias}
use Rattle.sq_bind.specs.Operand.{side_of}
use Rattle.sq_bind.specs.Condition.{Calls, Split, split_at_level, split_of, unsplit, between, negated_if, any_equal, at_least, at_most, equal_to, call_of, first_at, whole_in, conjuncts_in}
use Rattle.sq_bind.specs.declared.conjunct.Placed.{Placed}

abbrev pub placed_at : ℕ → Cond → Placed
placed_at at c = record { at = at; cond = c }

-- what isn't split is one conjunct
pub whole_only : (s : Split) (at : ℕ) (c : Cond) → s ≡ unsplit at c → s.conjuncts ≡ (placed_at s.at s.whole ∷ [])
whole_only s at c e = ap (λ (s : Split). s.conjuncts) e ∙ sym (ap (λ (s : Split). placed_at s.at s.whole ∷ []) e)

module _ (calls : Calls) (aliases : List Alias) where
  abbrev of : Tree → Split
  of = split_of calls aliases

  pub split_of-Compare : (at : ℕ) (x : Operand) (how : Cmp) (y : Operand)
      → of (t.Compare at x how y) ≡ unsplit at (cond.Compare (side_of aliases x) how (side_of aliases y))
  unfolding split_of
  split_of-Compare at x how y = rw (fold_out-Tree Split (split_at_level calls aliases) (t.Compare at x how y), t.outs-Compare at x how y) refl

  pub split_of-Between : (at : ℕ) (n : Bool) (x y z : Operand)
      → of (t.Between at n x y z) ≡ between at n (at_least aliases x y) (at_most aliases x z)
  unfolding split_of
  split_of-Between at n x y z = rw (fold_out-Tree Split (split_at_level calls aliases) (t.Between at n x y z), t.outs-Between at n x y z) refl

  pub split_of-Within : (at : ℕ) (n : Bool) (x : Operand) (xs : List Operand)
      → of (t.Within at n x xs) ≡ unsplit at (negated_if n (any_equal (map (equal_to aliases x) xs)))
  unfolding split_of
  split_of-Within at n x xs = rw (fold_out-Tree Split (split_at_level calls aliases) (t.Within at n x xs), t.outs-Within at n x xs) refl

  pub split_of-IsNull : (at : ℕ) (n : Bool) (x : Operand) → of (t.IsNull at n x) ≡ unsplit at (negated_if n (cond.IsNull (side_of aliases x)))
  unfolding split_of
  split_of-IsNull at n x = rw (fold_out-Tree Split (split_at_level calls aliases) (t.IsNull at n x), t.outs-IsNull at n x) refl

  pub split_of-Call : (f : Name) (xs : List Operand) → of (t.Call f xs) ≡ unsplit f.at (call_of aliases (calls.number f.text) xs)
  unfolding split_of
  split_of-Call f xs = rw (fold_out-Tree Split (split_at_level calls aliases) (t.Call f xs), t.outs-Call f xs) refl

  pub split_of-Not : (part : Tree) → of (t.Not part) ≡ unsplit (of part).at (cond.Not (of part).whole)
  unfolding split_of
  split_of-Not part = rw (fold_out-Tree Split (split_at_level calls aliases) (t.Not part), t.outs-Not part) refl

  pub split_of-All : (parts : List Tree) → of (t.All parts) ≡ record {
    at = first_at (map of parts);
    whole = cond.All (map (λ (s : Split). s.whole) (map of parts));
    conjuncts = flat_map (λ (s : Split). s.conjuncts) (map of parts);
  }
  unfolding split_of
  split_of-All parts = rw (fold_out-Tree Split (split_at_level calls aliases) (t.All parts), t.outs-All parts) refl

  pub split_of-Any : (parts : List Tree) → of (t.Any parts) ≡ unsplit (first_at (map of parts)) (cond.Any (map (λ (s : Split). s.whole) (map of parts)))
  unfolding split_of
  split_of-Any parts = rw (fold_out-Tree Split (split_at_level calls aliases) (t.Any parts), t.outs-Any parts) refl

  pub split_of-Is : (part : Tree) (n : Bool) (truth : Truth) → of (t.Is part n truth) ≡ unsplit (of part).at (negated_if n (cond.Is (of part).whole truth))
  unfolding split_of
  split_of-Is part n truth = rw (fold_out-Tree Split (split_at_level calls aliases) (t.Is part n truth), t.outs-Is part n truth) refl

  -- the whole conditions of some trees
  pub wholes : (parts : List Tree) → map (λ (s : Split). s.whole) (map of parts) ≡ map (whole_in calls aliases) parts
  wholes [] = refl
  wholes (p ∷ ps) = ap (λ (rest : List Cond). (of p).whole ∷ rest) (wholes ps)

  -- the conjuncts of some trees
  pub all_conjuncts : (parts : List Tree) → flat_map (λ (s : Split). s.conjuncts) (map of parts) ≡ flat_map (conjuncts_in calls aliases) parts
  all_conjuncts [] = refl
  all_conjuncts (p ∷ ps) = ap (λ (rest : List Placed). (of p).conjuncts ++ rest) (all_conjuncts ps)
