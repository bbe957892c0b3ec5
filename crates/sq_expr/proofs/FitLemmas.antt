-- What fits a condition fits its parts, and the other way round.
use Rattle.std.proofs.Common.{◌≡◌, ℕ, List, [], ◌∷◌, ◌++◌, map, refl, ap, subst, ◌∙◌, get_or}
use Rattle.std.specs.Prelude.{All}
use Rattle.std.specs.List.{concat}
use Rattle.std.proofs.lemmas.List.Elements.{All-map, All-head, All-tail}
use Rattle.sq_value.specs.declared.value.Truth.{Truth}
use Rattle.sq_value.specs.declared.value.Cmp.{Cmp}
use Rattle.sq_expr.specs.declared.cond.Side.{Side}
use Rattle.sq_expr.specs.declared.cond.Arg.{Arg}
use Rattle.sq_expr.specs.declared.cond.Cond.{Cond, Cond-F, map-Cond, fold_out-Cond, out-Cond, every-Cond, every_here-Cond, every_held-Cond, every_made-Cond}
use Rattle.sq_expr.specs.declared.cond.Cond.TheOpen as level
use Rattle.sq_expr.specs.declared.cond.Cond.TheVariants as variants
use Rattle.sq_expr.specs.Fits.{aliases_of, aliases_at_level, side_aliases, arg_aliases}

-- the aliases of a condition, case by case
pub aliases_of-Compare : (x : Side) (how : Cmp) (y : Side) → aliases_of (variants.Compare x how y) ≡ side_aliases x ++ side_aliases y
unfolding aliases_of
aliases_of-Compare x how y = rw (fold_out-Cond (List ℕ) aliases_at_level (variants.Compare x how y), variants.outs-Compare x how y) refl

pub aliases_of-IsNull : (x : Side) → aliases_of (variants.IsNull x) ≡ side_aliases x
unfolding aliases_of
aliases_of-IsNull x = rw (fold_out-Cond (List ℕ) aliases_at_level (variants.IsNull x), variants.outs-IsNull x) refl

pub aliases_of-Call : (number : ℕ) (x y : Arg) → aliases_of (variants.Call number x y) ≡ arg_aliases x ++ arg_aliases y
unfolding aliases_of
aliases_of-Call number x y = rw (fold_out-Cond (List ℕ) aliases_at_level (variants.Call number x y), variants.outs-Call number x y) refl

pub aliases_of-Not : (part : Cond) → aliases_of (variants.Not part) ≡ aliases_of part
unfolding aliases_of
aliases_of-Not part = rw (fold_out-Cond (List ℕ) aliases_at_level (variants.Not part), variants.outs-Not part) refl

pub aliases_of-All : (parts : List Cond) → aliases_of (variants.All parts) ≡ concat (map aliases_of parts)
unfolding aliases_of
aliases_of-All parts = rw (fold_out-Cond (List ℕ) aliases_at_level (variants.All parts), variants.outs-All parts) refl

pub aliases_of-Any : (parts : List Cond) → aliases_of (variants.Any parts) ≡ concat (map aliases_of parts)
unfolding aliases_of
aliases_of-Any parts = rw (fold_out-Cond (List ℕ) aliases_at_level (variants.Any parts), variants.outs-Any parts) refl

pub aliases_of-Is : (part : Cond) (named : Truth) → aliases_of (variants.Is part named) ≡ aliases_of part
unfolding aliases_of
aliases_of-Is part named = rw (fold_out-Cond (List ℕ) aliases_at_level (variants.Is part named), variants.outs-Is part named) refl

module _ (Q : Cond-F Cond → Type 0) where
  -- a level whose parts come with facts, as the level of the parts alone
  abbrev bare : Cond-F ((z : Cond) × every-Cond Q z) → Cond-F Cond
  bare = map-Cond ((z : Cond) × every-Cond Q z) Cond (λ e. e.0)

  each_held : (zs : List ((z : Cond) × every-Cond Q z)) → All (every-Cond Q) (map (λ e. e.0) zs)
  each_held zs = All-map (every-Cond Q) (λ e. e.0) zs (λ k d h. (get_or zs k d).1)

  held_not : (part : Cond) (y : Cond-F ((z : Cond) × every-Cond Q z)) → bare y ≡ level.Not part → every-Cond Q part
  held_not part (level.Compare x how w) e = absurd cc
  held_not part (level.IsNull x) e = absurd cc
  held_not part (level.Call n x w) e = absurd cc
  held_not part (level.Not z) e = let same : z.0 ≡ part = cc in subst (every-Cond Q) same z.1
  held_not part (level.All zs) e = absurd cc
  held_not part (level.Any zs) e = absurd cc
  held_not part (level.Is z t) e = absurd cc

  held_is : (part : Cond) (named : Truth) (y : Cond-F ((z : Cond) × every-Cond Q z)) → bare y ≡ level.Is part named → every-Cond Q part
  held_is part named (level.Compare x how w) e = absurd cc
  held_is part named (level.IsNull x) e = absurd cc
  held_is part named (level.Call n x w) e = absurd cc
  held_is part named (level.Not z) e = absurd cc
  held_is part named (level.All zs) e = absurd cc
  held_is part named (level.Any zs) e = absurd cc
  held_is part named (level.Is z t) e = let same : z.0 ≡ part = cc in subst (every-Cond Q) same z.1

  held_all : (parts : List Cond) (y : Cond-F ((z : Cond) × every-Cond Q z)) → bare y ≡ level.All parts → All (every-Cond Q) parts
  held_all parts (level.Compare x how w) e = absurd cc
  held_all parts (level.IsNull x) e = absurd cc
  held_all parts (level.Call n x w) e = absurd cc
  held_all parts (level.Not z) e = absurd cc
  held_all parts (level.All zs) e = let same : map (λ e. e.0) zs ≡ parts = cc in subst (All (every-Cond Q)) same (each_held zs)
  held_all parts (level.Any zs) e = absurd cc
  held_all parts (level.Is z t) e = absurd cc

  held_any : (parts : List Cond) (y : Cond-F ((z : Cond) × every-Cond Q z)) → bare y ≡ level.Any parts → All (every-Cond Q) parts
  held_any parts (level.Compare x how w) e = absurd cc
  held_any parts (level.IsNull x) e = absurd cc
  held_any parts (level.Call n x w) e = absurd cc
  held_any parts (level.Not z) e = absurd cc
  held_any parts (level.All zs) e = absurd cc
  held_any parts (level.Any zs) e = let same : map (λ e. e.0) zs ≡ parts = cc in subst (All (every-Cond Q)) same (each_held zs)
  held_any parts (level.Is z t) e = absurd cc

  -- what holds of each level of a condition holds of each level of its parts
  pub every-Not : (c part : Cond) → c ≡ variants.Not part → every-Cond Q c → every-Cond Q part
  every-Not c part is h =
      let held = every_held-Cond Q c h in
      held_not part held.0 (held.1 ∙ ap out-Cond is ∙ variants.outs-Not part)

  pub every-Is : (c part : Cond) (named : Truth) → c ≡ variants.Is part named → every-Cond Q c → every-Cond Q part
  every-Is c part named is h =
      let held = every_held-Cond Q c h in
      held_is part named held.0 (held.1 ∙ ap out-Cond is ∙ variants.outs-Is part named)

  pub every-All : (c : Cond) (parts : List Cond) → c ≡ variants.All parts → every-Cond Q c → All (every-Cond Q) parts
  every-All c parts is h =
      let held = every_held-Cond Q c h in
      held_all parts held.0 (held.1 ∙ ap out-Cond is ∙ variants.outs-All parts)

  pub every-Any : (c : Cond) (parts : List Cond) → c ≡ variants.Any parts → every-Cond Q c → All (every-Cond Q) parts
  every-Any c parts is h =
      let held = every_held-Cond Q c h in
      held_any parts held.0 (held.1 ∙ ap out-Cond is ∙ variants.outs-Any parts)

  -- what holds of each level holds of the topmost one
  pub every-here : (c whole : Cond) (here : Cond-F Cond) → out-Cond whole ≡ here → c ≡ whole → every-Cond Q c → Q here
  every-here c whole here out is h = subst Q (ap out-Cond is ∙ out) (every_here-Cond Q c h)

  -- a condition whose topmost level has the fact, and whose parts have it throughout
  pub made-Compare : (x : Side) (how : Cmp) (y : Side) → Q (level.Compare x how y) → every-Cond Q (variants.Compare x how y)
  made-Compare x how y q =
      subst (every-Cond Q) (variants.rolls-Compare x how y) (every_made-Cond Q (level.Compare x how y) (level.Compare x how y) refl q)

  pub made-IsNull : (x : Side) → Q (level.IsNull x) → every-Cond Q (variants.IsNull x)
  made-IsNull x q = subst (every-Cond Q) (variants.rolls-IsNull x) (every_made-Cond Q (level.IsNull x) (level.IsNull x) refl q)

  pub made-Call : (number : ℕ) (x y : Arg) → Q (level.Call number x y) → every-Cond Q (variants.Call number x y)
  made-Call number x y q =
      subst (every-Cond Q) (variants.rolls-Call number x y) (every_made-Cond Q (level.Call number x y) (level.Call number x y) refl q)

  pub made-Not : (part : Cond) → every-Cond Q part → Q (level.Not part) → every-Cond Q (variants.Not part)
  made-Not part h q = subst (every-Cond Q) (variants.rolls-Not part) (every_made-Cond Q (level.Not part) (level.Not (part, h)) refl q)

  pub made-Is : (part : Cond) (named : Truth) → every-Cond Q part → Q (level.Is part named) → every-Cond Q (variants.Is part named)
  made-Is part named h q =
      subst (every-Cond Q) (variants.rolls-Is part named) (every_made-Cond Q (level.Is part named) (level.Is (part, h) named) refl q)

  with_facts : (parts : List Cond) → All (every-Cond Q) parts → (zs : List ((z : Cond) × every-Cond Q z)) × (map (λ e. e.0) zs ≡ parts)
  with_facts [] h = ([], refl)
  with_facts (part ∷ parts) h =
      let rest = with_facts parts (All-tail (every-Cond Q) part parts h) in
      ((part, All-head (every-Cond Q) part parts h) ∷ rest.0, ap (λ (cs : List Cond). part ∷ cs) rest.1)

  pub made-All : (parts : List Cond) → All (every-Cond Q) parts → Q (level.All parts) → every-Cond Q (variants.All parts)
  made-All parts h q =
      let zs = with_facts parts h in
      subst (every-Cond Q) (variants.rolls-All parts) (every_made-Cond Q (level.All parts) (level.All zs.0) (ap level.All zs.1) q)

  pub made-Any : (parts : List Cond) → All (every-Cond Q) parts → Q (level.Any parts) → every-Cond Q (variants.Any parts)
  made-Any parts h q =
      let zs = with_facts parts h in
      subst (every-Cond Q) (variants.rolls-Any parts) (every_made-Cond Q (level.Any parts) (level.Any zs.0) (ap level.Any zs.1) q)
