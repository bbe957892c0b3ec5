-- Columns of a name are told one after another.
use Rattle.std.proofs.Common.{◌≡◌, ℕ, ◌+◌, ◌<◌, ◌≤◌, List, [], ◌∷◌, ◌++◌, length, drop, get_or, map, refl, ap, sym, ◌∙◌}
use Rattle.std.proofs.Math.ListN.{drop_of_length-le}
use Rattle.std.specs.List.{flat_map}
use Rattle.sq_value.specs.declared.table.Column.{Column}
use Rattle.sq_bind.specs.Visible.{named, named_at, named_from}
use Rattle.sq_bind.specs.Seen.{seen, tally, both}
use Rattle.sq_bind.specs.declared.visible.SeenAlias.{SeenAlias}
use Rattle.sq_bind.specs.declared.visible.Resolved.{Resolved}
use Rattle.sq_bind.specs.declared.visible.Found.{Found}
use Rattle.sq_bind.specs.declared.visible.Found.TheVariants.{None, One, More}
use Rattle.sq_bind.proofs.Walk.{walk}

pub both-assoc : (x y z : Found) → both (both x y) z ≡ both x (both y z)
both-assoc None y z = refl
both-assoc (One m) None z = refl
both-assoc (One m) (One n) None = refl
both-assoc (One m) (One n) (One o) = refl
both-assoc (One m) (One n) More = refl
both-assoc (One m) More z = refl
both-assoc More y z = refl

pub both_none : (x : Found) → both x None ≡ x
both_none None = refl
both_none (One m) = refl
both_none More = refl

pub tally-append : (xs ys : List Resolved) → tally (xs ++ ys) ≡ both (tally xs) (tally ys)
tally-append [] ys = refl
tally-append (x ∷ []) [] = refl
tally-append (x ∷ []) (y ∷ []) = refl
tally-append (x ∷ []) (y ∷ (z ∷ ys)) = refl
tally-append (x ∷ (y ∷ xs)) ys = refl

-- the next column of an alias
pub next_column : (alias : ℕ) (name : List ℕ) (cs : List Column) (i : ℕ) (d : Column) (found : Found) (whole : Found) → i < length cs
    → both found (tally (named_from alias i name (drop i cs))) ≡ whole
    → both (both found (tally (named_at alias i name (get_or cs i d)))) (tally (named_from alias (i + 1) name (drop (i + 1) cs))) ≡ whole
unfolding named_from
next_column alias name cs i d found whole =
    walk both both-assoc (λ k xs. tally (named_from alias k name xs)) (λ k c. tally (named_at alias k name c))
    (λ k c xs. tally-append (named_at alias k name c) (named_from alias (k + 1) name xs)) cs i d found whole

-- the next alias
pub next_alias : (name : List ℕ) (xs : List SeenAlias) (i : ℕ) (d : SeenAlias) (found : Found) (whole : Found) → i < length xs
    → both found (tally (flat_map (named name) (map seen (drop i xs)))) ≡ whole
    → both (both found (tally (named name (seen (get_or xs i d))))) (tally (flat_map (named name) (map seen (drop (i + 1) xs)))) ≡ whole
next_alias name xs i d found whole =
    walk both both-assoc (λ k ys. tally (flat_map (named name) (map seen ys))) (λ k a. tally (named name (seen a)))
    (λ k a ys. tally-append (named name (seen a)) (flat_map (named name) (map seen ys))) xs i d found whole

-- behind the last column there is none
pub no_column : (alias : ℕ) (name : List ℕ) (cs : List Column) (i : ℕ) (found : Found) (whole : Found) → length cs ≤ i
    → both found (tally (named_from alias i name (drop i cs))) ≡ whole → found ≡ whole
unfolding named_from
no_column alias name cs i found whole past before =
    sym (both_none found) ∙ ap (λ (xs : List Column). both found (tally (named_from alias i name xs))) (sym (drop_of_length-le cs past)) ∙ before
