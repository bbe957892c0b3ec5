-- A column that a name means has its type.
use Rattle.std.proofs.Common.{◌≡◌, ℕ, ◌+◌, Bool, true, false, List, [], ◌∷◌, ◌++◌, Option, Some, None, Ok, refl, subst, if◌then◌else◌}
use Rattle.std.specs.Prelude.{⊤}
use Rattle.std.specs.List.{flat_map, AllByRecursion as Each}
use Rattle.sq_value.specs.Name.{is_same_name}
use Rattle.sq_value.specs.declared.table.Column.{Column}
use Rattle.sq_value.specs.declared.value.ColType.{ColType}
use Rattle.sq_expr.specs.declared.cond.ColumnOf.{ColumnOf}
use Rattle.sq_parse.specs.declared.tree.ColRef.{ColRef}
use Rattle.sq_parse.specs.declared.tree.Name.{Name}
use Rattle.sq_parse.specs.Tree.{column_place}
use Rattle.sq_bind.specs.Visible.{Alias, meaning, named_at, named_from, named, called, only, meant_in, meant_by, meant}
use Rattle.sq_bind.specs.declared.visible.Resolved.{Resolved}

pub each_append : {X : Type 0} (P : X → Type 0) (xs ys : List X) → Each P xs → Each P ys → Each P (xs ++ ys)
each_append P [] ys h k = k
each_append P (x ∷ xs) ys h k = (h.0, each_append P xs ys h.1 k)

pub each_flat : {X Y : Type 0} (P : Y → Type 0) (f : X → List Y) (xs : List X) → Each (λ x. Each P (f x)) xs → Each P (flat_map f xs)
each_flat P f [] h = tt
each_flat P f (x ∷ xs) h = each_append P (f x) (flat_map f xs) h.0 (each_flat P f xs h.1)

module _ (has : ColumnOf → ColType → Type 0) where
  abbrev pub at_column : ℕ → ℕ → ColumnOf
  at_column alias column = record { alias = alias; column = column }

  -- each column of an alias has its type, where they count from a number on
  abbrev pub ColumnsHave : ℕ → ℕ → List Column → Type 0
  ColumnsHave alias first [] = ⊤
  ColumnsHave alias first (c ∷ cs) = has (at_column alias first) c.kind × ColumnsHave alias (first + 1) cs

  abbrev pub AliasHas : Alias → Type 0
  AliasHas a = ColumnsHave a.number 0 a.columns

  abbrev Meant : Resolved → Type 0
  Meant m = has m.column m.kind

  at_meant : (alias first : ℕ) (name : List ℕ) (c : Column) → has (at_column alias first) c.kind → Each Meant (named_at alias first name c)
  at_meant alias first name c h = by (is_same_name c.name name)
    where
      by : (b : Bool) → Each Meant (if b then meaning alias first c ∷ [] else [])
      by true = (h, tt)
      by false = tt

  from_meant : (alias first : ℕ) (name : List ℕ) (cs : List Column) → ColumnsHave alias first cs → Each Meant (named_from alias first name cs)
  unfolding named_from
  from_meant alias first name [] h = tt
  from_meant alias first name (c ∷ cs) h =
      each_append Meant (named_at alias first name c) (named_from alias (first + 1) name cs) (at_meant alias first name c h.0)
      (from_meant alias (first + 1) name cs h.1)

  all_meant : (name : List ℕ) (aliases : List Alias) → Each AliasHas aliases → Each Meant (flat_map (named name) aliases)
  all_meant name [] h = tt
  all_meant name (a ∷ aliases) h =
      each_append Meant (named name a) (flat_map (named name) aliases) (from_meant a.number 0 name a.columns h.0) (all_meant name aliases h.1)

  only_meant : (at : ℕ) (ms : List Resolved) (m : Resolved) → Each Meant ms → only at ms ≡ Ok m → Meant m
  only_meant at [] m h e = absurd cc
  only_meant at (n ∷ []) m h e = let same : n ≡ m = cc in subst Meant same h.0
  only_meant at (n ∷ (o ∷ more)) m h e = absurd cc

  -- the alias that was called is one of them
  pub called_held : (P : Alias → Type 0) (name : List ℕ) (aliases : List Alias) (a : Alias) → Each P aliases → called name aliases ≡ Some a → P a
  called_held P name [] a h e = absurd cc
  called_held P name (b ∷ aliases) a h e = by (is_same_name b.name name) (called_held P name aliases a h.1) e
    where
      by : (t : Bool) → (called name aliases ≡ Some a → P a) → (if t then Some b else called name aliases) ≡ Some a → P a
      by true rest e = let same : b ≡ a = cc in subst P same h.0
      by false rest e = rest e

  in_meant : (at : ℕ) (name : List ℕ) (o : Option Alias) (m : Resolved) → ((a : Alias) → o ≡ Some a → AliasHas a) → meant_in at name o ≡ Ok m → Meant m
  in_meant at name None m h e = absurd cc
  in_meant at name (Some a) m h e = only_meant at (named name a) m (from_meant a.number 0 name a.columns (h a refl)) e

  by_meant : (aliases : List Alias) (at : ℕ) (o : Option Name) (name : List ℕ) (m : Resolved) → Each AliasHas aliases → meant_by aliases at o name ≡ Ok m → Meant m
  by_meant aliases at None name m h e = only_meant at (flat_map (named name) aliases) m (all_meant name aliases h) e
  by_meant aliases at (Some alias) name m h e =
      in_meant at name (called alias.text aliases) m (λ a is. called_held AliasHas alias.text aliases a h is) e

  pub meant_has : (aliases : List Alias) → Each AliasHas aliases → (c : ColRef) (m : Resolved) → meant aliases c ≡ Ok m → has m.column m.kind
  unfolding meant
  meant_has aliases h c m e = by_meant aliases (column_place c) c.alias c.column.text m h e
