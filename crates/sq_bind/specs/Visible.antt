-- The aliases that a part of a statement sees, and what a column's name means there.
use Rattle.std.specs.Prelude.{ℕ, ◌+◌, if◌then◌else◌, List, [], ◌∷◌, ◌++◌, Option, Some, None, Result, Ok, Err}
use Rattle.std.specs.List.{flat_map, find}
use Rattle.sq_value.specs.Name.{is_same_name}
use Rattle.sq_value.specs.declared.table.Column.{Column}
use Rattle.sq_parse.specs.Tree.{column_place}
use Rattle.sq_parse.specs.declared.tree.Name.{Name}
use Rattle.sq_parse.specs.declared.tree.ColRef.{ColRef}
use Rattle.sq_bind.specs.declared.visible.Resolved.{Resolved}
use Rattle.sq_bind.specs.declared.fault.BindFault.{BindFault}
use Rattle.sq_bind.specs.declared.fault.BindFault.TheVariants.{UnknownAlias, UnknownColumn, AmbiguousColumn}

-- an alias: its number, its name, and the columns of its table
pub record Alias : Type 0 where
  pub number : ℕ
  pub name : List ℕ
  pub columns : List Column

-- a column of an alias, and its type
abbrev pub meaning : ℕ → ℕ → Column → Resolved
meaning alias column c = record { column = record { alias = alias; column = column }; kind = c.kind }

-- a column of an alias, where it has a name
abbrev pub named_at : ℕ → ℕ → List ℕ → Column → List Resolved
named_at alias column name c = if is_same_name c.name name then meaning alias column c ∷ [] else []

-- those of some columns of an alias that have a name, where the columns count from a number on
unfoldable pub named_from : ℕ → ℕ → List ℕ → List Column → List Resolved
named_from alias first name [] = []
named_from alias first name (c ∷ cs) = named_at alias first name c ++ named_from alias (first + 1) name cs

-- the columns of an alias that have a name
abbrev pub named : List ℕ → Alias → List Resolved
named name a = named_from a.number 0 name a.columns

-- the alias that has a name, where there is one
abbrev pub called : List ℕ → List Alias → Option Alias
called name aliases = find (λ (a : Alias). is_same_name a.name name) aliases

-- the only one of some columns; a column that isn't there, or of which there are more, is a fault
abbrev pub only : ℕ → List Resolved → Result Resolved BindFault
only at [] = Err (UnknownColumn at)
only at (m ∷ []) = Ok m
only at (m ∷ (other ∷ more)) = Err (AmbiguousColumn at)

-- what a column's name means in the alias that was called, where there is one
abbrev pub meant_in : ℕ → List ℕ → Option Alias → Result Resolved BindFault
meant_in at name None = Err (UnknownAlias at)
meant_in at name (Some a) = only at (named name a)

-- what a column's name means, with an alias in front of it or without
abbrev pub meant_by : List Alias → ℕ → Option Name → List ℕ → Result Resolved BindFault
meant_by aliases at None name = only at (flat_map (named name) aliases)
meant_by aliases at (Some alias) name = meant_in at name (called alias.text aliases)

-- what a column means to those who see these aliases: exactly one column of them, or the fault at its first token
unfoldable pub meant : List Alias → ColRef → Result Resolved BindFault
meant aliases c = meant_by aliases (column_place c) c.alias c.column.text
