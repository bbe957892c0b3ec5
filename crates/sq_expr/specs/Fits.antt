-- When a condition or a block fits tables and predicates: a property of types and column numbers, which binding
-- ensures.
-- And when the rows that a condition is evaluated over are there.
use Rattle.std.specs.Prelude.{◌≡◌, ℕ, ◌<◌, ◌≤◌, ◌⊎◌, ◌↔◌, List, [], ◌∷◌, ◌++◌, length, map, Option, Some, None, IsSome, IfSome, IsSomeAnd, All, Contains, IsBitSet, ℤ, true, ⊤, slice_get, slice_index, option_and_then, unsigned_abs}
use Rattle.std.specs.List.{flat_map, concat}
use Rattle.std.specs.Option.{option_map, option_to_list}
use Rattle.sq_value.specs.declared.value.ColType.{ColType}
use Rattle.sq_value.specs.declared.value.ColType.TheVariants.{Integer, Text, Decimal}
use Rattle.sq_value.specs.declared.predicate.Kinds.{Kinds}
use Rattle.sq_value.specs.Relation.{Relation, HasKind}
use Rattle.sq_expr.specs.declared.cond.ColumnOf.{ColumnOf}
use Rattle.sq_expr.specs.declared.cond.Term.{Term}
use Rattle.sq_expr.specs.declared.cond.Side.{Side}
use Rattle.sq_expr.specs.declared.cond.Side.TheVariants as side
use Rattle.sq_expr.specs.declared.cond.Arg.{Arg}
use Rattle.sq_expr.specs.declared.cond.Arg.TheVariants as arg
use Rattle.sq_expr.specs.declared.cond.Cond.{Cond, Cond-F, fold-Cond, every-Cond}
use Rattle.sq_expr.specs.declared.cond.Cond.TheOpen as level
use Rattle.sq_expr.specs.declared.block.AliasUse.{AliasUse}
use Rattle.sq_expr.specs.declared.block.Conjunct.{Conjunct}
use Rattle.sq_expr.specs.declared.block.OutCol.{OutCol}
use Rattle.sq_expr.specs.declared.block.OrderKey.{OrderKey}
use Rattle.sq_expr.specs.declared.block.Block.{Block}

-- the type of a column of a table, where there is one
abbrev pub column_kind : List Relation → ℕ → ℕ → Option ColType
column_kind tables table column =
    option_map (λ c. c.kind) (option_and_then (λ t. slice_get t.columns column) (slice_get tables table))

-- the type of a column of an alias, where each alias uses a table
abbrev pub kind_in : List Relation → List ℕ → ColumnOf → Option ColType
kind_in tables uses c = option_and_then (λ table. column_kind tables table c.column) (slice_get uses c.alias)

-- numbers and texts: what may be compared with what
pub data Class : Type 0 where
  Numbers : Class
  Texts : Class

-- the class of a type
abbrev pub class_of : ColType → Class
class_of Integer = Numbers
class_of Text = Texts
class_of (Decimal scale) = Numbers

-- In the next five, `has c kind` says that the column c has the type. A column is of a class
abbrev pub HasClass : (ColumnOf → ColType → Type 0) → Class → ColumnOf → Type 0
HasClass has class c = (kind : ColType) × (has c kind × (class_of kind ≡ class))

-- a literal of a sum has at most 63 bits beside its sign, and the factor of a column, which is a number, at most 31
abbrev pub FitsTerm : (ColumnOf → ColType → Type 0) → ℤ → Option ColumnOf → Type 0
FitsTerm has factor None = unsigned_abs factor ≤ 9223372036854775807
FitsTerm has factor (Some c) = (unsigned_abs factor ≤ 2147483647) × HasClass has Numbers c

-- a side of a comparison is of a class; NULL is of each
abbrev pub FitsSide : (ColumnOf → ColType → Type 0) → Class → Side → Type 0
FitsSide has class side.Null = ⊤
FitsSide has class (side.Text t) = class ≡ Texts
FitsSide has class (side.Column c) = HasClass has class c
FitsSide has class (side.Sum terms) =
    (class ≡ Numbers) × (0 < length terms) × (length terms ≤ 8)
    × All (λ (t : Term). FitsTerm has t.factor t.column) terms

-- an argument of a predicate is null or of a type
abbrev pub FitsArg : (ColumnOf → ColType → Type 0) → ColType → Arg → Type 0
FitsArg has kind (arg.Literal v) = HasKind kind v
FitsArg has kind (arg.Column c) = has c kind

-- one level of a condition fits: compared sides are of one class; a predicate is there and gets arguments of its types
abbrev pub FitsHere : (ℕ → Option Kinds) → (ColumnOf → ColType → Type 0) → Cond-F Cond → Type 0
FitsHere kinds has (level.Compare x cmp y) = (class : Class) × (FitsSide has class x × FitsSide has class y)
FitsHere kinds has (level.IsNull x) = (class : Class) × FitsSide has class x
FitsHere kinds has (level.Call number x y) =
    IsSomeAnd (kinds number) (λ k. FitsArg has k.first x × FitsArg has k.second y)
FitsHere kinds has (level.Not part) = ⊤
FitsHere kinds has (level.All parts) = ⊤
FitsHere kinds has (level.Any parts) = ⊤
FitsHere kinds has (level.Is part named) = ⊤

-- a condition fits the predicates' types and the tables that the aliases use: each of its levels does
abbrev pub FitsCond : (ℕ → Option Kinds) → List Relation → List ℕ → Cond → Type 0
FitsCond kinds tables uses cond = every-Cond (FitsHere kinds (λ c kind. kind_in tables uses c ≡ Some kind)) cond

-- the alias of a term's column, if it has one
abbrev pub term_aliases : Option ColumnOf → List ℕ
term_aliases column = option_to_list (option_map (λ c. c.alias) column)

-- the aliases that occur in a side of a comparison
abbrev pub side_aliases : Side → List ℕ
side_aliases side.Null = []
side_aliases (side.Text t) = []
side_aliases (side.Column c) = c.alias ∷ []
side_aliases (side.Sum terms) = flat_map (λ (t : Term). term_aliases t.column) terms

-- the aliases that occur in an argument of a predicate
abbrev pub arg_aliases : Arg → List ℕ
arg_aliases (arg.Literal v) = []
arg_aliases (arg.Column c) = c.alias ∷ []

-- one level of a condition, whose parts stand as the aliases that occur in them
abbrev pub aliases_at_level : Cond-F (List ℕ) → List ℕ
aliases_at_level (level.Compare x cmp y) = side_aliases x ++ side_aliases y
aliases_at_level (level.IsNull x) = side_aliases x
aliases_at_level (level.Call number x y) = arg_aliases x ++ arg_aliases y
aliases_at_level (level.Not part) = part
aliases_at_level (level.All parts) = concat parts
aliases_at_level (level.Any parts) = concat parts
aliases_at_level (level.Is part named) = part

-- the aliases that occur in a condition
unfoldable pub aliases_of : Cond → List ℕ
aliases_of = fold-Cond (List ℕ) aliases_at_level

-- an alias has a row: it uses one of the tables, and its row is one of the table's
pub record HasRow (tables : List Relation) (uses rows : List ℕ) (alias : ℕ) : Type 0 where
  pub table : Relation
  pub is : slice_get tables (slice_index uses alias) ≡ Some table
  pub row : slice_index rows alias < length table.rows

-- each alias that occurs in a condition is one of the set, and has a row
pub record Covers (tables : List Relation) (uses rows : List ℕ) (span : ℕ) (cond : Cond) : Type 0 where
  pub within : (alias : ℕ) → Contains (aliases_of cond) alias → IsBitSet span alias
  pub chosen : (alias : ℕ) → Contains (aliases_of cond) alias → HasRow tables uses rows alias

-- the table of each alias
abbrev pub tables_used : Block → List ℕ
tables_used block = map (λ (u : AliasUse). u.table) block.aliases

-- an alias of a block: its table is there, and it has a scan, or a look-up by a column of the table
pub record FitsAlias (tables : List Relation) (u : AliasUse) : Type 0 where
  pub table : u.table < length tables
  pub reached : (u.access.scan ≡ true) ⊎ IsSome u.access.look_up
  pub look_up : IfSome u.access.look_up (λ column. IsSome (column_kind tables u.table column))

-- a conjunct of a block: its condition fits, and its span is the set of the aliases that occur
pub record FitsConjunct (kinds : ℕ → Option Kinds) (tables : List Relation) (uses : List ℕ) (c : Conjunct)
    : Type 0 where
  pub cond : FitsCond kinds tables uses c.cond
  pub span : (alias : ℕ) → (IsBitSet c.span alias ↔ Contains (aliases_of c.cond) alias)

-- a block fits the predicates' types and tables
pub record IsFit (kinds : ℕ → Option Kinds) (tables : List Relation) (block : Block) : Type 0 where
  pub some_alias : 0 < length block.aliases
  pub few_aliases : length block.aliases ≤ 12
  pub aliases : All (FitsAlias tables) block.aliases
  pub few_conjuncts : length block.conjuncts ≤ 48
  pub conjuncts : All (FitsConjunct kinds tables (tables_used block)) block.conjuncts
  pub some_output : 0 < length block.output
  pub output : All
      (λ (o : OutCol). IsSome (kind_in tables (tables_used block) record { alias = o.alias; column = o.column }))
      block.output
  pub order : All
      (λ (k : OrderKey). IsSome (kind_in tables (tables_used block) record { alias = k.alias; column = k.column }))
      block.order
