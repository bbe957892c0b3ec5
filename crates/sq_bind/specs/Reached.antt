-- Serves proofs: the set of the aliases that are reached, as a list of marks, made in rounds.
use Rattle.std.specs.Prelude.{ℕ, zero, suc, Bool, true, false, ◌&&◌, ◌==◌, not, if◌then◌else◌, List, [], ◌∷◌, map, length, position, Option, Some, None, slice_get, slice_set, slice_index_or}
use Rattle.std.specs.List.{list_any}
use Rattle.std.specs.Option.{option_map_or}
use Rattle.sq_value.specs.declared.value.Cmp.{Cmp}
use Rattle.sq_value.specs.declared.value.Cmp.TheVariants as cmp
use Rattle.sq_expr.specs.Plain.{is_constant}
use Rattle.sq_expr.specs.declared.cond.ColumnOf.{ColumnOf}
use Rattle.sq_expr.specs.declared.cond.Side.{Side}
use Rattle.sq_expr.specs.declared.cond.Side.TheVariants as side
use Rattle.sq_expr.specs.declared.cond.Cond.{Cond, Cond-F, out-Cond}
use Rattle.sq_expr.specs.declared.cond.Cond.TheOpen as level
use Rattle.sq_expr.specs.declared.block.AliasUse.{AliasUse}
use Rattle.sq_expr.specs.declared.block.Conjunct.{Conjunct}
use Rattle.sq_expr.specs.declared.block.Block.{Block}

-- the set of marks
abbrev pub has : List Bool → ℕ → Bool
has marks alias = slice_index_or marks alias false

-- whether a side is a literal, or a column of another alias that is marked
abbrev pub gives : List Bool → ℕ → Side → Bool
gives marks alias side.Null = true
gives marks alias (side.Text t) = true
gives marks alias (side.Column c) = not (c.alias == alias) && has marks c.alias
gives marks alias (side.Sum terms) = is_constant terms

abbrev pub is_column : ℕ → Option ℕ → Bool
is_column column None = false
is_column column (Some c) = c == column

-- whether an alias is looked up by a column
abbrev pub looks_up : List AliasUse → ColumnOf → Bool
looks_up uses c = option_map_or (λ (u : AliasUse). is_column c.column u.access.look_up) (slice_get uses c.alias) false

-- whether an equality of a column with a side leads to the column's alias
abbrev pub leads : List AliasUse → List Bool → ColumnOf → Side → Bool
leads uses marks own other = looks_up uses own && gives marks own.alias other

-- with a mark at a column's alias, where a side leads to it
abbrev pub with_column : List AliasUse → ColumnOf → Side → List Bool → List Bool
with_column uses own other marks = if leads uses marks own other then slice_set marks own.alias true else marks

-- with a mark at the alias of one side, where the other leads to it
abbrev pub with_own : List AliasUse → Side → Side → List Bool → List Bool
with_own uses side.Null other marks = marks
with_own uses (side.Text t) other marks = marks
with_own uses (side.Column own) other marks = with_column uses own other marks
with_own uses (side.Sum terms) other marks = marks

abbrev pub with_either : List AliasUse → Side → Side → List Bool → List Bool
with_either uses x y marks = with_own uses y x (with_own uses x y marks)

abbrev pub with_compared : List AliasUse → Side → Cmp → Side → List Bool → List Bool
with_compared uses x cmp.Eq y marks = with_either uses x y marks
with_compared uses x cmp.Ne y marks = marks
with_compared uses x cmp.Lt y marks = marks
with_compared uses x cmp.Le y marks = marks
with_compared uses x cmp.Gt y marks = marks
with_compared uses x cmp.Ge y marks = marks

abbrev pub with_level : List AliasUse → Cond-F Cond → List Bool → List Bool
with_level uses (level.Compare x how y) marks = with_compared uses x how y marks
with_level uses (level.IsNull x) marks = marks
with_level uses (level.Call number x y) marks = marks
with_level uses (level.Not part) marks = marks
with_level uses (level.All parts) marks = marks
with_level uses (level.Any parts) marks = marks
with_level uses (level.Is part named) marks = marks

-- with the marks that a conjunct leads to
unfoldable pub with_cond : List AliasUse → Cond → List Bool → List Bool
with_cond uses cond marks = with_level uses (out-Cond cond) marks

-- a round: with the marks that one conjunct after another leads to
unfoldable pub spread : List AliasUse → List Conjunct → List Bool → List Bool
spread uses [] marks = marks
spread uses (c ∷ cs) marks = spread uses cs (with_cond uses c.cond marks)

-- some rounds
unfoldable pub rounds : List AliasUse → List Conjunct → ℕ → List Bool → List Bool
rounds uses conjuncts zero marks = marks
rounds uses conjuncts (suc n) marks = spread uses conjuncts (rounds uses conjuncts n marks)

abbrev pub is_scanned : AliasUse → Bool
is_scanned u = u.access.scan

-- the aliases that are reached from those that are scanned, in as many rounds as there are aliases
abbrev pub reached : List AliasUse → List Conjunct → List Bool
reached uses conjuncts = rounds uses conjuncts (length uses) (map is_scanned uses)

-- the first alias without a mark; where no alias is scanned, the first alias
unfoldable pub first_unreached : Block → Option ℕ
first_unreached block =
    if list_any is_scanned block.aliases then position not (reached block.aliases block.conjuncts) else Some 0
