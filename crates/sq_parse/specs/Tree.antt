-- What the parts of the grammar stand for.
use Rattle.std.specs.Prelude.{ℕ, pos, Bool, false, List, [], ◌∷◌, Option, Some, None, is_some, option_map, unwrap_or, if◌then◌else◌}
use Rattle.sq_value.specs.declared.value.Cmp.{Cmp}
use Rattle.sq_value.specs.declared.value.Cmp.TheVariants as cmp
use Rattle.sq_value.specs.declared.value.SortWay.{SortWay}
use Rattle.sq_value.specs.declared.value.Truth.{Truth}
use Rattle.sq_value.specs.declared.value.Truth.TheVariants as truth
use Rattle.sq_token.specs.declared.mark.Mark.{Mark}
use Rattle.sq_token.specs.declared.mark.Mark.TheVariants as k
use Rattle.sq_parse.specs.declared.tree.Name.{Name}
use Rattle.sq_parse.specs.declared.tree.ColRef.{ColRef}
use Rattle.sq_parse.specs.declared.tree.Items.{Items}
use Rattle.sq_parse.specs.declared.tree.Item.{Item}
use Rattle.sq_parse.specs.declared.tree.Item.TheVariants as shown
use Rattle.sq_expr.specs.declared.shape.AggKind.{AggKind}
use Rattle.sq_expr.specs.declared.shape.AggKind.TheVariants as agg
use Rattle.sq_parse.specs.declared.tree.Source.{Source}
use Rattle.sq_parse.specs.declared.tree.OrderItem.{OrderItem}
use Rattle.sq_parse.specs.declared.tree.Statement.{Statement}
use Rattle.sq_parse.specs.declared.tree.RawTerm.{RawTerm}
use Rattle.sq_parse.specs.declared.tree.Operand.{Operand}
use Rattle.sq_parse.specs.declared.tree.Operand.TheVariants as o
use Rattle.sq_parse.specs.declared.tree.Tree.{Tree}
use Rattle.sq_parse.specs.declared.tree.Tree.TheVariants as t
use Rattle.sq_token.specs.Mark.{is}
use Rattle.sq_token.specs.Tok.{Tok}

-- ---- names and columns

abbrev pub name_of : Tok → Name
name_of t = record { text = t.text; at = t.at }

-- a name, and one behind a dot
abbrev pub column_of : Name → Option Name → ColRef
column_of first None = record { alias = None; column = first }
column_of first (Some second) = record { alias = Some first; column = second }

-- the place of a column's first token
abbrev pub column_place : ColRef → ℕ
column_place c = (unwrap_or c.alias c.column).at

-- ---- operands

abbrev pub number_term : Tok → Option ColRef → RawTerm
number_term n column = record { at = n.at; negative = false; number = Some (pos n.number); column = column }

abbrev pub column_term : ColRef → Option Tok → RawTerm
column_term c factor = record {
  at = column_place c;
  negative = false;
  number = option_map (λ n. pos n.number) factor;
  column = Some c;
}

-- a term behind a sign
abbrev pub signed : Tok → RawTerm → RawTerm
signed sign term = record term { negative = is k.Minus sign.mark }

-- a sum, which begins at its first sign where it has one
abbrev pub sum_of : Option Tok → RawTerm → List RawTerm → Operand
sum_of None first more = o.Sum first.at (first ∷ more)
sum_of (Some sign) first more = o.Sum sign.at (signed sign first ∷ more)

-- the place of an operand's first token
abbrev pub begin_of : Operand → ℕ
begin_of (o.Null at) = at
begin_of (o.Text at text) = at
begin_of (o.Sum at terms) = at

-- ---- conditions

abbrev pub comparison_by : Mark → Cmp
comparison_by k.NotEqual = cmp.Ne
comparison_by k.Less = cmp.Lt
comparison_by k.LessOrEqual = cmp.Le
comparison_by k.Greater = cmp.Gt
comparison_by k.GreaterOrEqual = cmp.Ge
comparison_by _ = cmp.Eq

abbrev pub truth_by : Mark → Truth
truth_by k.True = truth.True
truth_by k.False = truth.False
truth_by _ = truth.Unknown

abbrev pub tested : Tree → Option (Option Tok × Tok) → Tree
tested tree None = tree
tested tree (Some p) = t.Is tree (is_some p.0) (truth_by p.1.mark)

-- one part is that part, and more are one conjunction or disjunction
abbrev pub all_of : Tree → List Tree → Tree
all_of first [] = first
all_of first (second ∷ more) = t.All (first ∷ second ∷ more)

abbrev pub any_of : Tree → List Tree → Tree
any_of first [] = first
any_of first (second ∷ more) = t.Any (first ∷ second ∷ more)

-- ---- statements

abbrev pub source_of : Name → Option Name → Source
source_of table alias = record { table = table; alias = unwrap_or alias table; on = None }

abbrev pub joined_on : Source → Tree → Source
joined_on source tree = record source { on = Some tree }

-- nulls come last where the order rises and first where it falls, unless NULLS says otherwise
abbrev pub way_of : Bool → Option Bool → SortWay
way_of falls nulls_first = record { descending = falls; nulls_first = unwrap_or nulls_first falls }

-- the aggregate of values that a word names
abbrev pub reckoned_by : Mark → AggKind
reckoned_by m = if is k.Sum m then agg.Sum else (if is k.Min m then agg.Min else agg.Max)

-- an aggregate by its place, what it is of, and its name
abbrev pub agg_item : ℕ → AggKind → Option ColRef → Option Name → Item
agg_item at kind column name = shown.Agg at kind column name

abbrev pub statement_of : Bool → Items → List Source → Option Tree → List ColRef → List OrderItem → Option ℕ → Statement
statement_of distinct selected sources condition groups keys limit = record {
  distinct = distinct;
  items = selected;
  sources = sources;
  condition = condition;
  groups = groups;
  order = keys;
  limit = limit;
}
