-- Serves proofs: what the grammar says of a statement's lists and numbers, as far as its block fits by it.
use Rattle.std.specs.Prelude.{◌≡◌, ℕ, ◌<◌, ◌≤◌, length, Option, Some, None, IfSome, All, ℤ, pos, ⊤}
use Rattle.sq_parse.specs.declared.tree.ColRef.{ColRef}
use Rattle.sq_parse.specs.declared.tree.RawTerm.{RawTerm}
use Rattle.sq_parse.specs.declared.tree.Operand.{Operand}
use Rattle.sq_parse.specs.declared.tree.Operand.TheVariants as o
use Rattle.sq_parse.specs.declared.tree.Tree.{Tree, Tree-F, every-Tree}
use Rattle.sq_parse.specs.declared.tree.Tree.TheOpen as level
use Rattle.sq_parse.specs.declared.tree.Items.{Items}
use Rattle.sq_parse.specs.declared.tree.Items.TheVariants as items
use Rattle.sq_parse.specs.declared.tree.Source.{Source}
use Rattle.sq_parse.specs.declared.tree.Statement.{Statement}

-- a number that isn't negative, up to a limit
abbrev pub IsUpTo : ℕ → ℤ → Type 0
IsUpTo limit number = (n : ℕ) × ((number ≡ pos n) × (n ≤ limit))

-- a number alone has at most 63 bits, and one beside a column at most 31
abbrev pub IsSmall : Option ColRef → ℤ → Type 0
IsSmall None number = IsUpTo 9223372036854775807 number
IsSmall (Some c) number = IsUpTo 2147483647 number

abbrev pub IsSoundTerm : RawTerm → Type 0
IsSoundTerm t = IfSome t.number (IsSmall t.column)

-- a sum has terms
abbrev pub IsSoundOperand : Operand → Type 0
IsSoundOperand (o.Null at) = ⊤
IsSoundOperand (o.Text at text) = ⊤
IsSoundOperand (o.Sum at terms) = (0 < length terms) × All IsSoundTerm terms

-- the operands of one level of a condition; those of a call aside
abbrev pub IsSoundHere : Tree-F Tree → Type 0
IsSoundHere (level.Compare at left how right) = IsSoundOperand left × IsSoundOperand right
IsSoundHere (level.Between at negated x low high) = IsSoundOperand x × (IsSoundOperand low × IsSoundOperand high)
IsSoundHere (level.Within at negated x items) = IsSoundOperand x × All IsSoundOperand items
IsSoundHere (level.IsNull at negated x) = IsSoundOperand x
IsSoundHere (level.Call function args) = ⊤
IsSoundHere (level.Not part) = ⊤
IsSoundHere (level.All parts) = ⊤
IsSoundHere (level.Any parts) = ⊤
IsSoundHere (level.Is part negated truth) = ⊤

abbrev pub IsSoundTree : Tree → Type 0
IsSoundTree tree = every-Tree IsSoundHere tree

-- a select list isn't empty
abbrev pub IsSoundList : Items → Type 0
IsSoundList items.Star = ⊤
IsSoundList (items.List list) = 0 < length list

pub record IsSound (s : Statement) : Type 0 where
  pub items : IsSoundList s.items
  pub some_source : 0 < length s.sources
  pub joins : All (λ (source : Source). IfSome source.on IsSoundTree) s.sources
  pub condition : IfSome s.condition IsSoundTree
