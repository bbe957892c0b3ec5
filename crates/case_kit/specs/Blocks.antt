-- Serves tests: blocks of statements.
use Rattle.std.specs.Prelude.{◌≡◌, ℕ, List, Some, slice_get}
use Rattle.sq_parse.specs.Spelling.{Spelled}
use Rattle.sq_parse.specs.declared.tree.Script.{Script}
use Rattle.sq_parse.specs.declared.tree.Statement.{Statement}
use Rattle.sq_expr.specs.declared.block.Block.{Block}
use Rattle.catalogue.specs.Named.{NamedTables}
use Rattle.sq_bind.specs.Answer.{IsBound}
use Rattle.sq_bind.specs.Condition.{Calls}
use Rattle.sq_bind.specs.Given.{AreAccesses, over}
use Rattle.case_kit.specs.Ways.{ways_in}

-- a statement is the first of the script that a text spells
pub record IsFirstOf (text : List ℕ) (s : Statement) : Type 0 where
  pub script : Script
  pub spelled : Spelled text script
  pub first : slice_get script.statements 0 ≡ Some s

-- a block is that of a text's first statement, over tables that are reached in these ways
pub record IsBlockOf (catalogue : NamedTables) (calls : Calls) (ways : List ℕ) (text : List ℕ) (block : Block)
    : Type 0 where
  pub statement : Statement
  pub first : IsFirstOf text statement
  pub reached : AreAccesses catalogue.tables (ways_in ways)
  pub bound : IsBound (over catalogue (ways_in ways) calls) statement block
