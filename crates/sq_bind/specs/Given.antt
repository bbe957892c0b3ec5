-- What binding is given: a statement of a script, the tables and how each is reached, and the predicates.
use Rattle.std.specs.Prelude.{◌≡◌, ℕ, List, length, Some, slice_get, Contains}
use Rattle.sq_value.specs.Relation.{Relation}
use Rattle.sq_parse.specs.Form.{Text}
use Rattle.sq_parse.specs.Spelling.{Spelled}
use Rattle.sq_parse.specs.declared.tree.Script.{Script}
use Rattle.sq_parse.specs.declared.tree.Statement.{Statement}
use Rattle.sq_expr.specs.Fits.{FitsAlias}
use Rattle.sq_expr.specs.declared.block.Access.{Access}
use Rattle.catalogue.specs.Named.{NamedTables, place_of_table}
use Rattle.sq_bind.specs.Condition.{Calls}
use Rattle.sq_bind.specs.Statement.{Scope}

-- a statement of a script that some text spells
pub record IsParsed (s : Statement) : Type 0 where
  pub text : Text
  pub script : Script
  pub spelled : Spelled text script
  pub among : Contains script.statements s

-- each table has one access: a scan, or a look-up by a column that it has
pub record AreAccesses (tables : List Relation) (accesses : List Access) : Type 0 where
  pub one_each : length accesses ≡ length tables
  pub fits : (table : ℕ) (access : Access)
      → slice_get accesses table ≡ Some access → FitsAlias tables record { table = table; access = access }

-- a catalogue, an access for each of its tables, and predicates
abbrev pub over : NamedTables → List Access → Calls → Scope
over catalogue accesses calls = record {
  tables = catalogue.tables;
  table = place_of_table catalogue;
  accesses = accesses;
  calls = calls;
}
