-- Serves proofs: why a load refuses, and what one more table adds.
use Rattle.std.specs.Prelude.{◌≡◌, ℕ, Ok}
use Rattle.outside.specs.declared.fault.LoadFault.{LoadFault}
use Rattle.outside.specs.declared.fault.LoadFault.TheVariants as load
use Rattle.sq_value.specs.Relation.{Relation}
use Rattle.catalogue.specs.Named.{NamedTables, with_table}
use Rattle.command_line.specs.declared.command.TableWord.{TableWord}
use Rattle.command_line.specs.declared.command.RemoteWord.{RemoteWord}
use Rattle.run_plan.specs.Doing.{Went}
use Rattle.run_plan.specs.Given.{IsFileGiven, heading_name}
use Rattle.run_plan.specs.declared.opening.Heading.{Heading}
use Rattle.run_plan.specs.Headings.{IsHeadingOf, Opened, heading_read, with_remote}
use Rattle.run_plan.specs.Files.{table_read}
use Rattle.run_base.specs.Seen.{Folder}
use Rattle.run_plan.specs.Steps.{ComesTo}
use Rattle.run_plan.specs.declared.status.Status.{Status}
use Rattle.run_plan.specs.declared.status.Status.TheVariants as status
use Rattle.run_plan.specs.declared.status.FileOf.{FileOf}

-- the status of a load that failed
abbrev pub load_status : FileOf → LoadFault → Status
load_status file load.Absent = status.NotFound file
load_status file load.Failed = status.Read file
load_status file load.Memory = status.Memory

-- one more table, that of a word
pub record AddsTable (before after : Folder) (number : ℕ) (word : TableWord) (old new : NamedTables) : Type 0 where
  pub table : Relation
  pub added : new ≡ with_table old word.name table
  pub went : Went before after (IsFileGiven word.file) (λ found. ComesTo (table_read number found) (Ok table))

-- one more remote, that of a word
pub record AddsRemote (before after : Folder) (number : ℕ) (word : RemoteWord) (old new : Opened) : Type 0 where
  pub heading : Heading
  pub is : IsHeadingOf heading
  pub added : new ≡ with_remote old word heading
  pub went : Went before after (IsFileGiven (heading_name word.prefix))
      (λ found. ComesTo (heading_read number found word) (Ok heading))
