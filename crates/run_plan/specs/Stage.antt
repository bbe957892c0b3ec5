-- What a run was at when it ended: the stage of each status, which tells its exit status; and its phase.
use Rattle.std.specs.Prelude.{ℕ, Option, Some, None}
use Rattle.run_plan.specs.declared.status.LimitOf.{LimitOf}
use Rattle.run_plan.specs.declared.status.LimitOf.TheVariants as limit
use Rattle.run_plan.specs.declared.status.FileOf.TheVariants as file
use Rattle.run_plan.specs.declared.status.FileOf.{FileOf}
use Rattle.run_plan.specs.declared.status.Stage.{Stage}
use Rattle.run_plan.specs.declared.status.Stage.TheVariants as stage
use Rattle.run_plan.specs.declared.status.Status.{Status}
use Rattle.run_plan.specs.declared.status.Status.TheVariants.{Done, Usage, Script, Bind, BadTable, BadHeading, BadKey, NoColumn, NotFound, Read, Write, Limit, Memory}

-- the stage of a status
abbrev pub stage_of : Status → Stage
stage_of Done = stage.Run
stage_of Usage = stage.Words
stage_of (Script fault) = stage.Script
stage_of (Bind statement fault) = stage.Script
stage_of (BadTable table fault) = stage.Tables
stage_of (BadHeading remote) = stage.Tables
stage_of (BadKey at why) = stage.Tables
stage_of (NoColumn access) = stage.Tables
stage_of (NotFound file) = stage.Files
stage_of (Read file) = stage.Files
stage_of Write = stage.Output
stage_of (Limit limit) = stage.Limits
stage_of Memory = stage.Memory

-- the file of a read fault
abbrev pub file_unread : Status → Option FileOf
file_unread (Read file) = Some file
file_unread _ = None

-- the exit status of a stage
abbrev pub code_of : Stage → ℕ
code_of stage.Run = 0
code_of stage.Words = 2
code_of stage.Script = 3
code_of stage.Tables = 4
code_of stage.Files = 5
code_of stage.Output = 6
code_of stage.Limits = 7
code_of stage.Memory = 9

-- when in a run a status comes: before anything is due to be written, at a statement that refuses behind those that are
-- answered, from the output on, or at any time
pub data Phase : Type 0 where
  Before : Phase
  AtStatement : Phase
  Writing : Phase
  AnyTime : Phase

-- the script, all tables and all headings are loaded before anything is written, and the keys of a statement before it
-- is run
abbrev pub phase_of_file : FileOf → Phase
phase_of_file file.Script = Before
phase_of_file (file.Table number) = Before
phase_of_file (file.Heading remote) = Before
phase_of_file (file.Key at) = AtStatement

abbrev pub phase_of_limit : LimitOf → Phase
phase_of_limit (limit.File file) = phase_of_file file
phase_of_limit (limit.Parse fault) = Before
phase_of_limit (limit.Table number fault) = Before
phase_of_limit (limit.Bind statement fault) = Before
phase_of_limit (limit.Keys remote) = AtStatement
phase_of_limit (limit.Rows remote) = AtStatement

-- the phase of a status, by its file and its limit
abbrev pub phase_of : Status → Phase
phase_of Done = Writing
phase_of Usage = Before
phase_of (Script fault) = Before
phase_of (Bind statement fault) = Before
phase_of (BadTable table fault) = Before
phase_of (BadHeading remote) = Before
phase_of (BadKey at why) = AtStatement
phase_of (NoColumn access) = Before
phase_of (NotFound file) = phase_of_file file
phase_of (Read file) = phase_of_file file
phase_of Write = Writing
phase_of (Limit limit) = phase_of_limit limit
phase_of Memory = AnyTime
