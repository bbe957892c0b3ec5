-- The status that a fault of a script, of a table's file, of a statement or of its remotes' keys ends a run with.
use Rattle.std.specs.Prelude.{◌≡◌, ◌≢◌, ℕ, ⊤}
use Rattle.sq_parse.specs.declared.parser.ParseFault.{ParseFault}
use Rattle.sq_parse.specs.declared.parser.ParseFault.TheVariants as parse
use Rattle.table_csv.specs.declared.fault.TableFault.{TableFault}
use Rattle.table_csv.specs.declared.fault.TableFault.TheVariants as table
use Rattle.sq_bind.specs.declared.fault.BindFault.{BindFault}
use Rattle.sq_bind.specs.declared.fault.BindFault.TheVariants as bind
use Rattle.remote_lookup.specs.declared.remote.KeyFault.{KeyFault}
use Rattle.remote_lookup.specs.declared.remote.KeyFault.TheVariants as key
use Rattle.remote_lookup.specs.declared.remote.RemoteFault.{RemoteFault}
use Rattle.remote_lookup.specs.declared.remote.RemoteFault.TheVariants as remote
use Rattle.run_plan.specs.declared.status.FileOf.TheVariants as file
use Rattle.run_plan.specs.declared.status.Status.{Status}
use Rattle.run_plan.specs.declared.status.Status.TheVariants as status
use Rattle.run_plan.specs.declared.status.LimitOf.TheVariants as limit

-- the sorts of faults: those that pass a limit, want of memory, and all others
pub data Sort : Type 0 where
  Plain : Sort
  PastLimit : Sort
  NoMemory : Sort

abbrev pub parse_sort : ParseFault → Sort
parse_sort (parse.TooDeep at) = PastLimit
parse_sort (parse.TooManyStatements at) = PastLimit
parse_sort parse.Memory = NoMemory
parse_sort _ = Plain

abbrev pub table_sort : TableFault → Sort
table_sort table.TooManyColumns = PastLimit
table_sort table.TooManyRows = PastLimit
table_sort table.Memory = NoMemory
table_sort _ = Plain

abbrev pub bind_sort : BindFault → Sort
bind_sort (bind.TooManyAliases at) = PastLimit
bind_sort (bind.TooManyConjuncts at) = PastLimit
bind_sort (bind.TooManyTerms at) = PastLimit
bind_sort bind.Memory = NoMemory
bind_sort (bind.UnknownTable at) = Plain
bind_sort (bind.RepeatedAlias at) = Plain
bind_sort (bind.UnknownAlias at) = Plain
bind_sort (bind.UnknownColumn at) = Plain
bind_sort (bind.AmbiguousColumn at) = Plain
bind_sort (bind.TypeMismatch at) = Plain
bind_sort (bind.UnknownFunction at) = Plain
bind_sort (bind.WrongArguments at) = Plain
bind_sort (bind.NotGrouped at) = Plain
bind_sort (bind.NotSelected at) = Plain
bind_sort (bind.Unreachable alias) = Plain

-- the status of a fault of a sort: one that names it, one that names its limit, or want of memory
abbrev pub by_sort : Sort → Status → Status → Status
by_sort Plain named limited = named
by_sort PastLimit named limited = limited
by_sort NoMemory named limited = status.Memory

abbrev pub script_status : ParseFault → Status
script_status f = by_sort (parse_sort f) (status.Script f) (status.Limit (limit.Parse f))

-- tables count from 0
abbrev pub table_status : ℕ → TableFault → Status
table_status number f = by_sort (table_sort f) (status.BadTable number f) (status.Limit (limit.Table number f))

-- statements count from 1
abbrev pub bind_status : ℕ → BindFault → Status
bind_status statement f = by_sort (bind_sort f) (status.Bind statement f) (status.Limit (limit.Bind statement f))

-- the status of a refusal of a statement's keys
abbrev pub remote_status : RemoteFault → Status
remote_status (remote.Read at) = status.Read (file.Key at)
remote_status (remote.TooLong at) = status.Limit (limit.File (file.Key at))
remote_status (remote.BadFile at why) = status.BadKey at why
remote_status (remote.TooManyKeys number) = status.Limit (limit.Keys number)
remote_status (remote.TooManyRows number) = status.Limit (limit.Rows number)
remote_status remote.Memory = status.Memory

-- the fault of a key's file is no want of memory
abbrev pub IsKeyFault : KeyFault → Type 0
IsKeyFault (key.Table f) = f ≢ table.Memory
IsKeyFault key.Columns = ⊤
IsKeyFault (key.OtherKey rec) = ⊤

-- a status holds no fault that is want of memory, and one that passes a limit stands in Limit alone, but for those of a
-- key's file
abbrev pub IsPlaced : Status → Type 0
IsPlaced (status.Script f) = parse_sort f ≡ Plain
IsPlaced (status.BadTable number f) = table_sort f ≡ Plain
IsPlaced (status.BadKey at why) = IsKeyFault why
IsPlaced (status.Bind statement f) = bind_sort f ≡ Plain
IsPlaced (status.Limit (limit.Parse f)) = parse_sort f ≡ PastLimit
IsPlaced (status.Limit (limit.Table number f)) = table_sort f ≡ PastLimit
IsPlaced (status.Limit (limit.Bind statement f)) = bind_sort f ≡ PastLimit
IsPlaced _ = ⊤
