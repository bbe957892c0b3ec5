-- The line that says on the notes why a run was refused.
use Rattle.std.specs.Prelude.{◌≡◌, ◌≢◌, ◌⊎◌, ℕ, ℤ, ◌+◌, List, [], ◌∷◌, ◌++◌, map, codes, slice_index_or}
use Rattle.std.specs.Fmt.{decimal, signed_decimal}
use Rattle.outside.specs.Faults.{RoseOrFull}
use Rattle.outside.specs.Told.{Adds, AddsFront}
use Rattle.sq_parse.specs.Fault.{fault_place}
use Rattle.sq_parse.specs.declared.parser.ParseFault.{ParseFault}
use Rattle.sq_parse.specs.declared.parser.ParseFault.TheVariants as parse
use Rattle.table_csv.specs.declared.fault.TableFault.{TableFault}
use Rattle.table_csv.specs.declared.fault.TableFault.TheVariants as table
use Rattle.sq_bind.specs.Fault.{place_of}
use Rattle.sq_bind.specs.declared.fault.BindFault.{BindFault}
use Rattle.sq_bind.specs.declared.fault.BindFault.TheVariants as bind
use Rattle.command_line.specs.declared.command.RemoteWord.{RemoteWord}
use Rattle.command_line.specs.declared.command.TableWord.{TableWord}
use Rattle.remote_lookup.specs.declared.remote.RemoteKey.{RemoteKey}
use Rattle.run_base.specs.Seen.{Sink}
use Rattle.run_plan.specs.declared.status.Status.{Status}
use Rattle.run_plan.specs.declared.status.Status.TheVariants as status
use Rattle.run_plan.specs.declared.status.FileOf.{FileOf}
use Rattle.run_plan.specs.declared.status.FileOf.TheVariants as file
use Rattle.run_plan.specs.declared.status.LimitOf.{LimitOf}
use Rattle.run_plan.specs.declared.status.LimitOf.TheVariants as limit

-- the names of tables and of remotes
pub record Names : Type 0 where
  pub tables : List (List ℕ)
  pub remotes : List (List ℕ)

-- the names of the words, as they were given
abbrev pub names_of : List TableWord → List RemoteWord → Names
names_of tables remotes =
    record { tables = map (λ (t : TableWord). t.name) tables; remotes = map (λ (r : RemoteWord). r.name) remotes }

-- the name with a number among all names
abbrev pub name_at : List (List ℕ) → ℕ → List ℕ
name_at names number = slice_index_or names number []

-- a remote, and a key of one, as a note names it
abbrev pub remote_text : Names → ℕ → List ℕ
remote_text names remote = codes "remote " ++ name_at names.remotes remote

abbrev pub keyed_text : List ℕ → ℤ → List ℕ
keyed_text name key = codes "remote " ++ name ++ codes " key " ++ signed_decimal key

abbrev pub key_text : Names → RemoteKey → List ℕ
key_text names at = keyed_text (name_at names.remotes at.remote) at.key

-- a file as a note names it
abbrev pub file_text : Names → FileOf → List ℕ
file_text names file.Script = codes "script"
file_text names (file.Table number) = codes "table " ++ name_at names.tables number
file_text names (file.Heading remote) = codes "heading of " ++ name_at names.remotes remote
file_text names (file.Key at) = key_text names at

-- what is wrong with a script
abbrev pub parse_text : ParseFault → List ℕ
parse_text (parse.NotUtf8 at) = codes "not UTF-8"
parse_text (parse.Syntax at) = codes "syntax"
parse_text (parse.NumberTooLarge at) = codes "number too large"
parse_text (parse.TooDeep at) = codes "depth"
parse_text (parse.TooManyStatements at) = codes "statements"
parse_text parse.Memory = codes "memory"

-- what is wrong with a statement
abbrev pub bind_text : BindFault → List ℕ
bind_text (bind.UnknownTable at) = codes "unknown table"
bind_text (bind.RepeatedAlias at) = codes "repeated alias"
bind_text (bind.UnknownAlias at) = codes "unknown alias"
bind_text (bind.UnknownColumn at) = codes "unknown column"
bind_text (bind.AmbiguousColumn at) = codes "ambiguous column"
bind_text (bind.TypeMismatch at) = codes "type mismatch"
bind_text (bind.UnknownFunction at) = codes "unknown function"
bind_text (bind.WrongArguments at) = codes "wrong arguments"
bind_text (bind.TooManyAliases at) = codes "aliases"
bind_text (bind.TooManyConjuncts at) = codes "conjuncts"
bind_text (bind.TooManyTerms at) = codes "terms"
bind_text (bind.NotGrouped at) = codes "not grouped"
bind_text (bind.NotSelected at) = codes "not selected"
bind_text (bind.Unreachable alias) = codes "unreachable"
bind_text bind.Memory = codes "memory"

-- a fault at a place, which is a byte of the script
abbrev pub at_byte : List ℕ → ℕ → List ℕ
at_byte what at = what ++ codes " at byte " ++ decimal at

abbrev pub bind_note : BindFault → List ℕ
bind_note (bind.Unreachable alias) = codes "alias " ++ decimal (alias + 1) ++ codes " is unreachable"
bind_note f = at_byte (bind_text f) (place_of f)

-- a field of a record, and what it is or isn't
abbrev pub field_note : ℕ → ℕ → List ℕ → List ℕ
field_note rec field what = codes "record " ++ decimal rec ++ codes " field " ++ decimal field ++ what

-- what is wrong with a table's file
abbrev pub table_note : TableFault → List ℕ
table_note table.NoHeading = codes "no heading"
table_note (table.Unequal rec) = codes "record " ++ decimal rec ++ codes " is unequal"
table_note (table.NotUtf8 rec field) = field_note rec field (codes " is not UTF-8")
table_note (table.BadInteger rec field) = field_note rec field (codes " is not an integer")
table_note (table.BadDecimal rec field) = field_note rec field (codes " is not a decimal")
table_note (table.RepeatedColumn field) = codes "field " ++ decimal field ++ codes " repeats a column"
table_note table.TooManyColumns = codes "columns"
table_note table.TooManyRows = codes "rows"
table_note table.Memory = codes "memory"

-- what passes a limit
abbrev pub limit_note : Names → LimitOf → List ℕ
limit_note names (limit.File f) = codes "file of " ++ file_text names f
limit_note names (limit.Table number f) = table_note f ++ codes " of table " ++ name_at names.tables number
limit_note names (limit.Parse f) = at_byte (parse_text f) (fault_place f)
limit_note names (limit.Bind statement f) = at_byte (bind_text f) (place_of f)
limit_note names (limit.Keys remote) = codes "keys of " ++ remote_text names remote
limit_note names (limit.Rows remote) = codes "rows of " ++ remote_text names remote

-- what a status says of a run over tables and remotes of these names
abbrev pub note : Names → Status → List ℕ
note names status.Done = codes "done"
note names status.Usage =
    codes "usage: eddyql [OPTIONS] SCRIPT NAME=FILE.. or eddyql [OPTIONS] --demo ROWS"
note names (status.Script f) = codes "script: " ++ at_byte (parse_text f) (fault_place f)
note names (status.Bind statement f) = codes "statement " ++ decimal statement ++ codes ": " ++ bind_note f
note names (status.BadTable number f) =
    codes "table " ++ name_at names.tables number ++ codes ": " ++ table_note f
note names (status.BadHeading remote) = remote_text names remote ++ codes ": bad heading"
note names (status.BadKey at why) = key_text names at ++ codes ": bad file"
note names (status.NoColumn access) = codes "access " ++ decimal access ++ codes ": no such column"
note names (status.NotFound f) = codes "not found: " ++ file_text names f
note names (status.Read f) = codes "read fault: " ++ file_text names f
note names status.Write = codes "write fault"
note names (status.Limit l) = codes "limit: " ++ limit_note names l
note names status.Memory = codes "out of memory"

-- the line of that
unfoldable pub line_of : Names → Status → List ℕ
line_of names s = note names s ++ 10 ∷ []

-- a sink has a line more, or a front of it where its count rose
abbrev pub IsNoted : {S : Type 0} → Sink S → Sink S → List ℕ → Type 0
IsNoted before now line =
    Adds before.written now.written line
    ⊎ (RoseOrFull before.faults now.faults × AddsFront before.written now.written line)

-- what a run over tables and remotes of these names puts to the notes where it would end by a status: nothing where it
-- is done, and else the line of the status that it ends by, which is that one or want of memory
pub record NotesOf {S : Type 0} (names : Names) (before now : Sink S) (s ended : Status) : Type 0 where
  pub either : (ended ≡ s) ⊎ (ended ≡ status.Memory)
  pub silent : ended ≡ status.Done → now ≡ before
  pub noted : ended ≢ status.Done → IsNoted before now (line_of names ended)
