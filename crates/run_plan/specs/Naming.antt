-- What a status names: a file of the words, an access, or a remote.
use Rattle.std.specs.Prelude.{ℕ, ◌+◌, ◌<◌, ◌≤◌, length, Option, Some, None, IfSome, ⊤}
use Rattle.command_line.specs.declared.command.Query.{Query}
use Rattle.run_plan.specs.declared.status.FileOf.{FileOf}
use Rattle.run_plan.specs.declared.status.FileOf.TheVariants as file
use Rattle.run_plan.specs.declared.status.LimitOf.TheVariants as limit
use Rattle.run_plan.specs.declared.status.Status.{Status}
use Rattle.run_plan.specs.declared.status.Status.TheVariants as status

-- the file that a status names: one that isn't there, couldn't be read, is too long, or isn't a table
abbrev pub file_named : Status → Option FileOf
file_named (status.BadTable number fault) = Some (file.Table number)
file_named (status.BadHeading remote) = Some (file.Heading remote)
file_named (status.BadKey at why) = Some (file.Key at)
file_named (status.NotFound f) = Some f
file_named (status.Read f) = Some f
file_named (status.Limit (limit.File f)) = Some f
file_named (status.Limit (limit.Table number fault)) = Some (file.Table number)
file_named _ = None

-- the access that a status names
abbrev pub access_named : Status → Option ℕ
access_named (status.NoColumn access) = Some access
access_named _ = None

-- the remote that a status names, beside those of its file
abbrev pub remote_limited : Status → Option ℕ
remote_limited (status.Limit (limit.Keys remote)) = Some remote
remote_limited (status.Limit (limit.Rows remote)) = Some remote
remote_limited _ = None

-- how many tables, accesses and remotes there are
pub record Counts : Type 0 where
  pub tables : ℕ
  pub accesses : ℕ
  pub remotes : ℕ

abbrev pub counts : ℕ → ℕ → ℕ → Counts
counts tables accesses remotes = record { tables = tables; accesses = accesses; remotes = remotes }

-- those of a query's words
abbrev pub word_counts : Query → Counts
word_counts q = counts (length q.tables) (length q.accesses) (length q.remotes)

-- none, and those up to a file
abbrev pub zero_counts : Counts
zero_counts = counts 0 0 0

abbrev pub counts_to : FileOf → Counts
counts_to file.Script = zero_counts
counts_to (file.Table number) = counts (number + 1) 0 0
counts_to (file.Heading remote) = counts 0 0 (remote + 1)
counts_to (file.Key at) = counts 0 0 (at.remote + 1)

-- a file is the script, one of so many tables, or one of so many remotes' files; both count from 0
abbrev pub IsFileOf : Counts → FileOf → Type 0
IsFileOf c file.Script = ⊤
IsFileOf c (file.Table number) = number < c.tables
IsFileOf c (file.Heading remote) = remote < c.remotes
IsFileOf c (file.Key at) = at.remote < c.remotes

-- an access is one of so many, which count from 1
abbrev pub IsAccessOf : ℕ → ℕ → Type 0
IsAccessOf accesses number = (1 ≤ number) × (number ≤ accesses)

-- a file that a status names is the script or one of so many; and so is a table, a remote or an access that it names
pub record IsNamed (c : Counts) (s : Status) : Type 0 where
  pub file : IfSome (file_named s) (IsFileOf c)
  pub access : IfSome (access_named s) (IsAccessOf c.accesses)
  pub remote : IfSome (remote_limited s) (λ (remote : ℕ). remote < c.remotes)
