-- For the proofs: how statements over remotes ended.
use Rattle.std.specs.Prelude.{◌≡◌, ◌≢◌, ℕ, List, [], length, Some, None, Result, Ok, Err}
use Rattle.outside.specs.Faults.{RoseOrFull}
use Rattle.sq_value.specs.Relation.{Relation}
use Rattle.sq_value.specs.declared.value.Value.{Value}
use Rattle.sq_value.specs.declared.value.Truth.{Truth}
use Rattle.table_csv.specs.declared.fault.TableFault.TheVariants as table
use Rattle.remote_lookup.specs.KeyFiles.{AreKeysGiven, KeyBytes}
use Rattle.remote_lookup.specs.Loaded.{MayRefuse, NamesOneOf, UnlessReadOrMemory}
use Rattle.remote_lookup.specs.declared.remote.KeyFault.TheVariants as key
use Rattle.remote_lookup.specs.declared.remote.Remote.{Remote}
use Rattle.remote_lookup.specs.declared.remote.RemoteKey.{RemoteKey}
use Rattle.remote_lookup.specs.declared.remote.RemoteFault.{RemoteFault}
use Rattle.remote_lookup.specs.declared.remote.RemoteFault.TheVariants as fault
use Rattle.run_base.specs.Items.{Item}
use Rattle.run_base.specs.Seen.{Folder, Outputs}
use Rattle.run_base.specs.declared.bound.Bound.{Bound}
use Rattle.run_answers.specs.Answering.{Answers, AnswersOne}
use Rattle.run_answers.specs.Tally.{IsTally}
use Rattle.run_answers.specs.Text.{numbered_text, text_of}
use Rattle.run_answers.specs.declared.settings.Settings.{Settings}
use Rattle.run_answers.specs.declared.stopping.Stop.{Stop}
use Rattle.run_answers.specs.declared.stopping.Stop.TheVariants as stop
use Rattle.remote_answers.specs.Statements.{Over, Course, KeysComeTo, MayRefuseAfter, RunsTo, item_for}
use Rattle.remote_answers.specs.declared.halting.Halt.{Halt}
use Rattle.remote_answers.specs.declared.halting.Halt.TheVariants as halt

abbrev pub over : (ℕ → Value → Value → Truth) → List Relation → List Remote → (ℕ → KeyBytes) → Over
over gives tables remotes keys = record { gives = gives; tables = tables; remotes = remotes; keys = keys }

-- a refusal of keys names one of so many remotes, and is no want of memory in a file
pub record IsRefusal (remotes : ℕ) (why : RemoteFault) : Type 0 where
  pub names : NamesOneOf remotes why
  pub memory : (at : RemoteKey) → why ≢ fault.BadFile at (key.Table table.Memory)

-- what a step over a folder leaves of it: its count rose where a read failed, and any other end but want of memory
-- leaves the count
abbrev pub CountsBy : Folder → Folder → RemoteFault → Type 0
CountsBy old new (fault.Read at) = RoseOrFull old.faults new.faults
CountsBy old new why = UnlessReadOrMemory why (new.faults ≡ old.faults)

abbrev pub Counted : Folder → Folder → Result (Unit {0}) Halt → Type 0
Counted old new (Ok x) = new.faults ≡ old.faults
Counted old new (Err (halt.Refused why)) = CountsBy old new why
Counted old new (Err (halt.Stopped why)) = new.faults ≡ old.faults

-- a statement was run over the tables for its needed keys
pub record Ran {O N : Type 0} (s : Settings) (over : Over) (number : ℕ) (bound : Bound) (old new : Outputs O N)
    (r : Result (Unit {0}) Stop) : Type 0 where
  pub keys : List RemoteKey
  pub come : KeysComeTo over number bound (Ok keys)
  pub put : AnswersOne s.tally (IsTally s.cache over.gives) number (item_for over number bound keys)
      (numbered_text over.gives number (item_for over number bound keys)) old new r

-- how one statement ended: its keys were refused, and nothing was put, or it was run
abbrev pub EndsOne : {O N : Type 0} → Settings → Over → ℕ → Bound → Outputs O N → Outputs O N
    → Result (Unit {0}) Halt → Type 0
EndsOne s over number bound old new (Ok x) = Ran s over number bound old new (Ok x)
EndsOne s over number bound old new (Err (halt.Refused why)) =
    (new ≡ old) × IsRefusal (length over.remotes) why
    × MayRefuse over.gives bound.block over.tables over.remotes (over.keys number) why
EndsOne s over number bound old new (Err (halt.Stopped why)) = Ran s over number bound old new (Err why)

-- the statement with this number ended so, by what was given of its keys' files
pub record StatementTo {O N : Type 0} (s : Settings) (gives : ℕ → Value → Value → Truth) (tables : List Relation)
    (remotes : List Remote) (number : ℕ) (bound : Bound) (before after : Folder) (old new : Outputs O N)
    (r : Result (Unit {0}) Halt) : Type 0 where
  pub found : KeyBytes
  pub agrees : AreKeysGiven remotes before.holds found
  pub counted : Counted before after r
  pub ends : EndsOne s (over gives tables remotes (λ n. found)) number bound old new r

-- the answers of items and their lines were put, whole; where there are none, nothing was touched
pub record ArePut {O N : Type 0} (s : Settings) (gives : ℕ → Value → Value → Truth) (items : List Item)
    (old new : Outputs O N) : Type 0 where
  pub put : Answers s.tally (IsTally s.cache gives) 1 items (text_of gives) old new (Ok tt)
  pub untouched : items ≡ [] → new ≡ old

-- the keys of a statement were refused: the answers before it were put, and, but for a failed read and want of
-- memory, this refusal is what the statements come to
pub record RefusedTo {O N : Type 0} (s : Settings) (over : Over) (bounds : List Bound) (c : Course)
    (old new : Outputs O N) (why : RemoteFault) : Type 0 where
  pub items : List Item
  pub after : MayRefuseAfter over bounds items why
  pub put : ArePut s over.gives items old new
  pub is : IsRefusal (length over.remotes) why
  pub comes : UnlessReadOrMemory why (c.refusal ≡ Some why)

-- what an end tells of what statements come to
abbrev pub Told : {O N : Type 0} → Settings → Over → List Bound → Course → Outputs O N → Outputs O N
    → Result (Unit {0}) Halt → Type 0
Told s over bounds c old new (Ok x) = c.refusal ≡ None
Told s over bounds c old new (Err (halt.Refused why)) = RefusedTo s over bounds c old new why
Told s over bounds c old new (Err (halt.Stopped why)) = c.items ≢ []

-- how the put of all answers ended: it is whole where keys were refused, but a failed read and want of memory cut it
-- off
abbrev pub put_by : RemoteFault → Result (Unit {0}) Stop
put_by (fault.Read at) = Err stop.Memory
put_by fault.Memory = Err stop.Memory
put_by why = Ok tt

abbrev pub put_of : Result (Unit {0}) Halt → Result (Unit {0}) Stop
put_of (Ok x) = Ok x
put_of (Err (halt.Refused why)) = put_by why
put_of (Err (halt.Stopped why)) = Err why

-- statements ended so, by what was given of their keys' files: over that they come to a course, and so much of its
-- answers was put
pub record AnsweredTo {O N : Type 0} (s : Settings) (gives : ℕ → Value → Value → Truth) (tables : List Relation)
    (remotes : List Remote) (bounds : List Bound) (before after : Folder) (old new : Outputs O N)
    (r : Result (Unit {0}) Halt) : Type 0 where
  pub keys : ℕ → KeyBytes
  pub agrees : (number : ℕ) → AreKeysGiven remotes before.holds (keys number)
  pub course : Course
  pub runs : RunsTo (over gives tables remotes keys) 1 bounds course
  pub told : Told s (over gives tables remotes keys) bounds course old new r
  pub counted : Counted before after r
  pub put : Answers s.tally (IsTally s.cache gives) 1 course.items (text_of gives) old new (put_of r)
  pub untouched : course.items ≡ [] → new ≡ old
