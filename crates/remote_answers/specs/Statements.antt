-- What bound statements over remotes come to, in order: those that are answered, and the refusal of the keys of the
-- next one, where they are refused.
use Rattle.std.specs.Prelude.{◌≡◌, ℕ, ◌+◌, ℤ, List, [], ◌∷◌, ◌++◌, length, Option, None, Some, Result, Ok, Err}
use Rattle.sq_value.specs.Relation.{Relation}
use Rattle.sq_value.specs.declared.value.Value.{Value}
use Rattle.sq_value.specs.declared.value.Truth.{Truth}
use Rattle.remote_lookup.specs.Filled.{tables_for}
use Rattle.remote_lookup.specs.KeyFiles.{KeyBytes, key_file_of}
use Rattle.remote_lookup.specs.Loaded.{MayRefuse}
use Rattle.remote_lookup.specs.Rounds.{Cause, Comes, rows_of_file}
use Rattle.remote_lookup.specs.declared.remote.Remote.{Remote}
use Rattle.remote_lookup.specs.declared.remote.RemoteKey.{RemoteKey}
use Rattle.remote_lookup.specs.declared.remote.RemoteFault.{RemoteFault}
use Rattle.remote_lookup.specs.declared.remote.RemoteFault.TheVariants as fault
use Rattle.run_base.specs.Items.{Item, item_over}
use Rattle.run_base.specs.declared.bound.Bound.{Bound}

-- what statements are run over: the predicates' meaning, the tables, in which those of remotes have no rows, the
-- remotes, and what is given of keys' files to each statement. Statements count from 1
pub record Over : Type 0 where
  pub gives : ℕ → Value → Value → Truth
  pub tables : List Relation
  pub remotes : List Remote
  pub keys : ℕ → KeyBytes

-- what keys' files are to the statement with this number
abbrev pub file_for : Over → ℕ → ℕ → ℤ → Result (List (List Value)) Cause
file_for over number = key_file_of over.tables over.remotes (over.keys number)

-- what the keys of a statement come to: the needed ones, or the first refusal
abbrev pub KeysComeTo : Over → ℕ → Bound → Result (List RemoteKey) RemoteFault → Type 0
KeysComeTo over number b due =
    Comes over.gives b.block over.tables over.remotes (file_for over number) [] due

-- a statement over the tables for some keys
abbrev pub item_for : Over → ℕ → Bound → List RemoteKey → Item
item_for over number b keys =
    item_over (tables_for over.remotes (λ r k. rows_of_file (file_for over number r k)) over.tables keys) b

-- what statements come to: those that are answered, each with its tables, and the refusal of the next one's keys, if
-- they are refused
pub record Course : Type 0 where
  pub items : List Item
  pub refusal : Option RemoteFault

abbrev pub course : List Item → Option RemoteFault → Course
course items refusal = record { items = items; refusal = refusal }

-- what a statement and those after it come to, by what its keys come to
abbrev pub RunsOn : Over → ℕ → Bound → (Course → Type 0) → Result (List RemoteKey) RemoteFault → Course → Type 0
RunsOn over number b Rest (Ok keys) c =
    (rest : Course) × Rest rest × (c ≡ course (item_for over number b keys ∷ rest.items) rest.refusal)
RunsOn over number b Rest (Err why) c = c ≡ course [] (Some why)

-- statements come to this, in order, the first of them with this number: each is answered over the tables for its
-- needed keys, up to the first whose keys are refused
unfoldable pub RunsTo : Over → ℕ → List Bound → Course → Type 0
RunsTo over number [] c = c ≡ course [] None
RunsTo over number (b ∷ more) c =
    (due : Result (List RemoteKey) RemoteFault) × KeysComeTo over number b due
    × RunsOn over number b (RunsTo over (number + 1) more) due c

-- the keys of a statement may be refused so, after statements that are answered with these items: a failed read is
-- that of a key that its rounds reach; want of memory may come at any time; any other refusal is what the rounds
-- come to
pub record MayRefuseAfter (over : Over) (bounds : List Bound) (items : List Item) (why : RemoteFault) : Type 0 where
  pub first : List Bound
  pub next : Bound
  pub left : List Bound
  pub split : bounds ≡ first ++ next ∷ left
  pub runs : RunsTo over 1 first (course items None)
  pub refused : MayRefuse over.gives next.block over.tables over.remotes (over.keys (1 + length first)) why

-- the rounds of a statement reach a key, after statements that are answered with these items
abbrev pub ReachesKey : Over → List Bound → List Item → RemoteKey → Type 0
ReachesKey over bounds items at = MayRefuseAfter over bounds items (fault.Read at)
