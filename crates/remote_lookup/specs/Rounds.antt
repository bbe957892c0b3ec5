-- How the needed keys are found: in rounds, each of which loads the keys that those before it ask for.
use Rattle.std.specs.Prelude.{◌≡◌, ◌≢◌, ◌↔◌, ℕ, ◌+◌, nat_lt, Bool, true, ◌&&◌, ◌==◌, not, List, [], ◌∷◌, ◌++◌, length, filter, Option, Some, None, Result, Ok, Err, ℤ, AllPairs, if◌then◌else◌}
use Rattle.std.specs.List.{flat_map, list_any, find, range_with_len}
use Rattle.std.specs.Ordering.{int_cmp, int_eq, nat_cmp, ordering_then}
use Rattle.std.specs.declared.cmp.Ordering.{Ordering}
use Rattle.std.specs.declared.cmp.Ordering.TheVariants.{Less}
use Rattle.sq_value.specs.Relation.{Relation}
use Rattle.sq_value.specs.declared.value.Value.{Value}
use Rattle.sq_value.specs.declared.value.Truth.{Truth}
use Rattle.sq_expr.specs.declared.block.Block.{Block}
use Rattle.remote_lookup.specs.Filled.{keys_at}
use Rattle.remote_lookup.specs.Needed.{IsAskedFor}
use Rattle.remote_lookup.specs.declared.remote.Remote.{Remote}
use Rattle.remote_lookup.specs.declared.remote.RemoteKey.{RemoteKey}
use Rattle.remote_lookup.specs.declared.remote.KeyFault.{KeyFault}
use Rattle.remote_lookup.specs.declared.remote.RemoteFault.{RemoteFault}
use Rattle.remote_lookup.specs.declared.remote.RemoteFault.TheVariants as fault

-- keys by remote, and then rising
abbrev pub key_order : RemoteKey → RemoteKey → Ordering
key_order a b = ordering_then (nat_cmp a.remote b.remote) (int_cmp a.key b.key)

abbrev pub AreOrdered : List RemoteKey → Type 0
AreOrdered keys = AllPairs (λ (a b : RemoteKey). key_order a b ≡ Less) keys

-- whether a key stands in a list
abbrev pub lists_key : List RemoteKey → ℕ → ℤ → Bool
lists_key keys remote key = list_any (λ (k : RemoteKey). (k.remote == remote) && int_eq k.key key) keys

-- why a key's file is no part of a remote: it is too long, or has a fault
pub data Cause : Type 0 where
  TooLong : Cause
  Bad : KeyFault → Cause

abbrev pub fault_of : RemoteKey → Cause → RemoteFault
fault_of at TooLong = fault.TooLong at
fault_of at (Bad why) = fault.BadFile at why

-- In the following `file` is what the file of a key of a remote is: its rows, none where it isn't there, or its cause.
-- The rows alone
abbrev pub rows_of_file : Result (List (List Value)) Cause → List (List Value)
rows_of_file (Ok rows) = rows
rows_of_file (Err cause) = []

-- how many rows a remote has with these keys
abbrev pub row_count_of : (ℕ → ℤ → Result (List (List Value)) Cause) → List RemoteKey → ℕ → ℕ
row_count_of file keys remote = length (flat_map (λ (k : ℤ). rows_of_file (file remote k)) (keys_at keys remote))

-- the fault of one more key: its file's, or that its remote then has too many rows
abbrev pub fault_at : (ℕ → ℤ → Result (List (List Value)) Cause) → List RemoteKey → RemoteKey
    → Result (List (List Value)) Cause
    → Option RemoteFault
fault_at file loaded at (Err cause) = Some (fault_of at cause)
fault_at file loaded at (Ok rows) =
    if nat_lt 4000000 (row_count_of file loaded at.remote + length rows) then Some (fault.TooManyRows at.remote)
    else None

-- the first fault of keys that are loaded in order
unfoldable pub first_fault : (ℕ → ℤ → Result (List (List Value)) Cause) → List RemoteKey → List RemoteKey
    → Option RemoteFault
first_fault file loaded [] = None
first_fault file loaded (k ∷ keys) = after (fault_at file loaded k (file k.remote k.key))
    (first_fault file (loaded ++ k ∷ []) keys)
  where
    after : Option RemoteFault → Option RemoteFault → Option RemoteFault
    after (Some f) rest = Some f
    after None rest = rest

-- the first remote of which there are more than 10,000 keys
abbrev pub crowded : ℕ → List RemoteKey → Option ℕ
crowded remotes keys = find (λ (r : ℕ). nat_lt 10000 (length (keys_at keys r))) (range_with_len 0 remotes)

-- the keys that are asked for where the rows of these keys are known, in order
pub record AreAskedBy (gives : ℕ → Value → Value → Truth) (block : Block) (tables : List Relation)
    (remotes : List Remote)
    (file : ℕ → ℤ → Result (List (List Value)) Cause) (known next : List RemoteKey) : Type 0 where
  pub ordered : AreOrdered next
  pub each : (remote : ℕ) (key : ℤ) → ((lists_key next remote key ≡ true)
      ↔ IsAskedFor gives block tables remotes (λ r k. rows_of_file (file r k)) (lists_key known) remote key)

-- what comes of the rounds behind these known keys: the needed keys, or the first refusal
pub data Comes (gives : ℕ → Value → Value → Truth) (block : Block) (tables : List Relation) (remotes : List Remote)
    (file : ℕ → ℤ → Result (List (List Value)) Cause)
    : List RemoteKey → Result (List RemoteKey) RemoteFault → Type 0 where
  -- nothing more is asked for
  Ends : (known : List RemoteKey) → AreAskedBy gives block tables remotes file known known
      → Comes gives block tables remotes file known (Ok known)
  -- a round has too many keys
  Crowds : (known next : List RemoteKey) (remote : ℕ) → AreAskedBy gives block tables remotes file known next
      → next ≢ known → crowded (length remotes) next ≡ Some remote
      → Comes gives block tables remotes file known (Err (fault.TooManyKeys remote))
  -- a file of a round has a fault, or is one too many
  Breaks : (known next : List RemoteKey) (why : RemoteFault) → AreAskedBy gives block tables remotes file known next
      → next ≢ known → crowded (length remotes) next ≡ None
      → first_fault file known (filter (λ (k : RemoteKey). not (lists_key known k.remote k.key)) next) ≡ Some why
      → Comes gives block tables remotes file known (Err why)
  -- a round is loaded, and further ones follow
  Goes : (known next : List RemoteKey) (due : Result (List RemoteKey) RemoteFault)
      → AreAskedBy gives block tables remotes file known next
      → next ≢ known → crowded (length remotes) next ≡ None
      → first_fault file known (filter (λ (k : RemoteKey). not (lists_key known k.remote k.key)) next) ≡ None
      → Comes gives block tables remotes file next due
      → Comes gives block tables remotes file known due

-- a key's file is the next to be loaded at some time, and nothing is refused before
pub data Reaches (gives : ℕ → Value → Value → Truth) (block : Block) (tables : List Relation) (remotes : List Remote)
    (file : ℕ → ℤ → Result (List (List Value)) Cause) : List RemoteKey → RemoteKey → Type 0 where
  -- in the round behind the known keys
  Here : (known next before after : List RemoteKey) (at : RemoteKey)
      → AreAskedBy gives block tables remotes file known next
      → next ≢ known → crowded (length remotes) next ≡ None
      → filter (λ (k : RemoteKey). not (lists_key known k.remote k.key)) next ≡ before ++ at ∷ after
      → first_fault file known before ≡ None
      → Reaches gives block tables remotes file known at
  -- in a later round
  Later : (known next : List RemoteKey) (at : RemoteKey) → AreAskedBy gives block tables remotes file known next
      → next ≢ known → crowded (length remotes) next ≡ None
      → first_fault file known (filter (λ (k : RemoteKey). not (lists_key known k.remote k.key)) next) ≡ None
      → Reaches gives block tables remotes file next at
      → Reaches gives block tables remotes file known at
