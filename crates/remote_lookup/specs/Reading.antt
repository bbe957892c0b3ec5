-- For the proofs: why a key's file isn't read.
use Rattle.std.specs.Prelude.{◌≡◌, ◌≢◌, ◌⊎◌, [], ◌∷◌, ◌++◌, ℕ, List, Option, Some, None}
use Rattle.outside.specs.Files.{File, lookup}
use Rattle.outside.specs.Faults.{RoseOrFull}
use Rattle.table_csv.specs.declared.fault.TableFault.TheVariants as table
use Rattle.remote_lookup.specs.Loaded.{NamesOneOf, UnlessReadOrMemory}
use Rattle.remote_lookup.specs.Rounds.{Cause, Bad, fault_of}
use Rattle.remote_lookup.specs.declared.remote.KeyFault.TheVariants as key
use Rattle.remote_lookup.specs.declared.remote.RemoteKey.{RemoteKey}
use Rattle.remote_lookup.specs.declared.remote.RemoteFault.{RemoteFault}
use Rattle.remote_lookup.specs.declared.remote.RemoteFault.TheVariants as fault

-- this holds over what is given of the file of this name, which is what a folder holds, where it tells that
abbrev pub OverFile : List ℕ → Option (List File) → (Option (List ℕ) → Type 0) → Type 0
OverFile name holds P =
    (found : Option (List ℕ)) × ((files : List File) → holds ≡ Some files → found ≡ lookup files name) × P found

-- want of memory, or a cause that is expected, and is no want of memory itself
abbrev pub IsFault : (Cause → Type 0) → RemoteKey → RemoteFault → Type 0
IsFault expected at f =
    (f ≡ fault.Memory)
    ⊎ ((cause : Cause) × (cause ≢ Bad (key.Table table.Memory)) × expected cause × (f ≡ fault_of at cause))

-- the same, or a failed read, where the folder's count rose; where there is a cause, the count is as it was
abbrev pub IsRefusal : ℕ → ℕ → (Cause → Type 0) → RemoteKey → RemoteFault → Type 0
IsRefusal before now expected at f =
    ((f ≡ fault.Read at) × RoseOrFull before now)
    ⊎ ((f ≡ fault.Memory)
    ⊎ ((cause : Cause) × (cause ≢ Bad (key.Table table.Memory)) × (now ≡ before) × expected cause
    × (f ≡ fault_of at cause)))

-- In the following `faults` says which keys have which first fault beside the keys that are loaded. Why one more key
-- isn't loaded: a failed read of it, want of memory, or its fault
abbrev pub MayStop : ℕ → ℕ → (List RemoteKey → Option RemoteFault → Type 0) → RemoteKey → RemoteFault → Type 0
MayStop before now faults at f =
    ((f ≡ fault.Read at) × RoseOrFull before now × faults [] None)
    ⊎ ((f ≡ fault.Memory) ⊎ ((now ≡ before) × faults (at ∷ []) (Some f)))

-- why a round isn't: a failed read of one of its keys, with no fault before it, want of memory, or its first fault
abbrev pub MayStopIn : ℕ → ℕ → (List RemoteKey → Option RemoteFault → Type 0) → List RemoteKey → RemoteFault → Type 0
MayStopIn before now faults keys f =
    ((at : RemoteKey) × (front : List RemoteKey) × (rest : List RemoteKey) × (f ≡ fault.Read at) × RoseOrFull before now
    × (keys ≡ front ++ at ∷ rest) × faults front None)
    ⊎ ((f ≡ fault.Memory) ⊎ ((now ≡ before) × faults keys (Some f)))

-- what holds of each refusal, whatever the files are
pub record IsRefused (remotes before now : ℕ) (f : RemoteFault) : Type 0 where
  pub kept : UnlessReadOrMemory f (now ≡ before)
  pub read : (at : RemoteKey) → f ≡ fault.Read at → RoseOrFull before now
  pub names : NamesOneOf remotes f
  pub no_memory : (at : RemoteKey) → f ≢ fault.BadFile at (key.Table table.Memory)
