-- For the proofs: how the keys that are asked for grow, and which of them are fresh.
use Rattle.std.specs.Prelude.{◌≡◌, ◌↔◌, ◌⊎◌, ℕ, ℤ, true, not, ◌&&◌, List}
use Rattle.remote_lookup.specs.Rounds.{AreOrdered, lists_key}
use Rattle.remote_lookup.specs.declared.asked.Asked.{Asked}
use Rattle.remote_lookup.specs.declared.remote.RemoteKey.{RemoteKey}

-- this key of this remote
abbrev pub IsKey : RemoteKey → ℕ → ℤ → Type 0
IsKey k remote key = (k.remote ≡ remote) × (k.key ≡ key)

-- a list has the keys of another one and those that are new
abbrev pub Grown : (ℕ → ℤ → Type 0) → List RemoteKey → List RemoteKey → Type 0
Grown new before after =
    (remote : ℕ) (key : ℤ) → ((lists_key after remote key ≡ true)
    ↔ ((lists_key before remote key ≡ true) ⊎ new remote key))

-- the fresh keys are those of all that aren't among these, all of which are there
pub record AreFresh (base all fresh : List RemoteKey) : Type 0 where
  pub within : (remote : ℕ) (key : ℤ) → lists_key base remote key ≡ true → lists_key all remote key ≡ true
  pub each : (remote : ℕ) (key : ℤ) → lists_key fresh remote key ≡
      (lists_key all remote key && not (lists_key base remote key))

-- asked keys grow by these, and what is fresh or in order stays so
pub record Grows (new : ℕ → ℤ → Type 0) (before after : Asked) : Type 0 where
  pub all : Grown new before.all after.all
  pub fresh : (base : List RemoteKey) → AreFresh base before.all before.fresh → AreFresh base after.all after.fresh
  pub ordered : AreOrdered before.all → AreOrdered after.all
