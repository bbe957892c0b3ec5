-- Folders and sinks of the system.
use Rattle.std.specs.Prelude.{ℕ, List, Option}

-- a sink over a stream: what the stream holds, where it tells that, and the faults counted
pub record RealState : Type 0 where
  pub contents : Option (List ℕ)
  pub faults : ℕ

-- a sink over a new stream
abbrev pub over_stream : Option (List ℕ) → RealState
over_stream contents = record { contents = contents; faults = 0 }
