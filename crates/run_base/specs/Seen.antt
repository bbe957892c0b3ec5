-- What a run sees of the world, before a step and after it: its folder, its output and its notes.
use Rattle.std.specs.Prelude.{ℕ, List, Option}
use Rattle.outside.specs.Files.{File}

-- what a folder shows: what it holds, where it tells that, and its count of faults
pub record Folder : Type 0 where
  pub holds : Option (List File)
  pub faults : ℕ

abbrev pub folder_seen : Option (List File) → ℕ → Folder
folder_seen holds faults = record { holds = holds; faults = faults }

-- what a sink shows: itself, which a clause can only compare, what it took, where it tells that, and its count of
-- faults
pub record Sink (S : Type 0) : Type 0 where
  pub itself : S
  pub written : Option (List ℕ)
  pub faults : ℕ

abbrev pub sink_seen : {S : Type 0} → S → Option (List ℕ) → ℕ → Sink S
sink_seen itself written faults = record { itself = itself; written = written; faults = faults }

-- what the sinks of a run show: its output, for answers, and its notes, for lines of counts and refusals
pub record Outputs (O N : Type 0) : Type 0 where
  pub out : Sink O
  pub notes : Sink N

-- what the world of a run shows
pub record World (O N : Type 0) : Type 0 where
  pub folder : Folder
  pub outputs : Outputs O N

abbrev pub world_seen : {O N : Type 0} → Option (List File) → ℕ → Outputs O N → World O N
world_seen holds faults outputs = record { folder = folder_seen holds faults; outputs = outputs }
