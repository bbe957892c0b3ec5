-- Folders and sinks in memory, whose faults are chosen beforehand by the numbers of the calls, from 1.
use Rattle.std.specs.Prelude.{ℕ, ◌+◌, ◌-◌, List, [], ◌++◌, length, min, take, Bool, ◌||◌, ◌==◌, nat_lt, Option, is_some, unwrap_or, option_map, find, if◌then◌else◌}
use Rattle.std.specs.List.{list_any}
use Rattle.outside.specs.Faults.{raised}
use Rattle.outside.specs.Files.{File}

-- a folder: its files, the loads that are chosen to fail, the loads made and the faults counted
pub record FolderState : Type 0 where
  pub files : List File
  pub chosen : List ℕ
  pub loads : ℕ
  pub faults : ℕ

-- a folder without files
abbrev pub no_files : FolderState
no_files = record { files = []; chosen = []; loads = 0; faults = 0 }

-- whether the next load is chosen to fail
abbrev pub load_fails : FolderState → Bool
load_fails s = list_any (λ load. load == s.loads + 1) s.chosen

-- the folder after a load: the fault is counted exactly where it was chosen
abbrev pub after_load : FolderState → FolderState
after_load s = record s { loads = raised s.loads; faults = (if load_fails s then raised s.faults else s.faults) }

-- a put that is chosen to fail, and the bytes that it takes
pub record ChosenPut : Type 0 where
  pub put : ℕ
  pub taken : ℕ

-- that put with these bytes
abbrev pub failing_put : ℕ → ℕ → ChosenPut
failing_put put taken = record { put = put; taken = taken }

-- a sink: what it took, the room that is left, the puts that are chosen to fail, the puts made and the faults counted
pub record SinkState : Type 0 where
  pub written : List ℕ
  pub room : ℕ
  pub chosen : List ChosenPut
  pub puts : ℕ
  pub faults : ℕ

-- a sink with this room that has taken nothing
abbrev pub empty_sink : ℕ → SinkState
empty_sink room = record { written = []; room = room; chosen = []; puts = 0; faults = 0 }

-- the bytes that the next put takes where it is chosen to fail
abbrev pub choice : SinkState → Option ℕ
choice s = option_map (λ chosen. chosen.taken) (find (λ chosen. chosen.put == s.puts + 1) s.chosen)

-- how many bytes of a piece the next put takes: as many as are chosen, and fit
abbrev pub count_taken : SinkState → List ℕ → ℕ
count_taken s piece = min (min (unwrap_or (choice s) (length piece)) (length piece)) s.room

-- whether the next put fails: where that is chosen, or the piece is longer than the room
abbrev pub put_fails : SinkState → List ℕ → Bool
put_fails s piece = is_some (choice s) || nat_lt s.room (length piece)

-- the sink after a put of a piece: the fault is counted exactly where the put fails
abbrev pub after_put : SinkState → List ℕ → SinkState
after_put s piece =
    record s {
      written = s.written ++ take (count_taken s piece) piece;
      room = s.room - count_taken s piece;
      puts = raised s.puts;
      faults = (if put_fails s piece then raised s.faults else s.faults);
    }
