-- Serves proofs: what a reader of a file has yet to give.
use Rattle.std.specs.Prelude.{◌≡◌, ℕ, ◌+◌, Bool, true, false, List, [], ◌∷◌, length, Option, Some, None, IsSome}
use Rattle.std.specs.Borrow.{Bor}
use Rattle.csv.specs.Reading.{Ready, default_config, is_flexible, reader_config, reader_state, reader_trim, records_from, source_of}
use Rattle.csv.specs.declared.parser.State.{State}
use Rattle.csv.specs.declared.reader.Reader.{Reader}
use Rattle.csv.specs.declared.reader.Trim.TheVariants as trim

-- what a slice that is read has left
abbrev pub slice_left : Bor (List ℕ) → Option (List ℕ)
slice_left s = Some s.now

-- the records of known bytes that are read on from a state
abbrev pub records_on : State → Option (List ℕ) → List (List (List ℕ))
records_on state None = []
records_on state (Some bytes) = records_from default_config (length bytes + 1) state bytes

-- the records that a reader of a slice has yet to give
unfoldable pub records_left : Reader (Bor (List ℕ)) → List (List (List ℕ))
records_left reader = records_on (reader_state reader) (source_of slice_left reader)

-- a reader of known bytes with csv's defaults, but that each record counts, and may have any length
pub record IsPlain (reader : Reader (Bor (List ℕ))) : Type 0 where
  pub config : reader_config reader ≡ default_config
  pub trim : reader_trim reader ≡ trim.None
  pub flexible : is_flexible reader ≡ true
  pub ready : Ready reader
  pub known : IsSome (source_of slice_left reader)

-- what a read shows of the records that were left: the first has these fields and more are left, or there is none
abbrev pub GivesNext : List (List (List ℕ)) → Bool → List (List ℕ) → List (List (List ℕ)) → Type 0
GivesNext rows true fields more = rows ≡ fields ∷ more
GivesNext rows false fields more = rows ≡ []
