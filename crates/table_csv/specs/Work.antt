-- Serves proofs: what the reader holds between the heading and the rows.
use Rattle.std.specs.Prelude.{ℕ, ◌+◌, ◌||◌, List, [], ◌∷◌, map, All, ⊤, ◌≤◌, unwrap_or, if◌then◌else◌}
use Rattle.sq_value.specs.declared.table.Column.{Column}
use Rattle.sq_value.specs.declared.value.ColType.{ColType}
use Rattle.sq_value.specs.declared.value.ColType.TheVariants as kind
use Rattle.table_csv.specs.declared.heading.Named.{Named}
use Rattle.table_csv.specs.declared.types.Seen.{Seen}
use Rattle.table_csv.specs.declared.types.Seen.TheVariants as seen
use Rattle.table_csv.specs.Marks.{marked_kind, column_name}
use Rattle.table_csv.specs.Fields.{is_null_field}
use Rattle.table_csv.specs.Heading.{is_canonical}

-- what a heading's field with a number says
abbrev pub head_of : ℕ → List ℕ → Named
head_of number field = record { name = column_name number field; kind = marked_kind field }

-- what a heading's fields say, whose numbers go on from one
unfoldable pub heads_from : ℕ → List (List ℕ) → List Named
heads_from number [] = []
heads_from number (field ∷ more) = head_of number field ∷ heads_from (number + 1) more

-- their names
abbrev pub names_of : List Named → List (List ℕ)
names_of heads = map (λ (head : Named). head.name) heads

-- what is known of a column's fields after one more
abbrev pub learned : Seen → List ℕ → Seen
learned seen.Other field = seen.Other
learned seen.Nulls field =
    if is_null_field field then seen.Nulls else if is_canonical field then seen.Integers else seen.Other
learned seen.Integers field = if is_null_field field || is_canonical field then seen.Integers else seen.Other

-- what is known of each column after one record more, which may be shorter or longer
unfoldable pub all_learned : List Seen → List (List ℕ) → List Seen
all_learned [] fields = []
all_learned (s ∷ more) [] = s ∷ more
all_learned (s ∷ more) (field ∷ fields) = learned s field ∷ all_learned more fields

-- the type of a column without a mark of which this is known
abbrev pub type_of : Seen → ColType
type_of seen.Nulls = kind.Text
type_of seen.Integers = kind.Integer
type_of seen.Other = kind.Text

-- a DECIMAL type has a scale from 0 to 6
abbrev pub ScaleFits : ColType → Type 0
ScaleFits kind.Integer = ⊤
ScaleFits kind.Text = ⊤
ScaleFits (kind.Decimal scale) = scale ≤ 6

-- each column has such a type
abbrev pub ScalesFit : List Column → Type 0
ScalesFit columns = All (λ (c : Column). ScaleFits c.kind) columns

-- the column of a head, which has the type that is known where it has no mark
abbrev pub column_of_head : Named → Seen → Column
column_of_head head s = record { name = head.name; kind = unwrap_or head.kind (type_of s) }

-- the columns of heads
unfoldable pub completed : List Named → List Seen → List Column
completed [] seen = []
completed (head ∷ more) [] = []
completed (head ∷ more) (s ∷ seen) = column_of_head head s ∷ completed more seen
