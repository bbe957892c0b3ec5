-- Serves proofs: a heading without a fault, what it says, and the columns of its file.
use Rattle.std.specs.Prelude.{◌≡◌, ℕ, ◌≤◌, List, [], ◌∷◌, length, fold, replicate, None}
use Rattle.sq_value.specs.declared.table.Column.{Column}
use Rattle.table_csv.specs.declared.heading.Named.{Named}
use Rattle.table_csv.specs.declared.types.Seen.{Seen}
use Rattle.table_csv.specs.declared.types.Seen.TheVariants as seen
use Rattle.table_csv.specs.Heading.{columns_from, heading_fault}
use Rattle.table_csv.specs.Work.{all_learned, heads_from}

-- a heading of at most 64 fields without a fault, and what its fields say
pub record HasHeads (heading : List (List ℕ)) (heads : List Named) : Type 0 where
  pub heads_are : heads ≡ heads_from 1 heading
  pub few : length heading ≤ 64
  pub taken : heading_fault [] 1 heading ≡ None

-- the first of the records is such a heading, and has a field
abbrev pub AreHeads : List (List (List ℕ)) → List Named → Type 0
AreHeads [] heads = ⊥
AreHeads ([] ∷ rows) heads = ⊥
AreHeads ((first ∷ more) ∷ rows) heads = HasHeads (first ∷ more) heads

-- what some records show of so many columns
abbrev pub IsLearned : ℕ → List Seen → Type 0
IsLearned width known = (rows : List (List (List ℕ))) × (known ≡ fold all_learned (replicate width seen.Nulls) rows)

-- a heading of 1 to 64 fields without a fault, and its columns over the records below
pub record HasColumns (heading : List (List ℕ)) (rows : List (List (List ℕ))) (columns : List Column) : Type 0 where
  pub columns_are : columns ≡ columns_from 0 heading rows
  pub few : length heading ≤ 64
  pub taken : heading_fault [] 1 heading ≡ None

-- the first of the records is such a heading
abbrev pub IsHeaded : List (List (List ℕ)) → List Column → Type 0
IsHeaded [] columns = ⊥
IsHeaded ([] ∷ rows) columns = ⊥
IsHeaded ((first ∷ more) ∷ rows) columns = HasColumns (first ∷ more) rows columns
