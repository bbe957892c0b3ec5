-- The summary of the demo, which tells the number of rows of each answer.
use Rattle.std.specs.Prelude.{ℕ, ◌+◌, List, [], ◌∷◌, ◌++◌, length, codes}
use Rattle.std.specs.Fmt.{decimal}
use Rattle.sq_value.specs.declared.value.Value.{Value}
use Rattle.sq_value.specs.declared.value.Truth.{Truth}
use Rattle.run_base.specs.Items.{Item}
use Rattle.run_answers.specs.Text.{answer_rows}

-- the record of the query with this number, whose answer has so many rows
abbrev pub record_of : ℕ → ℕ → List ℕ
record_of number rows = codes "q" ++ decimal number ++ codes "," ++ decimal rows ++ 10 ∷ []

-- the record of a statement, as the query with this number
abbrev pub count_text : (ℕ → Value → Value → Truth) → ℕ → Item → List ℕ
count_text gives number item = record_of number (length (answer_rows gives item))

-- the records of statements in order, the first of them of the query with this number
unfoldable pub count_texts : (ℕ → Value → Value → Truth) → ℕ → List Item → List ℕ
count_texts gives number [] = []
count_texts gives number (item ∷ more) = count_text gives number item ++ count_texts gives (number + 1) more

-- the heading of the summary
abbrev pub summary_heading : List ℕ
summary_heading = codes "query,rows" ++ 10 ∷ []

-- the summary: its heading, and a record for each statement
abbrev pub summary : (ℕ → Value → Value → Truth) → List Item → List ℕ
summary gives items = summary_heading ++ count_texts gives 1 items
