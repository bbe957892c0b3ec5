-- Lines of counts: what each tells, and when it is right for its statement.
use Rattle.std.specs.Prelude.{◌≡◌, ℕ, ◌==◌, List, [], ◌∷◌, ◌++◌, length, map, Option, Some, None, codes, if◌then◌else◌}
use Rattle.std.specs.Fmt.{decimal}
use Rattle.std.specs.List.{count_by, flat_map, range_with_len}
use Rattle.std.specs.List.Sorted.{IsPermutation}
use Rattle.sq_value.specs.declared.value.Value.{Value}
use Rattle.sq_value.specs.declared.value.Truth.{Truth}
use Rattle.bag_meaning.specs.declared.combo.Built.{Built}
use Rattle.bag_meaning.specs.declared.combo.Combo.{Combo}
use Rattle.eddy_meaning.specs.Keys.{Mark}
use Rattle.eddy_runs.specs.Recorded.{IsRecorded}
use Rattle.result_sink.specs.Ready.{rows_of_combo}
use Rattle.run_base.specs.Items.{Item}
use Rattle.run_answers.specs.Text.{answer_rows}

-- the number of rows of an alias that a log builds
abbrev pub built_of : List Built → ℕ → ℕ
built_of log alias = count_by (λ (b : Built). b.alias == alias) log

-- a comma before each alias but the first
abbrev pub comma_before : ℕ → List ℕ
comma_before alias = if alias == 0 then [] else 44 ∷ []

-- the number of an alias, behind its comma
abbrev pub built_part : List Built → ℕ → List ℕ
built_part log alias = comma_before alias ++ decimal (built_of log alias)

-- the numbers of built rows of so many aliases, with a comma between two
abbrev pub built_text : ℕ → List Built → List ℕ
built_text aliases log = flat_map (built_part log) (range_with_len 0 aliases)

-- the hits that a line tells: none without a cache, which has no room
abbrev pub hits_told : ℕ → ℕ → Option ℕ
hits_told room hits = if room == 0 then None else Some hits

-- what a line says of them
abbrev pub hits_text : Option ℕ → List ℕ
hits_text None = []
hits_text (Some hits) = codes " hits " ++ decimal hits

-- the line of a statement: the built rows of each alias, the most hops of a tuple, the number of keys looked up, and
-- the hits of a cache
unfoldable pub line_of_counts : ℕ → ℕ → List Built → ℕ → ℕ → Option ℕ → List ℕ
line_of_counts number aliases log hops looked hits =
    codes "query " ++ decimal number ++ codes ": built " ++ built_text aliases log ++ codes " hops " ++ decimal hops
    ++ codes " looked " ++ decimal looked ++ hits_text hits ++ 10 ∷ []

-- a line tells the counts of a run of a statement, whose combinations, put in order, are the rows of its answer; with a
-- cache of this room it tells hits, too, and without one it doesn't
pub record IsTally (room : ℕ) (gives : ℕ → Value → Value → Truth) (number : ℕ) (item : Item) (line : List ℕ)
    : Type 0 where
  pub combos : List Combo
  pub log : List Built
  pub looked : List Mark
  pub hops : ℕ
  pub hits : ℕ
  pub recorded : IsRecorded gives item.bound.block item.tables combos log looked hops
  pub answered : IsPermutation (map (rows_of_combo item.bound.block) combos) (answer_rows gives item)
  pub is : line ≡ line_of_counts number (length item.bound.block.aliases) log hops (length looked) (hits_told room hits)
