-- Statements that run together: what is found for them, and their one line of counts.
use Rattle.std.specs.Prelude.{◌≡◌, ℕ, Bool, true, false, List, [], ◌∷◌, ◌++◌, length, map, Some, slice_get, codes, All}
use Rattle.std.specs.Fmt.{decimal}
use Rattle.std.specs.List.{flat_map}
use Rattle.std.specs.List.Sorted.{IsPermutation}
use Rattle.sq_value.specs.Relation.{Relation}
use Rattle.sq_value.specs.declared.value.Value.{Value}
use Rattle.sq_value.specs.declared.value.Truth.{Truth}
use Rattle.sq_expr.specs.declared.block.Block.{Block}
use Rattle.bag_meaning.specs.declared.combo.Combo.{Combo}
use Rattle.result_sink.specs.Ready.{rows_of_combo}
use Rattle.shared_meaning.specs.Answer.{IsSharedRecord}
use Rattle.shared_meaning.specs.declared.built.TableBuilt.{TableBuilt}
use Rattle.run_base.specs.Items.{Item}
use Rattle.run_base.specs.declared.bound.Bound.{Bound}
use Rattle.run_answers.specs.Tally.{IsTally}
use Rattle.run_answers.specs.Text.{answer_rows}

-- the blocks of bound statements
abbrev pub blocks_in : List Bound → List Block
blocks_in bounds = map (λ (b : Bound). b.block) bounds

-- the blocks of statements with their tables
abbrev pub blocks_of : List Item → List Block
blocks_of items = map (λ (item : Item). item.bound.block) items

-- the line of a shared run: how many rows were built, and the most hops of a tuple
unfoldable pub shared_line : ℕ → ℕ → List ℕ
shared_line built hops = codes "shared: built " ++ decimal built ++ codes " hops " ++ decimal hops ++ 10 ∷ []

-- what was found for each statement, put in order, is the rows of its answer
pub record AreAnswered (gives : ℕ → Value → Value → Truth) (items : List Item) (founds : List (List Combo))
    : Type 0 where
  pub long : length founds ≡ length items
  pub each : (j : ℕ) (item : Item) (combos : List Combo) → slice_get items j ≡ Some item
      → slice_get founds j ≡ Some combos
      → IsPermutation (map (rows_of_combo item.bound.block) combos) (answer_rows gives item)

-- a line tells the counts of a shared run of statements over the same tables, whose combinations, put in order, are the
-- rows of their answers
pub record IsSharedTally (gives : ℕ → Value → Value → Truth) (number : ℕ) (items : List Item) (line : List ℕ)
    : Type 0 where
  pub tables : List Relation
  pub over : All (λ (item : Item). item.tables ≡ tables) items
  pub founds : List (List Combo)
  pub built : List TableBuilt
  pub hops : ℕ
  pub recorded : IsSharedRecord gives tables (blocks_of items) founds built hops
  pub answered : AreAnswered gives items founds
  pub is : line ≡ shared_line (length built) hops

-- statements in bundles, each with one line of counts: all together, or each by itself
abbrev pub bundles_of : Bool → List Item → List (List Item)
bundles_of true items = items ∷ []
bundles_of false items = map (λ (item : Item). item ∷ []) items

-- the statements of bundles, in order
abbrev pub in_bundles : List (List Item) → List Item
in_bundles bundles = flat_map (λ (bundle : List Item). bundle) bundles

-- a line is right for a bundle: that of statements that run together, or of a statement by itself
abbrev pub IsBundleTally : Bool → ℕ → (ℕ → Value → Value → Truth) → ℕ → List Item → List ℕ → Type 0
IsBundleTally true room gives number items line = IsSharedTally gives number items line
IsBundleTally false room gives number (item ∷ []) line = IsTally room gives number item line
IsBundleTally false room gives number _ line = ⊥
