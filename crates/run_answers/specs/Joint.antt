-- Serves proofs: steps of a run of all statements together.
use Rattle.std.specs.Prelude.{◌≡◌, ℕ, ◌==◌, Bool, List, [], ◌∷◌, ◌++◌, length, Option, Some, None, slice_get, if◌then◌else◌}
use Rattle.sq_value.specs.Relation.{Relation}
use Rattle.sq_value.specs.declared.value.Value.{Value}
use Rattle.sq_value.specs.declared.value.Truth.{Truth}
use Rattle.sq_expr.specs.declared.block.Block.{Block}
use Rattle.sq_expr.specs.declared.shape.Shape.{Shape}
use Rattle.bag_meaning.specs.declared.combo.Combo.{Combo}
use Rattle.eddy_runs.specs.Complete.{IsBagOf}
use Rattle.shared_meaning.specs.Answer.{IsSharedRecord}
use Rattle.shared_meaning.specs.declared.built.TableBuilt.{TableBuilt}
use Rattle.run_base.specs.Items.{Item}
use Rattle.run_base.specs.declared.bound.Bound.{Bound}
use Rattle.run_answers.specs.Text.{bound_as, item_text}
use Rattle.run_answers.specs.Together.{shared_line}
use Rattle.run_answers.specs.declared.apart.Statements.{Statements}

-- bound statements by their blocks and shapes
abbrev pub bounds_from : List Block → List (Option Shape) → List Bound
bounds_from [] shapes = []
bounds_from (block ∷ blocks) [] = []
bounds_from (block ∷ blocks) (shape ∷ shapes) = bound_as block shape ∷ bounds_from blocks shapes

-- the bound statements that were taken apart
abbrev pub bounds_of : Statements → List Bound
bounds_of s = bounds_from s.blocks.items s.shapes.items

-- what comes before the answer at a place: an empty line, but for the first
abbrev pub lead_of : ℕ → List ℕ
lead_of at = if at == 0 then [] else 10 ∷ []

-- the text of the answer at a place, with that before it
abbrev pub text_at : (ℕ → Value → Value → Truth) → ℕ → Item → List ℕ
text_at gives at item = lead_of at ++ item_text gives item

-- the line, where one is wanted
abbrev pub line_wanted : Bool → ℕ → ℕ → Option (List ℕ)
line_wanted tally built hops = if tally then Some (shared_line built hops) else None

-- what a shared run found for blocks, and its line, where one is wanted
pub record IsFoundTogether (tally : Bool) (gives : ℕ → Value → Value → Truth) (tables : List Relation)
    (blocks : List Block) (founds : List (List Combo)) (line : Option (List ℕ)) : Type 0 where
  pub built : List TableBuilt
  pub hops : ℕ
  pub recorded : IsSharedRecord gives tables blocks founds built hops
  pub told : line ≡ line_wanted tally (length built) hops

-- what was found for each statement is its bag, in another order
pub record AreBags (gives : ℕ → Value → Value → Truth) (items : List Item) (founds : List (List Combo)) : Type 0 where
  pub long : length founds ≡ length items
  pub each : (j : ℕ) (item : Item) (combos : List Combo) → slice_get items j ≡ Some item
      → slice_get founds j ≡ Some combos → IsBagOf gives item.bound.block item.tables combos
