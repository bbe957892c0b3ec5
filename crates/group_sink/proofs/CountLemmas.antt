-- The one line of a statement that counts all members.
use Rattle.std.proofs.Common.{◌≡◌, ℕ, Bool, true, false, List, [], ◌∷◌, Option, Some, length, map, refl, ap, sym, ◌∙◌, pos}
use Rattle.std.specs.Prelude.{All}
use Rattle.std.specs.Cmp.Lexicographic.{slice_cmp}
use Rattle.std.specs.Ordering.{nat_cmp}
use Rattle.std.proofs.lemmas.List.{length-map}
use Rattle.std.proofs.lemmas.List.Elements.{All-head, All-tail}
use Rattle.std.proofs.lemmas.List.Sorted.{length_permutation}
use Rattle.sq_value.specs.Relation.{Relation}
use Rattle.sq_expr.specs.declared.block.Block.{Block}
use Rattle.sq_expr.specs.declared.cond.ColumnOf.{ColumnOf}
use Rattle.sq_expr.specs.declared.shape.AggKind.{AggKind}
use Rattle.sq_expr.specs.declared.shape.AggKind.TheVariants as agg
use Rattle.sq_expr.specs.declared.shape.Cell.{Cell}
use Rattle.sq_expr.specs.declared.shape.Shape.{Shape}
use Rattle.bag_meaning.specs.Answer.{in_order}
use Rattle.bag_meaning.specs.declared.combo.Combo.{Combo}
use Rattle.bag_meaning.proofs.InOrderLemmas.{IsPermutation-in_order}
use Rattle.result_sink.specs.Ready.{rows_of_combo}
use Rattle.group_sink.specs.Cells.{cell_over}
use Rattle.group_sink.specs.Groups.{groups_of}
use Rattle.group_sink.specs.Lines.{value_of, scale_of, cell_of_group, ordered_lines, told_apart, limited, lines_of, in_product_order}
use Rattle.group_sink.specs.declared.line.Out.{Out}
use Rattle.group_sink.specs.declared.line.Out.TheVariants as out

-- one line is told apart from no other
one_apart : (distinct : Bool) (line : List Out) → told_apart distinct (line ∷ []) ≡ line ∷ []
one_apart true line = refl
one_apart false line = refl

module _ (block : Block) (tables : List Relation) (members : List (List ℕ)) where
  -- each cell shows how many
  counts : (cells : List Cell) → All (λ (cell : Cell). cell.agg ≡ Some agg.CountAll) cells
      → map (cell_of_group block tables members) cells ≡ map (λ (cell : Cell). out.Number (pos (length members)) 0) cells
  counts [] h = refl
  counts (cell ∷ cells) h =
      ap (λ (o : Out). o ∷ map (cell_of_group block tables members) cells)
      (ap (λ (a : Option AggKind). cell_over (scale_of block tables cell.column) a (map (value_of block tables cell.column) members)) (All-head (λ (c : Cell). c.agg ≡ Some agg.CountAll) cell cells h)
      ∙ ap (λ (n : ℕ). out.Number (pos n) 0) (length-map members (value_of block tables cell.column)))
      ∙ ap (λ (os : List Out). out.Number (pos (length members)) 0 ∷ os) (counts cells (All-tail (λ (c : Cell). c.agg ≡ Some agg.CountAll) cell cells h))

  lines-counted : (shape : Shape) → shape.grouped ≡ true → shape.keys ≡ [] → All (λ (cell : Cell). cell.agg ≡ Some agg.CountAll) shape.cells
      → lines_of block tables shape members ≡ limited shape.limit (map (λ (cell : Cell). out.Number (pos (length members)) 0) shape.cells ∷ [])
  unfolding lines_of
  lines-counted shape grouped keys cells =
      ap (limited shape.limit)
      (ap (λ (gs : List (List (List ℕ))). told_apart shape.distinct (ordered_lines block tables shape gs))
      (ap (λ (b : Bool). groups_of b (value_of block tables) shape.keys members) grouped ∙ ap (λ (ks : List ColumnOf). groups_of true (value_of block tables) ks members) keys)
      ∙ one_apart shape.distinct (map (cell_of_group block tables members) shape.cells)
      ∙ ap (λ (line : List Out). line ∷ []) (counts shape.cells cells))

-- over combinations in any order
pub report-counted : (block : Block) (tables : List Relation) (shape : Shape) (combos : List Combo)
    → shape.grouped ≡ true → shape.keys ≡ [] → All (λ (cell : Cell). cell.agg ≡ Some agg.CountAll) shape.cells
    → limited shape.limit (map (λ (cell : Cell). out.Number (pos (length combos)) 0) shape.cells ∷ [])
    ≡ lines_of block tables shape (in_product_order (map (rows_of_combo block) combos))
report-counted block tables shape combos grouped keys cells =
    ap (λ (n : ℕ). limited shape.limit (map (λ (cell : Cell). out.Number (pos n) 0) shape.cells ∷ [])) (sym size)
    ∙ sym (lines-counted block tables (in_product_order rows) shape grouped keys cells)
  where
    rows : List (List ℕ)
    rows = map (rows_of_combo block) combos

    size : length (in_product_order (map (rows_of_combo block) combos)) ≡ length combos
    size =
        length_permutation (map (rows_of_combo block) combos) (in_order (slice_cmp nat_cmp) (map (rows_of_combo block) combos)) (IsPermutation-in_order (slice_cmp nat_cmp) (map (rows_of_combo block) combos))
        ∙ length-map combos (rows_of_combo block)
