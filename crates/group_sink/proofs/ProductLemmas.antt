-- Combinations in the order of the product.
use Rattle.std.proofs.Common.{◌≡◌, ℕ, ◌+◌, ◌≤◌, List, [], length, map, get_or, sym, ◌∙◌, ap, arith, subst}
use Rattle.std.specs.Prelude.{All, AllPairs}
use Rattle.std.specs.Cmp.Lexicographic.{slice_cmp, texts_ties, bytes_decides}
use Rattle.std.specs.List.Sorted.{IsPermutation}
use Rattle.std.specs.Ordering.{nat_cmp, ordering_then, ordering_reverse, is_eq}
use Rattle.std.specs.declared.cmp.Ordering.{Ordering}
use Rattle.std.specs.declared.cmp.Ordering.TheVariants.{Less, Equal, Greater}
use Rattle.std.proofs.lemmas.Cmp.{nat_list_cmp_total}
use Rattle.std.proofs.lemmas.List.{get_or-map, length-map}
use Rattle.std.proofs.lemmas.List.Sorted.{IsPermutation-sym, IsPermutation-trans, Contains-permutation}
use Rattle.sq_value.specs.Relation.{Relation}
use Rattle.sq_expr.specs.declared.block.Block.{Block}
use Rattle.sq_expr.specs.declared.block.OrderKey.{OrderKey}
use Rattle.bag_meaning.specs.Answer.{answer_order, by_keys, key_value, in_order, Rises}
use Rattle.bag_meaning.specs.declared.combo.Combo.{Combo}
use Rattle.bag_meaning.proofs.InOrderLemmas.{Precedes, IsPermutation-in_order, AllPairs-in_order}
use Rattle.bag_meaning.proofs.PairLemmas.{AllPairs-from_neighbours, same_rising_lists}
use Rattle.result_sink.specs.Ready.{Differs, IsOrdered, HasColumn, column_of_key, rows_of_combo}
use Rattle.group_sink.specs.Lines.{in_product_order}

-- a block without an order is one that can be put in order
pub IsOrdered-without : (block : Block) (tables : List Relation) → block.order ≡ [] → length block.aliases ≤ 12 → IsOrdered block tables
IsOrdered-without block tables none few = record {
  few = few;
  order = subst (λ (keys : List OrderKey). All (λ key. HasColumn block tables (column_of_key key)) keys) (sym none) (λ k d low. absurd (omega arith));
}

some_combo : Combo
some_combo = record { rows = []; stamp = 0 }

-- combinations that differ have rows that differ
pub rows-differ : (block : Block) (combos : List Combo) → AllPairs (Differs block) combos
    → AllPairs (λ (x y : List ℕ). x ≡ y → ⊥) (map (rows_of_combo block) combos)
rows-differ block combos differ i j d low within e =
    let size = length-map combos (rows_of_combo block) in
    differ i j some_combo low (omega (arith, within, size))
    (sym (get_or-map (rows_of_combo block) combos i some_combo d (omega (arith, within, size, low)))
    ∙ e ∙ get_or-map (rows_of_combo block) combos j some_combo d (omega (arith, within, size)))

module _ (block : Block) (tables : List Relation) (none : block.order ≡ []) where
  abbrev cmp : List ℕ → List ℕ → Ordering
  cmp = slice_cmp nat_cmp

  -- without an order that of answers is that of the product
  plain : (x y : List ℕ) → answer_order block tables x y ≡ Less → cmp x y ≡ Less
  plain x y h = subst (λ (keys : List OrderKey). ordering_then (by_keys (key_value block tables) keys x y) (slice_cmp nat_cmp x y) ≡ Less) none h

  same_rows : (x y : List ℕ) → cmp x y ≡ Equal → x ≡ y
  same_rows x y e = (bytes_decides x y).0 (texts_ties x y ∙ ap is_eq e)

  never : (x y : List ℕ) → Precedes cmp x y → Precedes cmp y x → ⊥
  never x y h k =
      let e : Less ≡ Greater = sym h ∙ nat_list_cmp_total.antisymm x y ∙ ap ordering_reverse k in
      cc

  -- and what rises so is in the order of the product
  pub product-order : (xs ys : List (List ℕ)) → AllPairs (λ (x y : List ℕ). x ≡ y → ⊥) xs → IsPermutation xs ys
      → Rises (answer_order block tables) ys → ys ≡ in_product_order xs
  product-order xs ys differ moved rises =
      same_rising_lists (Precedes cmp) never ys (in_order cmp xs)
      (AllPairs-from_neighbours (Precedes cmp) [] nat_list_cmp_total.trans ys (λ k within. plain (get_or ys k []) (get_or ys (k + 1) []) (rises k within)))
      (AllPairs-in_order cmp nat_list_cmp_total xs (λ i j d low within. λ e. differ i j d low within (same_rows (get_or xs i d) (get_or xs j d) e)))
      (λ z inside. Contains-permutation ys (in_order cmp xs) z (IsPermutation-trans ys xs (in_order cmp xs) (IsPermutation-sym xs ys moved) (IsPermutation-in_order cmp xs)) inside)
      (λ z inside. Contains-permutation (in_order cmp xs) ys z (IsPermutation-trans (in_order cmp xs) xs ys (IsPermutation-sym xs (in_order cmp xs) (IsPermutation-in_order cmp xs)) moved) inside)
