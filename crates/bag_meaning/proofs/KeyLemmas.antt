-- Where values of each way are in a total order, so are combinations in that of answers.
use Rattle.std.proofs.Common.{◌≡◌, ℕ, List, [], ◌∷◌, refl, subst, sym}
use Rattle.std.specs.Ordering.{nat_cmp, ordering_then}
use Rattle.std.specs.Cmp.{IsTotalOrder}
use Rattle.std.specs.Cmp.Lexicographic.{slice_cmp}
use Rattle.std.specs.declared.cmp.Ordering.TheVariants.{Equal}
use Rattle.std.proofs.lemmas.Cmp.{nat_list_cmp_total, on_total, then_total}
use Rattle.sq_value.specs.Relation.{Relation}
use Rattle.sq_value.specs.Order.{sorted_by}
use Rattle.sq_value.specs.declared.value.Value.{Value}
use Rattle.sq_value.specs.declared.value.SortWay.{SortWay}
use Rattle.sq_expr.specs.declared.block.Block.{Block}
use Rattle.sq_expr.specs.declared.block.OrderKey.{OrderKey}
use Rattle.bag_meaning.specs.Answer.{answer_order, by_keys, key_value}

-- where all is equal
equal_total : IsTotalOrder {K = List ℕ} (λ x y. Equal)
equal_total = record { antisymm = λ x y. refl; trans = λ x y z e f. e; congr = λ x y z e. refl }

module _ (total : (way : SortWay) → IsTotalOrder (sorted_by way)) where
  by_keys_total : (at : OrderKey → List ℕ → Value) (keys : List OrderKey) → IsTotalOrder (by_keys at keys)
  by_keys_total at [] = equal_total
  by_keys_total at (key ∷ keys) = then_total (on_total (at key) (total key.way)) (by_keys_total at keys)

  pub answer_order_total : (block : Block) (tables : List Relation) → IsTotalOrder (answer_order block tables)
  answer_order_total block tables = then_total (by_keys_total (key_value block tables) block.order) nat_list_cmp_total

-- without ORDER BY it is so anyway
pub unordered_total : (block : Block) (tables : List Relation) → block.order ≡ [] → IsTotalOrder (answer_order block tables)
unordered_total block tables e =
    subst (λ (keys : List OrderKey). IsTotalOrder (λ x y. ordering_then (by_keys (key_value block tables) keys x y) (slice_cmp nat_cmp x y)))
    (sym e) (then_total equal_total nat_list_cmp_total)
