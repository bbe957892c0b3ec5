-- Each combination of a product has one row of each table, and each row is below its table's size.
use Rattle.std.proofs.Common.{◌≡◌, ℕ, zero, suc, ◌+◌, ◌<◌, List, [], ◌∷◌, length, get_or, refl, ap, ◌∙◌, arith, subst}
use Rattle.std.specs.Prelude.{map, All, slice_index, ⊤}
use Rattle.std.specs.List.{flat_map, range_with_len}
use Rattle.std.proofs.lemmas.List.{length-map, get_or-map}
use Rattle.std.proofs.lemmas.List.Elements.{All-append, All-map, All-weaker, All-nil, All-cons, All-head, All-tail, All-filter}
use Rattle.sq_value.specs.Relation.{Relation}
use Rattle.sq_value.specs.declared.value.Value.{Value}
use Rattle.sq_value.specs.declared.value.Truth.{Truth}
use Rattle.sq_expr.specs.declared.block.AliasUse.{AliasUse}
use Rattle.sq_expr.specs.declared.block.Block.{Block}
use Rattle.bag_meaning.specs.Bag.{bag, product, sizes_of, uses_of, row_count, is_match}

-- one row for each size, and below it
abbrev pub AreBelow : List ℕ → List ℕ → Type 0
AreBelow [] [] = ⊤
AreBelow [] (row ∷ rows) = ⊥
AreBelow (size ∷ sizes) [] = ⊥
AreBelow (size ∷ sizes) (row ∷ rows) = (row < size) × AreBelow sizes rows

pub length-AreBelow : (sizes rows : List ℕ) → AreBelow sizes rows → length rows ≡ length sizes
length-AreBelow [] [] h = refl
length-AreBelow [] (row ∷ rows) h = absurd h
length-AreBelow (size ∷ sizes) [] h = absurd h
length-AreBelow (size ∷ sizes) (row ∷ rows) h = ap (λ (k : ℕ). suc k) (length-AreBelow sizes rows h.1)

pub AreBelow-get_or : (sizes rows : List ℕ) → AreBelow sizes rows → (a : ℕ) → a < length sizes → get_or rows a 0 < get_or sizes a 0
AreBelow-get_or [] rows h a k = absurd (omega arith)
AreBelow-get_or (size ∷ sizes) [] h a k = absurd h
AreBelow-get_or (size ∷ sizes) (row ∷ rows) h zero k = h.0
AreBelow-get_or (size ∷ sizes) (row ∷ rows) h (suc a) k = AreBelow-get_or sizes rows h.1 a (omega arith)

-- the numbers of a range are below its end
pub All-range_with_len : (a n : ℕ) → All (λ i. i < a + n) (range_with_len a n)
All-range_with_len a zero = All-nil (λ (i : ℕ). i < a + zero)
All-range_with_len a (suc n) =
    let first : a < a + suc n = omega arith in
    let rest = All-weaker (λ (i : ℕ). i < (a + 1) + n) (λ (i : ℕ). i < a + suc n) (λ i h. omega arith) (range_with_len (a + 1) n) (All-range_with_len (a + 1) n) in
    All-cons (λ (i : ℕ). i < a + suc n) a (range_with_len (a + 1) n) first rest

-- a property of all parts that come of elements with another one
pub All-flat_map_on : {X A : Type 0} (P : A → Type 0) (Q : X → Type 0) (f : X → List A) → ((x : X) → Q x → All P (f x))
    → (xs : List X) → All Q xs → All P (flat_map f xs)
All-flat_map_on P Q f h [] each = All-nil P
All-flat_map_on P Q f h (x ∷ xs) each =
    All-append P (f x) (flat_map f xs) (h x (All-head Q x xs each)) (All-flat_map_on P Q f h xs (All-tail Q x xs each))

pub AreBelow-product : (sizes : List ℕ) → All (AreBelow sizes) (product sizes)
unfolding product
AreBelow-product [] = All-cons (AreBelow []) [] [] tt (All-nil (AreBelow []))
AreBelow-product (size ∷ sizes) =
    All-flat_map_on (AreBelow (size ∷ sizes)) (λ (row : ℕ). row < 0 + size) (λ (row : ℕ). map (λ (rest : List ℕ). row ∷ rest) (product sizes))
    (λ row below. All-map (AreBelow (size ∷ sizes)) (λ (rest : List ℕ). row ∷ rest) (product sizes)
    (All-weaker (AreBelow sizes) (λ (rest : List ℕ). AreBelow (size ∷ sizes) (row ∷ rest)) (λ rest each. (omega arith, each)) (product sizes) (AreBelow-product sizes)))
    (range_with_len 0 size) (All-range_with_len 0 size)

-- a combination has one row of each alias, which its table has
pub record IsCombination (block : Block) (tables : List Relation) (rows : List ℕ) : Type 0 where
  pub count : length rows ≡ length block.aliases
  pub below : (a : ℕ) → a < length block.aliases → slice_index rows a < row_count tables (slice_index (uses_of block) a)

is_combination : (block : Block) (tables : List Relation) (rows : List ℕ) → AreBelow (sizes_of block tables) rows → IsCombination block tables rows
is_combination block tables rows h =
    let uses : length (uses_of block) ≡ length block.aliases = length-map block.aliases (λ (use' : AliasUse). use'.table) in
    let sizes : length (sizes_of block tables) ≡ length (uses_of block) = length-map (uses_of block) (row_count tables) in
    record {
      count = length-AreBelow (sizes_of block tables) rows h ∙ sizes ∙ uses;
      below = λ a k.
          let here : a < length (uses_of block) = omega (arith, uses) in
          let there : a < length (sizes_of block tables) = omega (arith, uses, sizes) in
          subst (λ (n : ℕ). get_or rows a 0 < n) (get_or-map (row_count tables) (uses_of block) a 0 0 here)
          (AreBelow-get_or (sizes_of block tables) rows h a there);
    }

-- so has each match
pub bag-in_range : (gives : ℕ → Value → Value → Truth) (block : Block) (tables : List Relation) → All (IsCombination block tables) (bag gives block tables)
unfolding bag
bag-in_range gives block tables =
    All-filter (is_match gives block tables) (IsCombination block tables) (product (sizes_of block tables))
    (All-weaker (AreBelow (sizes_of block tables)) (IsCombination block tables) (is_combination block tables) (product (sizes_of block tables)) (AreBelow-product (sizes_of block tables)))
