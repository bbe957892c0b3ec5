-- Answers: the matches that are found, put in order, are the answer; and its text is never empty.
use Rattle.std.proofs.Common.{◌≡◌, ◌≢◌, ℕ, List, [], ◌∷◌, ◌++◌, length, take, get_or, map, Option, Some, None, Result, Ok, Err, refl, sym, ◌∙◌, ap, subst, arith}
use Rattle.std.specs.Prelude.{All, AllPairs, IfOk}
use Rattle.std.specs.List.Sorted.{IsPermutation}
use Rattle.std.specs.declared.cmp.Ordering.{Ordering}
use Rattle.std.specs.declared.cmp.Ordering.TheVariants.{Less, Equal}
use Rattle.std.specs.Ordering.{nat_cmp, ordering_then}
use Rattle.std.specs.Cmp.Lexicographic.{slice_cmp}
use Rattle.std.proofs.lemmas.Bool.Decides.{nat_tests}
use Rattle.std.proofs.Math.Seq.{take-append_seam}
use Rattle.std.proofs.lemmas.List.{length-map, get_or-map}
use Rattle.std.proofs.lemmas.List.Elements.{All-head, All-tail}
use Rattle.std.proofs.lemmas.List.Sorted.{IsPermutation-map, IsPermutation-sym, IsPermutation-trans}
use Rattle.sq_value.specs.Relation.{Relation}
use Rattle.sq_value.specs.declared.value.Value.{Value}
use Rattle.sq_value.specs.declared.value.Truth.{Truth}
use Rattle.sq_value.specs.declared.predicate.Kinds.{Kinds}
use Rattle.sq_value.proofs.OrderLemmas.{sorted_by_total}
use Rattle.sq_expr.specs.Fits.{IsFit}
use Rattle.sq_expr.specs.declared.block.Block.{Block}
use Rattle.sq_expr.specs.declared.shape.Cell.{Cell}
use Rattle.sq_expr.specs.declared.shape.Shape.{Shape}
use Rattle.bag_meaning.specs.Bag.{bag}
use Rattle.bag_meaning.specs.Answer.{answer, answer_order, answer_text, heading_fields, Rises}
use Rattle.bag_meaning.specs.Combination.{padded, stamped}
use Rattle.bag_meaning.specs.declared.combo.Combo.{Combo}
use Rattle.bag_meaning.proofs.AnswerLemmas.{IsBefore, AllPairs-bag, IsAnswer-answer, IsAnswer-only, answer-unordered}
use Rattle.bag_meaning.proofs.KeyLemmas.{answer_order_total}
use Rattle.bag_meaning.proofs.ProductRange.{bag-in_range}
use Rattle.eddy_runs.specs.Complete.{IsBagOf}
use Rattle.csv.specs.Writing.{row_text, default_writer}
use Rattle.group_sink.specs.Lines.{lines_text, in_product_order}
use Rattle.group_sink.proofs.ProductLemmas.{product-order, rows-differ}
use Rattle.result_sink.proofs.TextLemmas.{row_text-some}
use Rattle.result_sink.specs.Ready.{IsShown, IsOrdered, Differs, rows_of_combo}
use Rattle.run_base.specs.Items.{Item}
use Rattle.run_base.specs.Seen.{Sink}
use Rattle.run_answers.specs.Text.{plain_text, shaped_text, item_text, text_by}
use Rattle.run_answers.proofs.ApartLemmas.{AreApart, AreApart-from_pairs, AreApart-permutation}

-- ---- the answer

-- the rows of a match as it is found
rows_of_stamped : (block : Block) (rows : List ℕ) → length rows ≡ length block.aliases → rows_of_combo block (stamped 0 rows) ≡ rows
rows_of_stamped block rows e = ap (λ (n : ℕ). take n (padded rows)) (sym e) ∙ take-append_seam rows _

map_same_on : (f : List ℕ → List ℕ) (xs : List (List ℕ)) → All (λ x. f x ≡ x) xs → map f xs ≡ xs
map_same_on f [] h = refl
map_same_on f (x ∷ xs) h =
    ap (λ y. y ∷ map f xs) (All-head (λ z. f z ≡ z) x xs h) ∙ ap (λ ys. x ∷ ys) (map_same_on f xs (All-tail (λ z. f z ≡ z) x xs h))

matches_same : (gives : ℕ → Value → Value → Truth) (block : Block) (tables : List Relation)
    → All (λ rows. rows_of_combo block (stamped 0 rows) ≡ rows) (bag gives block tables)
matches_same gives block tables k d h = rows_of_stamped block (get_or (bag gives block tables) k d) (bag-in_range gives block tables k d h).count

-- the rows of what was found are the matches in another order
rows_found : (gives : ℕ → Value → Value → Truth) (block : Block) (tables : List Relation) (combos : List Combo)
    → IsBagOf gives block tables combos → IsPermutation (map (rows_of_combo block) combos) (bag gives block tables)
rows_found gives block tables combos moved =
    let rows : Combo → List ℕ = λ c. c.rows in
    let cut : List ℕ → List ℕ = take (length block.aliases) in
    let given : map cut (map rows combos) ≡ map (rows_of_combo block) combos = map_twice combos in
    let due : map cut (map padded (bag gives block tables)) ≡ bag gives block tables = cut_twice (bag gives block tables) ∙ map_same_on (λ x. rows_of_combo block (stamped 0 x)) (bag gives block tables) (matches_same gives block tables) in
    subst (λ (xs : List (List ℕ)). IsPermutation xs (bag gives block tables)) given
    (subst (λ (xs : List (List ℕ)). IsPermutation (map cut (map rows combos)) xs) due
    (IsPermutation-map cut (map rows combos) (map padded (bag gives block tables)) moved))
  where
    map_twice : (cs : List Combo) → map (take (length block.aliases)) (map (λ (c : Combo). c.rows) cs) ≡ map (rows_of_combo block) cs
    map_twice [] = refl
    map_twice (c ∷ cs) = ap (λ ys. rows_of_combo block c ∷ ys) (map_twice cs)

    cut_twice : (xs : List (List ℕ)) → map (take (length block.aliases)) (map padded xs) ≡ map (λ x. rows_of_combo block (stamped 0 x)) xs
    cut_twice [] = refl
    cut_twice (x ∷ xs) = ap (λ ys. take (length block.aliases) (padded x) ∷ ys) (cut_twice xs)

-- no two matches have equal rows
equal_rows : (xs : List ℕ) → slice_cmp nat_cmp xs xs ≡ Equal
equal_rows [] = refl
equal_rows (x ∷ xs) =
    let same : nat_cmp x x ≡ Equal = grind (arith, nat_tests) in
    ap (λ (o : Ordering). ordering_then o (slice_cmp nat_cmp xs xs)) same ∙ equal_rows xs

apart : (x y : List ℕ) → IsBefore x y → x ≡ y → ⊥
apart x y h e = never (sym (subst (λ (z : List ℕ). slice_cmp nat_cmp x z ≡ Less) (sym e) h) ∙ equal_rows x)
  where
    never : Less ≡ Equal → ⊥
    never f = cc

-- the rows of what was found are the matches in another order, and so apart
apart_matches : (gives : ℕ → Value → Value → Truth) (block : Block) (tables : List Relation) → AreApart [] (bag gives block tables)
apart_matches gives block tables =
    AreApart-from_pairs [] (bag gives block tables) (λ i j low within same. apart (get_or (bag gives block tables) i []) (get_or (bag gives block tables) j [])
    (AllPairs-bag gives block tables i j [] low within) same)

pub apart_found : (gives : ℕ → Value → Value → Truth) (block : Block) (tables : List Relation) (combos : List Combo)
    → IsBagOf gives block tables combos → AllPairs (Differs block) combos
apart_found gives block tables combos moved = all
  where
    rows : List (List ℕ)
    rows = map (rows_of_combo block) combos

    spread : AreApart [] rows
    spread = AreApart-permutation [] (bag gives block tables) rows
        (IsPermutation-sym rows (bag gives block tables) (rows_found gives block tables combos moved)) (apart_matches gives block tables)

    all : AllPairs (Differs block) combos
    all i j d low within same =
        let long : length rows ≡ length combos = length-map combos (rows_of_combo block) in
        let ne : i ≢ j = λ (e : i ≡ j). omega (arith, low, e) in
        spread i j ne (omega (arith, long, low, within)) (omega (arith, long, within))
        (get_or-map (rows_of_combo block) combos i d [] (omega (arith, low, within)) ∙ same ∙ sym (get_or-map (rows_of_combo block) combos j d [] within))

-- and the answer's
pub answer_permutes : (gives : ℕ → Value → Value → Truth) (block : Block) (tables : List Relation) (combos : List Combo) → IsBagOf gives block tables combos
    → IsPermutation (map (rows_of_combo block) combos) (answer gives block tables)
answer_permutes gives block tables combos found =
    IsPermutation-trans (map (rows_of_combo block) combos) (bag gives block tables) (answer gives block tables) (rows_found gives block tables combos found)
    (IsAnswer-answer gives block tables (answer_order_total sorted_by_total block tables)).permutation

-- what was found, put in order, is the answer
pub answer_found : (gives : ℕ → Value → Value → Truth) (block : Block) (tables : List Relation) (combos sorted : List Combo)
    → IsBagOf gives block tables combos → IsPermutation combos sorted → Rises (answer_order block tables) (map (rows_of_combo block) sorted)
    → map (rows_of_combo block) sorted ≡ answer gives block tables
answer_found gives block tables combos sorted found moved rises =
    let given : List (List ℕ) = map (rows_of_combo block) combos in
    IsAnswer-only gives block tables (answer_order_total sorted_by_total block tables) (map (rows_of_combo block) sorted)
    (record {
      permutation = IsPermutation-trans (bag gives block tables) given (map (rows_of_combo block) sorted)
          (IsPermutation-sym given (bag gives block tables) (rows_found gives block tables combos found))
          (IsPermutation-map (rows_of_combo block) combos sorted moved);
      rises = rises;
    })

pub answer_sorted : {T E : Type 0} (items : T → List Combo) (r : Result T E) (gives : ℕ → Value → Value → Truth) (block : Block) (tables : List Relation)
    (combos : List Combo) → IsBagOf gives block tables combos → IfOk r (λ x. IsPermutation combos (items x))
    → IfOk r (λ x. Rises (answer_order block tables) (map (rows_of_combo block) (items x)))
    → IfOk r (λ x. map (rows_of_combo block) (items x) ≡ answer gives block tables)
answer_sorted items (Ok x) gives block tables combos e moved rises = answer_found gives block tables combos (items x) e moved rises
answer_sorted items (Err e) gives block tables combos f moved rises = tt

-- what was found, in the order of the product, is all matches
pub members_found : (gives : ℕ → Value → Value → Truth) (block : Block) (tables : List Relation) (combos : List Combo) → block.order ≡ []
    → IsBagOf gives block tables combos → in_product_order (map (rows_of_combo block) combos) ≡ bag gives block tables
members_found gives block tables combos none found =
    let rises : Rises (answer_order block tables) (bag gives block tables) =
    subst (λ (xs : List (List ℕ)). Rises (answer_order block tables) xs) (answer-unordered gives block tables none)
    (IsAnswer-answer gives block tables (answer_order_total sorted_by_total block tables)).rises in
    sym (product-order block tables none (map (rows_of_combo block) combos) (bag gives block tables)
    (rows-differ block combos (apart_found gives block tables combos found)) (rows_found gives block tables combos found) rises)

-- a block that fits can be put in order and written
pub shown_fit : (kinds : ℕ → Option Kinds) (tables : List Relation) (block : Block) → IsFit kinds tables block → IsShown block tables
shown_fit kinds tables block fit = record { few = fit.few_aliases; output = fit.output }

pub ordered_fit : (kinds : ℕ → Option Kinds) (tables : List Relation) (block : Block) → IsFit kinds tables block → IsOrdered block tables
ordered_fit kinds tables block fit = record { few = fit.few_aliases; order = fit.order }

-- ---- the text

-- a sink that is as it was shows what it showed
pub same_written : {S : Type 0} (old new : Sink S) → new ≡ old → new.written ≡ old.written
same_written {S} old new same = ap (λ (s : Sink S). s.written) same

pub same_faults : {S : Type 0} (old new : Sink S) → new ≡ old → new.faults ≡ old.faults
same_faults {S} old new same = ap (λ (s : Sink S). s.faults) same

-- a text that begins with one that isn't empty isn't, either
pub begun : (xs ys : List ℕ) → xs ≢ [] → xs ++ ys ≡ [] → ⊥
begun [] ys n f = n refl
begun (x ∷ xs) ys n f = cc

-- the text of an answer is never empty: its heading ends with a line feed
pub plain_text-some : (gives : ℕ → Value → Value → Truth) (item : Item) → plain_text gives item ≢ []
unfolding answer_text
plain_text-some gives item e =
    begun (row_text default_writer (heading_fields item.bound.block)) _ (row_text-some (heading_fields item.bound.block)) e

pub shaped_text-some : (gives : ℕ → Value → Value → Truth) (item : Item) (shape : Shape) → shaped_text gives item shape ≢ []
unfolding lines_text
shaped_text-some gives item shape e =
    let names : List (List ℕ) = map (λ (c : Cell). c.name) shape.cells in
    begun (row_text default_writer names) _ (row_text-some names) e

-- the text of an answer isn't empty
pub item_text-some : (gives : ℕ → Value → Value → Truth) (item : Item) → item_text gives item ≢ []
item_text-some gives item = by item.bound.shape
  where
    by : (shape : Option Shape) → text_by gives item shape ≢ []
    by None = plain_text-some gives item
    by (Some shape) = shaped_text-some gives item shape
