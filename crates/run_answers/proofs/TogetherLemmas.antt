-- For the proofs: statements that run together, from what a shared eddy found for them to their texts and their line.
use Rattle.std.proofs.Common.{◌≡◌, ◌≢◌, ℕ, zero, suc, ◌+◌, ◌<◌, ◌≤◌, ◌==◌, Bool, true, false, cond, List, [], ◌∷◌, ◌++◌, length, map, take, drop, reverse, get_or, slice_get, Option, Some, None, Result, Ok, Err, refl, sym, ◌∙◌, ap, subst, arith, append-nil, append_assoc}
use Rattle.std.specs.Prelude.{All, option_map}
use Rattle.std.specs.List.{flat_map}
use Rattle.std.proofs.lemmas.Bool.Decides.{nat_tests}
use Rattle.std.proofs.lemmas.List.{length-map, map-append, reverse-append, take_all}
use Rattle.std.proofs.lemmas.List.Concat.{flat_map-cons}
use Rattle.std.proofs.lemmas.List.Elements.{All-nil, All-cons, All-head, All-tail}
use Rattle.std.proofs.lemmas.Option.{slice_get-get_or, slice_get-map}
use Rattle.sq_value.specs.Relation.{Relation}
use Rattle.sq_value.specs.declared.value.Value.{Value}
use Rattle.sq_value.specs.declared.value.Truth.{Truth}
use Rattle.sq_value.specs.declared.predicate.Kinds.{Kinds}
use Rattle.sq_expr.specs.Fits.{IsFit}
use Rattle.sq_expr.specs.declared.block.Block.{Block}
use Rattle.sq_expr.specs.declared.shape.Shape.{Shape}
use Rattle.bag_meaning.specs.declared.combo.Combo.{Combo}
use Rattle.eddy_runs.specs.Complete.{IsBagOf}
use Rattle.shared_meaning.specs.Answer.{IsSharedRecord}
use Rattle.shared_meaning.specs.declared.built.TableBuilt.{TableBuilt}
use Rattle.run_base.specs.Items.{Item, item_over, items_over}
use Rattle.run_base.specs.Runnable.{IsRunnable}
use Rattle.run_base.specs.Seen.{Outputs, Sink}
use Rattle.run_base.specs.declared.bound.Bound.{Bound}
use Rattle.run_answers.specs.Answering.{Answers, AnswersOne, IsLineFor, PutBoth, line_bytes}
use Rattle.run_answers.specs.Lines.{IsLine}
use Rattle.run_answers.specs.Summary.{count_text, count_texts, record_of, summary}
use Rattle.run_answers.specs.Text.{bound_as, answer_rows, item_text, behind_line, text_of}
use Rattle.run_answers.specs.Joint.{AreBags, IsFoundTogether, bounds_from, lead_of, line_wanted, text_at}
use Rattle.run_answers.specs.Together.{AreAnswered, IsSharedTally, blocks_in, blocks_of, in_bundles, shared_line}
use Rattle.run_answers.specs.Wrote.{Put}
use Rattle.run_answers.specs.declared.stopping.Stop.{Stop}
use Rattle.run_answers.specs.declared.stopping.Stop.TheVariants as stop
use Rattle.run_answers.proofs.AnswerLemmas.{answer_permutes, begun, item_text-some}
use Rattle.run_answers.proofs.CountLemmas.{found_count, texts_counted}
use Rattle.run_answers.proofs.ItemLemmas.{item_within, item_at}
use Rattle.run_answers.proofs.ProgressLemmas.{AreTexts, answers_single, answers_halted}
use Rattle.run_answers.proofs.PutLemmas.{put_equal, put_next, put_stopped}
use Rattle.run_answers.proofs.TallyLemmas.{one_put, one_unfound}

-- what predicates give
abbrev Gives : Type 0
Gives = ℕ → Value → Value → Truth

-- ---- statements apart

-- one more was taken from the end of a list, and put to the end of another
pub taken_one : {X Y : Type 0} (f : X → Y) (left rest : List X) (made now : List Y) (x : X) → left ≡ rest ++ x ∷ [] → now ≡ made ++ f x ∷ []
    → map f rest ++ reverse now ≡ map f left ++ reverse made
taken_one {X} {Y} f left rest made now x is more =
    ap (λ (l : List Y). map f rest ++ reverse l) more
    ∙ ap (λ (l : List Y). map f rest ++ l) (reverse-append made (f x ∷ []))
    ∙ sym (append_assoc (map f rest) (f x ∷ []) (reverse made))
    ∙ ap (λ (l : List Y). l ++ reverse made) (sym (ap (map f) is ∙ map-append f rest (x ∷ [])))

-- nothing is left
pub taken_all : {X Y : Type 0} (f : X → Y) (left all : List X) (made turned : List Y) → left ≡ [] → turned ≡ reverse made
    → map f left ++ reverse made ≡ map f all → turned ≡ map f all
taken_all {X} {Y} f left all made turned none is h =
    is ∙ sym (ap (λ (l : List X). map f l ++ reverse made) none) ∙ h

-- blocks and shapes of statements are these statements
pub joined_apart : (bounds : List Bound) → bounds_from (blocks_in bounds) (map (λ (b : Bound). b.shape) bounds) ≡ bounds
joined_apart [] = refl
joined_apart (b ∷ bs) = ap (λ (l : List Bound). b ∷ l) (joined_apart bs)

pub joined_long : (blocks : List Block) (shapes : List (Option Shape)) → length shapes ≡ length blocks → length (bounds_from blocks shapes) ≡ length blocks
joined_long [] shapes e = refl
joined_long (b ∷ bs) [] e = absurd (omega (arith, e))
joined_long (b ∷ bs) (s ∷ ss) e =
    let short : length ss ≡ length bs = omega (arith, e) in
    let h = joined_long bs ss short in omega (arith, h)

-- the statement at a place
pub joined_at : (blocks : List Block) (shapes : List (Option Shape)) (i : ℕ) (block : Block) (shape : Option Shape) → length shapes ≡ length blocks
    → i < length blocks → block ≡ get_or blocks i block → shape ≡ get_or shapes i shape
    → bound_as block shape ≡ get_or (bounds_from blocks shapes) i (bound_as block shape)
joined_at [] shapes i block shape e within b s = absurd (omega (arith, within))
joined_at (x ∷ xs) [] i block shape e within b s = absurd (omega (arith, e))
joined_at (x ∷ xs) (y ∷ ys) zero block shape e within b s = ap (λ (z : Block). bound_as z shape) b ∙ ap (bound_as x) s
joined_at (x ∷ xs) (y ∷ ys) (suc i) block shape e within b s =
    let short : length ys ≡ length xs = omega (arith, e) in
    let less : i < length xs = omega (arith, within) in joined_at xs ys i block shape short less b s

pub joined_is : (blocks : List Block) (shapes : List (Option Shape)) (bounds : List Bound) → blocks ≡ blocks_in bounds
    → shapes ≡ map (λ (b : Bound). b.shape) bounds → bounds_from blocks shapes ≡ bounds
joined_is blocks shapes bounds b s =
    ap (λ (l : List Block). bounds_from l shapes) b ∙ ap (bounds_from (blocks_in bounds)) s ∙ joined_apart bounds

pub joined_even : (blocks : List Block) (shapes : List (Option Shape)) (bounds : List Bound) → blocks ≡ blocks_in bounds
    → shapes ≡ map (λ (b : Bound). b.shape) bounds → length shapes ≡ length blocks
joined_even blocks shapes bounds b s =
    ap length s ∙ length-map bounds (λ (b : Bound). b.shape) ∙ sym (ap length b ∙ length-map bounds (λ (b : Bound). b.block))

-- statements that can be run have blocks that fit
pub fits_in : (kinds : ℕ → Option Kinds) (tables : List Relation) (bounds : List Bound) → All (IsRunnable kinds tables) bounds
    → All (IsFit kinds tables) (blocks_in bounds)
fits_in kinds tables [] h = All-nil (IsFit kinds tables)
fits_in kinds tables (b ∷ bs) h =
    All-cons (IsFit kinds tables) b.block (blocks_in bs) (All-head (IsRunnable kinds tables) b bs h).fits
    (fits_in kinds tables bs (All-tail (IsRunnable kinds tables) b bs h))

-- ---- what was found

blocks_over : (tables : List Relation) (bounds : List Bound) → blocks_of (items_over tables bounds) ≡ blocks_in bounds
blocks_over tables [] = refl
blocks_over tables (b ∷ bs) = ap (λ (l : List Block). b.block ∷ l) (blocks_over tables bs)

all_over : (tables : List Relation) (bounds : List Bound) → All (λ (item : Item). item.tables ≡ tables) (items_over tables bounds)
all_over tables [] = All-nil (λ (item : Item). item.tables ≡ tables)
all_over tables (b ∷ bs) =
    All-cons (λ (item : Item). item.tables ≡ tables) (item_over tables b) (items_over tables bs) refl (all_over tables bs)

-- a shared run finds the bag of each statement
pub bags_of : (gives : Gives) (tables : List Relation) (bounds : List Bound) (founds : List (List Combo)) (built : List TableBuilt) (hops : ℕ)
    → IsSharedRecord gives tables (blocks_in bounds) founds built hops → AreBags gives (items_over tables bounds) founds
bags_of gives tables bounds founds built hops r = record {
  long = r.found.long ∙ length-map bounds (λ (b : Bound). b.block) ∙ sym (length-map bounds (item_over tables));
  each = λ j item combos e f. by j item combos f (slice_get bounds j) refl (sym (slice_get-map (item_over tables) bounds j) ∙ e);
}
  where
    some_is : (x y : Item) → ◌≡◌ {A = Option Item} (Some x) (Some y) → x ≡ y
    some_is x y e = cc

    by : (j : ℕ) (item : Item) (combos : List Combo) → slice_get founds j ≡ Some combos → (o : Option Bound) → slice_get bounds j ≡ o
        → option_map (item_over tables) o ≡ Some item → IsBagOf gives item.bound.block item.tables combos
    by j item combos f None e g = absurd cc
    by j item combos f (Some b) e g =
        subst (λ (x : Item). IsBagOf gives x.bound.block x.tables combos) (some_is (item_over tables b) item g)
        (r.found.each j b.block combos (slice_get-map (λ (x : Bound). x.block) bounds j ∙ ap (option_map (λ (x : Bound). x.block)) e) f).bag

-- and so the rows of its answer
answered_of : (gives : Gives) (items : List Item) (founds : List (List Combo)) → AreBags gives items founds → AreAnswered gives items founds
answered_of gives items founds h = record {
  long = h.long;
  each = λ j item combos e f. answer_permutes gives item.bound.block item.tables combos (h.each j item combos e f);
}

pub found_bags : (tally : Bool) (gives : Gives) (tables : List Relation) (blocks : List Block) (bounds : List Bound) (founds : List (List Combo))
    (line : Option (List ℕ)) → blocks ≡ blocks_in bounds → IsFoundTogether tally gives tables blocks founds line
    → AreBags gives (items_over tables bounds) founds
found_bags tally gives tables blocks bounds founds line e h =
    bags_of gives tables bounds founds h.built h.hops
    (subst (λ (bs : List Block). IsSharedRecord gives tables bs founds h.built h.hops) e h.recorded)

-- the line is right for all of them
pub line_for_all : (tally : Bool) (gives : Gives) (tables : List Relation) (blocks : List Block) (bounds : List Bound) (founds : List (List Combo))
    (line : Option (List ℕ)) → blocks ≡ blocks_in bounds → IsFoundTogether tally gives tables blocks founds line
    → IsLineFor tally (IsSharedTally gives) 1 (items_over tables bounds) line
line_for_all tally gives tables blocks bounds founds line e h = by tally h.told
  where
    items : List Item
    items = items_over tables bounds

    recorded : IsSharedRecord gives tables (blocks_of items) founds h.built h.hops
    recorded = subst (λ (bs : List Block). IsSharedRecord gives tables bs founds h.built h.hops) (e ∙ sym (blocks_over tables bounds)) h.recorded

    by : (t : Bool) → line ≡ line_wanted t (length h.built) h.hops → IsLineFor t (IsSharedTally gives) 1 items line
    by true told = record {
      right = record {
        tables = tables;
        over = all_over tables bounds;
        founds = founds;
        built = h.built;
        hops = h.hops;
        recorded = recorded;
        answered = answered_of gives items founds (found_bags tally gives tables blocks bounds founds line e h);
        is = ap line_bytes told;
      };
      none = λ q. absurd cc;
    }
    by false told = record { right = ap line_bytes told; none = λ q. told }

-- ---- the texts

-- the texts of the answers of statements, the first of them at a place
abbrev pub texts_from : Gives → ℕ → List Item → List ℕ
texts_from gives at [] = []
texts_from gives at (item ∷ more) = text_at gives at item ++ texts_from gives (at + 1) more

pub texts_at : (gives : Gives) → AreTexts (text_at gives) (texts_from gives)
texts_at gives = record { none = λ n. refl; more = λ n b bs. refl }

lead-behind : (at : ℕ) → at ≢ 0 → 10 ∷ [] ≡ lead_of at
lead-behind at n =
    let more : (at == 0) ≡ false = grind (arith, nat_tests) in sym (ap (λ (b : Bool). cond b [] (10 ∷ [])) more)

text_at-behind : (gives : Gives) (at : ℕ) (item : Item) → text_at gives (at + 1) item ≡ behind_line gives item
text_at-behind gives at item =
    let some : at + 1 ≢ 0 = λ e. omega (arith, e) in ap (λ (l : List ℕ). l ++ item_text gives item) (sym (lead-behind (at + 1) some))

texts_from-behind : (gives : Gives) (at : ℕ) (items : List Item) → texts_from gives (at + 1) items ≡ flat_map (behind_line gives) items
texts_from-behind gives at [] = refl
texts_from-behind gives at (item ∷ more) =
    ap (λ (l : List ℕ). l ++ texts_from gives ((at + 1) + 1) more) (text_at-behind gives at item)
    ∙ ap (λ (l : List ℕ). behind_line gives item ++ l) (texts_from-behind gives (at + 1) more)
    ∙ sym (flat_map-cons (behind_line gives) item more)

pub texts_of : (gives : Gives) (items : List Item) → texts_from gives 0 items ≡ text_of gives items
unfolding text_of
texts_of gives [] = refl
texts_of gives (item ∷ more) = ap (λ (l : List ℕ). item_text gives item ++ l) (texts_from-behind gives 0 more)

pub text_of-some : (gives : Gives) (tables : List Relation) (bounds : List Bound) → 0 < length (blocks_in bounds) → text_of gives (items_over tables bounds) ≢ []
unfolding text_of
text_of-some gives tables [] some = absurd (omega (arith, some))
text_of-some gives tables (b ∷ bs) some =
    begun (item_text gives (item_over tables b)) (flat_map (behind_line gives) (items_over tables bs)) (item_text-some gives (item_over tables b))

pub summary-some : (gives : Gives) (items : List Item) → summary gives items ≢ []
summary-some gives items e = absurd cc

-- ---- all statements as one bundle

pub in_one : (items : List Item) → in_bundles (items ∷ []) ≡ items
in_one items = flat_map-cons (λ (bundle : List Item). bundle) items [] ∙ append-nil items

-- the answers of a bundle that was put with its line
pub answers_whole : {O N : Type 0} (tally : Bool) (gives : Gives) (items : List Item) (text : List Item → List ℕ) (old new : Outputs O N)
    (r : Result (Unit {0}) Stop) → AnswersOne tally (IsSharedTally gives) 1 items (text items) old new r
    → Answers tally (IsSharedTally gives) 1 (items ∷ []) (λ bundles. text (in_bundles bundles)) old new r
answers_whole tally gives items text old new (Ok x) o =
    answers_single tally (IsSharedTally gives) 1 items (λ bundles. text (in_bundles bundles)) (text items) old new (ap text (in_one items)) o
answers_whole tally gives items text old new (Err y) o =
    answers_halted tally (IsSharedTally gives) 1 items [] (λ bundles. text (in_bundles bundles)) (text items) [] old new y (ap text (in_one items))
    (ap text (in_one items) ∙ sym (append-nil (text items))) o

-- the answers of statements that were taken apart
pub answers_apart : {O N : Type 0} (tally : Bool) (gives : Gives) (tables : List Relation) (same bounds : List Bound) (text : List Item → List ℕ)
    (line : Option (List ℕ)) (old new : Outputs O N) (r : Result (Unit {0}) Stop) → same ≡ bounds
    → IsLineFor tally (IsSharedTally gives) 1 (items_over tables bounds) line → PutBoth (text (items_over tables same)) line old new r
    → Answers tally (IsSharedTally gives) 1 (items_over tables bounds ∷ []) (λ bundles. text (in_bundles bundles)) old new r
answers_apart tally gives tables same bounds text line old new r e right put =
    answers_whole tally gives (items_over tables bounds) text old new r
    (one_put tally (IsSharedTally gives) 1 (items_over tables bounds) (text (items_over tables same)) (text (items_over tables bounds)) line old new r
    (ap (λ (bs : List Bound). text (items_over tables bs)) e) right put)

-- want of memory, before anything was put
pub answers_unfound : {O N : Type 0} (tally : Bool) (gives : Gives) (items : List Item) (text : List Item → List ℕ) (old : Outputs O N) → text items ≢ []
    → Answers tally (IsSharedTally gives) 1 (items ∷ []) (λ bundles. text (in_bundles bundles)) old old (Err stop.Memory)
answers_unfound tally gives items text old some =
    answers_whole tally gives items text old old (Err stop.Memory) (one_unfound tally (IsSharedTally gives) 1 items (text items) old some)

-- ---- what is left of what was found

-- the next of what is left
pub left_get : {X : Type 0} (xs : List X) (i : ℕ) (x : X) (rest : List X) → drop i xs ≡ x ∷ rest → slice_get xs i ≡ Some x
left_get [] zero x rest e = absurd cc
left_get [] (suc i) x rest e = absurd cc
left_get (y ∷ xs) zero x rest e = let same : y ≡ x = cc in ap Some same
left_get (y ∷ xs) (suc i) x rest e = left_get xs i x rest e

pub left_next : {X : Type 0} (xs : List X) (i : ℕ) (x : X) (rest : List X) → drop i xs ≡ x ∷ rest → drop (i + 1) xs ≡ rest
left_next [] zero x rest e = absurd cc
left_next [] (suc i) x rest e = absurd cc
left_next (y ∷ xs) zero x rest e = cc
left_next {X} (y ∷ xs) (suc i) x rest e =
    let same : suc (i + 1) ≡ suc i + 1 = omega arith in
    subst (λ (n : ℕ). drop n (y ∷ xs) ≡ rest) same (left_next xs i x rest e)

-- the item at a place, as what is read of it
pub item_read : (tables : List Relation) (blocks : List Block) (shapes : List (Option Shape)) (i : ℕ) (block : Block) (shape : Option Shape)
    → length shapes ≡ length blocks → i < length blocks → block ≡ get_or blocks i block → shape ≡ get_or shapes i shape
    → item_over tables (bound_as block shape) ≡ get_or (items_over tables (bounds_from blocks shapes)) i (item_over tables (bound_as block shape))
item_read tables blocks shapes i block shape e within b s =
    let long = joined_long blocks shapes e in
    item_at tables (bounds_from blocks shapes) i (bound_as block shape) (omega (arith, long, within)) (joined_at blocks shapes i block shape e within b s)

-- it is among the items
pub item_there : (tables : List Relation) (blocks : List Block) (shapes : List (Option Shape)) (i : ℕ) → length shapes ≡ length blocks → i < length blocks
    → i < length (items_over tables (bounds_from blocks shapes))
item_there tables blocks shapes i e within =
    let long = joined_long blocks shapes e in item_within tables (bounds_from blocks shapes) i (omega (arith, long, within))

-- what holds of all statements holds of the one at a place
pub runnable_read : (kinds : ℕ → Option Kinds) (tables : List Relation) (blocks : List Block) (shapes : List (Option Shape)) (i : ℕ) (block : Block)
    (shape : Option Shape) → All (IsRunnable kinds tables) (bounds_from blocks shapes) → length shapes ≡ length blocks → i < length blocks
    → block ≡ get_or blocks i block → shape ≡ get_or shapes i shape → IsRunnable kinds tables (bound_as block shape)
runnable_read kinds tables blocks shapes i block shape all e within b s =
    let long = joined_long blocks shapes e in
    subst (IsRunnable kinds tables) (sym (joined_at blocks shapes i block shape e within b s)) (all i (bound_as block shape) (omega (arith, long, within)))

-- and the bag of what is found for it
pub bag_read : {X : Type 0} (combos : X → List Combo) (gives : Gives) (tables : List Relation) (blocks : List Block) (shapes : List (Option Shape)) (founds rest : List X)
    (i : ℕ) (block : Block) (shape : Option Shape) (one : X) → AreBags gives (items_over tables (bounds_from blocks shapes)) (map combos founds) → length shapes ≡ length blocks
    → i < length blocks → block ≡ get_or blocks i block → shape ≡ get_or shapes i shape → drop i founds ≡ one ∷ rest
    → IsBagOf gives block tables (combos one)
bag_read combos gives tables blocks shapes founds rest i block shape one bags e within b s left =
    let items : List Item = items_over tables (bounds_from blocks shapes) in
    let item : Item = item_over tables (bound_as block shape) in
    bags.each i item (combos one)
    (slice_get-get_or items i item (item_there tables blocks shapes i e within) ∙ ap Some (sym (item_read tables blocks shapes i block shape e within b s)))
    (slice_get-map combos founds i ∙ ap (option_map combos) (left_get founds i one rest left))

-- the rows of what is found for it are as many as its answer has
pub count_read : {X : Type 0} (combos : X → List Combo) (gives : Gives) (items : List Item) (founds : List X) (i : ℕ) (one : X) (item : Item)
    → AreBags gives items (map combos founds) → i < length founds → one ≡ get_or founds i one → item ≡ get_or items i item
    → length (combos one) ≡ length (answer_rows gives item)
count_read combos gives items founds i one item bags within is at =
    let long = bags.long in
    let more = length-map founds combos in
    found_count gives item (combos one)
    (bags.each i item (combos one) (slice_get-get_or items i item (omega (arith, long, more, within)) ∙ ap Some (sym at))
    (slice_get-map combos founds i ∙ ap (option_map combos) (slice_get-get_or founds i one within ∙ ap Some (sym is))))

-- what comes before the answer at a place
pub lead_none : (at : ℕ) → at ≡ 0 → [] ≡ lead_of at
lead_none at e = ap lead_of (sym e)

pub lead_line : (at : ℕ) → at ≢ 0 → 10 ∷ [] ≡ lead_of at
lead_line at n = lead-behind at n

-- the element at a place
some_at : {X : Type 0} (xs : List X) (i : ℕ) → i < length xs → (x : X) × (x ≡ get_or xs i x)
some_at [] i h = absurd (omega (arith, h))
some_at (x ∷ xs) zero h = (x, refl)
some_at (x ∷ xs) (suc i) h = some_at xs i (omega (arith, h))

-- a place of what was found is one of a statement
pub found_within : (gives : Gives) (tables : List Relation) (blocks : List Block) (shapes : List (Option Shape)) (founds : List (List Combo)) (at : ℕ)
    → AreBags gives (items_over tables (bounds_from blocks shapes)) founds → length shapes ≡ length blocks → at < length founds → at < length blocks
found_within gives tables blocks shapes founds at bags e h =
    let long = bags.long in
    let items = length-map (bounds_from blocks shapes) (item_over tables) in
    let same = joined_long blocks shapes e in omega (arith, long, items, same, h)

-- ---- the records, put one behind another

record_read : {X : Type 0} {S : Type 0} (combos : X → List Combo) (gives : Gives) (items : List Item) (founds : List X) (i rows : ℕ) (one : X) (item : Item)
    (old new : Sink S) (r : Result (Unit {0}) Stop) → AreBags gives items (map combos founds) → i < length founds → one ≡ get_or founds i one
    → rows ≡ length (combos one) → item ≡ get_or items i item → Put (record_of (1 + i) rows) old new r → Put (count_text gives (1 + i) item) old new r
record_read combos gives items founds i rows one item old new r bags within is count at put =
    put_equal (record_of (1 + i) rows) (count_text gives (1 + i) item) old new r
    (ap (record_of (1 + i)) (count ∙ count_read combos gives items founds i one item bags within is at)) put

items_within : {X : Type 0} (combos : X → List Combo) (gives : Gives) (items : List Item) (founds : List X) (i : ℕ) → AreBags gives items (map combos founds)
    → i < length founds → i < length items
items_within combos gives items founds i bags within =
    let long = bags.long in
    let same = length-map founds combos in omega (arith, long, same, within)

pub records_next : {X : Type 0} {S : Type 0} (combos : X → List Combo) (gives : Gives) (items : List Item) (founds : List X) (i rows : ℕ) (one : X)
    (old mid new : Sink S) (r : Result (Unit {0}) Stop) → AreBags gives items (map combos founds) → i < length founds → one ≡ get_or founds i one
    → rows ≡ length (combos one) → Put (count_texts gives 1 (take i items)) old mid (Ok tt) → Put (record_of (1 + i) rows) mid new r → r ≡ Ok tt
    → Put (count_texts gives 1 (take (i + 1) items)) old new (Ok tt)
records_next combos gives items founds i rows one old mid new r bags within is count a b e =
    let there = items_within combos gives items founds i bags within in
    let at = some_at items i there in
    put_next 1 (count_text gives) (count_texts gives) items i at.0 old mid new r (texts_counted gives) there at.1 a
    (record_read combos gives items founds i rows one at.0 mid new r bags within is count at.1 b) e

pub records_stopped : {X : Type 0} {S : Type 0} (combos : X → List Combo) (gives : Gives) (items : List Item) (founds : List X) (i rows : ℕ) (one : X)
    (old mid new : Sink S) (r : Result (Unit {0}) Stop) (y : Stop) → AreBags gives items (map combos founds) → i < length founds → one ≡ get_or founds i one
    → rows ≡ length (combos one) → Put (count_texts gives 1 (take i items)) old mid (Ok tt) → Put (record_of (1 + i) rows) mid new r → r ≡ Err y
    → Put (count_texts gives 1 items) old new (Err y)
records_stopped combos gives items founds i rows one old mid new r y bags within is count a b e =
    let there = items_within combos gives items founds i bags within in
    let at = some_at items i there in
    put_stopped 1 (count_text gives) (count_texts gives) items i at.0 old mid new r y (texts_counted gives) there at.1 a
    (record_read combos gives items founds i rows one at.0 mid new r bags within is count at.1 b) e

pub records_every : {X : Type 0} {S : Type 0} (combos : X → List Combo) (gives : Gives) (items : List Item) (founds : List X) (i : ℕ) (old new : Sink S)
    → AreBags gives items (map combos founds) → length founds ≤ i → Put (count_texts gives 1 (take i items)) old new (Ok tt)
    → Put (count_texts gives 1 items) old new (Ok tt)
records_every combos gives items founds i old new bags past a =
    let long = bags.long in
    let same = length-map founds combos in
    put_equal (count_texts gives 1 (take i items)) (count_texts gives 1 items) old new (Ok tt)
    (ap (count_texts gives 1) (take_all i items (omega (arith, long, same, past)))) a

-- ---- the texts, put one behind another

-- one text more
pub put_one_more : {S : Type 0} (gives : Gives) (items : List Item) (at : ℕ) (item : Item) (old mid new : Sink S) (r : Result (Unit {0}) Stop)
    → at < length items → item ≡ get_or items at item → Put (texts_from gives 0 (take at items)) old mid (Ok tt)
    → Put (text_at gives at item) mid new r → r ≡ Ok tt → Put (texts_from gives 0 (take (at + 1) items)) old new (Ok tt)
put_one_more gives items at item old mid new r within is a b e =
    let same : at ≡ 0 + at = omega arith in
    put_next 0 (text_at gives) (texts_from gives) items at item old mid new r (texts_at gives) within is a
    (subst (λ (n : ℕ). Put (text_at gives n item) mid new r) same b) e

-- a text that wasn't put whole
pub put_no_more : {S : Type 0} (gives : Gives) (items : List Item) (at : ℕ) (item : Item) (old mid new : Sink S) (r : Result (Unit {0}) Stop) (y : Stop)
    → at < length items → item ≡ get_or items at item → Put (texts_from gives 0 (take at items)) old mid (Ok tt)
    → Put (text_at gives at item) mid new r → r ≡ Err y → Put (text_of gives items) old new (Err y)
put_no_more gives items at item old mid new r y within is a b e =
    let same : at ≡ 0 + at = omega arith in
    put_equal (texts_from gives 0 items) (text_of gives items) old new (Err y) (texts_of gives items)
    (put_stopped 0 (text_at gives) (texts_from gives) items at item old mid new r y (texts_at gives) within is a
    (subst (λ (n : ℕ). Put (text_at gives n item) mid new r) same b) e)

-- all texts
pub put_every : {S : Type 0} (gives : Gives) (items : List Item) (at : ℕ) (old new : Sink S) → length items ≤ at
    → Put (texts_from gives 0 (take at items)) old new (Ok tt) → Put (text_of gives items) old new (Ok tt)
put_every gives items at old new past a =
    put_equal (texts_from gives 0 (take at items)) (text_of gives items) old new (Ok tt)
    (ap (texts_from gives 0) (take_all at items past) ∙ texts_of gives items) a
