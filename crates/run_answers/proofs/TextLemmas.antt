-- The texts of all answers of a script, one behind another.
use Rattle.std.proofs.Common.{◌≡◌, ℕ, ◌+◌, Bool, List, [], ◌∷◌, ◌++◌, length, Result, Ok, Err, refl, sym, ◌∙◌, ap, subst, arith, append-nil}
use Rattle.std.specs.List.{flat_map}
use Rattle.std.proofs.lemmas.List.Concat.{flat_map-cons}
use Rattle.sq_value.specs.declared.value.Value.{Value}
use Rattle.sq_value.specs.declared.value.Truth.{Truth}
use Rattle.run_answers.specs.Answering.{Answers, AnswersOne}
use Rattle.run_answers.specs.Text.{item_text, behind_line, text_of}
use Rattle.run_base.specs.Items.{Item}
use Rattle.run_base.specs.Seen.{Outputs}
use Rattle.run_answers.specs.Tally.{IsTally}
use Rattle.run_answers.specs.declared.stopping.Stop.{Stop}
use Rattle.run_answers.proofs.ProgressLemmas.{AreTexts, answers_nothing, answers_single, answers_halted, answers_after, answers_of}

-- what predicates give
abbrev Gives : Type 0
Gives = ℕ → Value → Value → Truth

-- the texts behind the first
pub texts_behind : (gives : Gives) → AreTexts (λ n. behind_line gives) (λ n. flat_map (behind_line gives))
texts_behind gives = record { none = λ n. refl; more = λ n b bs. flat_map-cons (behind_line gives) b bs }

text_of-first : (gives : Gives) (b : Item) → text_of gives (b ∷ []) ≡ item_text gives b
unfolding text_of
text_of-first gives b = append-nil (item_text gives b)

text_of-behind : (gives : Gives) (b : Item) (zs : List Item)
    → text_of gives (b ∷ zs) ≡ item_text gives b ++ flat_map (behind_line gives) zs
unfolding text_of
text_of-behind gives b zs = refl

pub answers_none : {room : ℕ} {O N : Type 0} (tally : Bool) (gives : Gives) (items : List Item) (old : Outputs O N) → length items ≡ 0
    → Answers tally (IsTally room gives) 1 items (text_of gives) old old (Ok tt)
unfolding text_of
answers_none {room} tally gives [] old e = answers_nothing tally (IsTally room gives) 1 (text_of gives) old refl
answers_none {room} tally gives (b ∷ bs) old e = absurd (omega (arith, e))

-- the first statement, and those behind it
pub answers_all : {room : ℕ} {O N : Type 0} (tally : Bool) (gives : Gives) (items : List Item) (b : Item) (bs : List Item)
    (old mid new : Outputs O N) (q r : Result (Unit {0}) Stop) → items ≡ b ∷ bs → q ≡ Ok tt
    → AnswersOne tally (IsTally room gives) 1 b (item_text gives b) old mid q
    → Answers tally (IsTally room gives) 2 bs (flat_map (behind_line gives)) mid new r
    → Answers tally (IsTally room gives) 1 items (text_of gives) old new r
answers_all {room} tally gives items b bs old mid new q r e ok first more =
    let number : 2 ≡ 1 + length (b ∷ []) = omega arith in
    let given : AnswersOne tally (IsTally room gives) 1 b (item_text gives b) old mid (Ok tt) =
    subst (λ (x : Result (Unit {0}) Stop). AnswersOne tally (IsTally room gives) 1 b (item_text gives b) old mid x) ok first in
    answers_of tally (IsTally room gives) 1 (b ∷ bs) items (text_of gives) old new r (sym e)
    (answers_after tally (IsTally room gives) 1 (b ∷ []) bs (text_of gives) (text_of gives) (flat_map (behind_line gives))
    old mid new r
    (λ zs. text_of-behind gives b zs ∙ ap (λ (z : List ℕ). z ++ flat_map (behind_line gives) zs) (sym (text_of-first gives b))) refl
    (answers_single tally (IsTally room gives) 1 b (text_of gives) (item_text gives b) old mid (text_of-first gives b) given)
    (subst (λ (n : ℕ). Answers tally (IsTally room gives) n bs (flat_map (behind_line gives)) mid new r) number more))

pub answers_first : {room : ℕ} {O N : Type 0} (tally : Bool) (gives : Gives) (items : List Item) (b : Item) (bs : List Item)
    (old new : Outputs O N) (q : Result (Unit {0}) Stop) (y : Stop) → items ≡ b ∷ bs → q ≡ Err y
    → AnswersOne tally (IsTally room gives) 1 b (item_text gives b) old new q
    → Answers tally (IsTally room gives) 1 items (text_of gives) old new (Err y)
answers_first {room} tally gives items b bs old new q y e stopped first =
    let given : AnswersOne tally (IsTally room gives) 1 b (item_text gives b) old new (Err y) =
    subst (λ (x : Result (Unit {0}) Stop). AnswersOne tally (IsTally room gives) 1 b (item_text gives b) old new x) stopped first in
    answers_of tally (IsTally room gives) 1 (b ∷ bs) items (text_of gives) old new (Err y) (sym e)
    (answers_halted tally (IsTally room gives) 1 b bs (text_of gives) (item_text gives b) (flat_map (behind_line gives) bs)
    old new y (text_of-first gives b) (text_of-behind gives b bs) given)
