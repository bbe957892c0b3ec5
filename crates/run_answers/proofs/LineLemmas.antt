-- Lines of counts, one behind another.
use Rattle.std.proofs.Common.{◌≡◌, ℕ, ◌+◌, Bool, false, List, [], ◌∷◌, ◌++◌, length, refl, sym, ◌∙◌, ap, subst, arith, append-nil, append_assoc}
use Rattle.run_answers.specs.Lines.{AreLines, IsLine}

module _ {A : Type 0} where
  pub AreLines-none : (tally : Bool) (IsRight : ℕ → A → List ℕ → Type 0) (number : ℕ) → AreLines tally IsRight number [] []
  unfolding AreLines
  AreLines-none tally IsRight number = refl

  pub AreLines-one : (tally : Bool) (IsRight : ℕ → A → List ℕ → Type 0) (number : ℕ) (block : A) (line : List ℕ) → IsLine tally IsRight number block line
      → AreLines tally IsRight number (block ∷ []) line
  unfolding AreLines
  AreLines-one tally IsRight number block line h = (line, [], h, refl, sym (append-nil line))

  pub AreLines-append : (tally : Bool) (IsRight : ℕ → A → List ℕ → Type 0) (number : ℕ) (xs ys : List A) (first second : List ℕ)
      → AreLines tally IsRight number xs first → AreLines tally IsRight (number + length xs) ys second
      → AreLines tally IsRight number (xs ++ ys) (first ++ second)
  unfolding AreLines
  AreLines-append tally IsRight number [] ys first second h k =
      let same : number + length {A = A} [] ≡ number = omega arith in
      subst (λ (l : List ℕ). AreLines tally IsRight number ys (l ++ second)) (sym h)
      (subst (λ (n : ℕ). AreLines tally IsRight n ys second) same k)
  AreLines-append tally IsRight number (x ∷ xs) ys first second h k =
      let same : number + length (x ∷ xs) ≡ (number + 1) + length xs = omega arith in (
        h.0,
        h.1 ++ second,
        h.2,
        AreLines-append tally IsRight (number + 1) xs ys h.1 second h.3 (subst (λ (n : ℕ). AreLines tally IsRight n ys second) same k),
        ap (λ (l : List ℕ). l ++ second) h.4 ∙ append_assoc h.0 h.1 second,
      )

  -- where no lines are wanted there are none
  pub lines_none : (IsRight : ℕ → A → List ℕ → Type 0) (number : ℕ) (blocks : List A) (lines : List ℕ)
      → AreLines false IsRight number blocks lines → lines ≡ []
  unfolding AreLines
  lines_none IsRight number [] lines h = h
  lines_none IsRight number (x ∷ xs) lines h = h.4 ∙ ap (λ (l : List ℕ). l ++ h.1) h.2 ∙ lines_none IsRight (number + 1) xs h.1 h.3
