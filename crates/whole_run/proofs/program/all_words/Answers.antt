use Rattle.std.proofs.Common.{◌≡◌, ◌∷◌, [], ◌++◌, List, length, refl, sym, ap, ◌∙◌, append_assoc, append-nil, arith, String, Global}
use Rattle.std.specs.Vec.Iter.{into_iter_items}
use Rattle.whole_run.proofs.program.all_words.Goals as goal

nothing_left : {X : Type 0} (l : List X) → length l ≡ 0 → l ≡ []
nothing_left [] h = refl
nothing_left (x ∷ xs) h = absurd (omega arith)

pub loop-word-preserved : goal.loop-word-preserved
loop-word-preserved c =
    let at = c.loop-word in
    let x = c.in-Some.word in
    let rest = into_iter_items c.next.new.self in
    let steps : into_iter_items at.word-iterator ≡ x ∷ rest = c.in-Some.ensures.steps.0 in
    let gone = c.in-Some.ensures.steps.1 in
    let short = ap length steps in
    let was = at.invariant.1 in (
      ap (λ (xs : List (String Global)). xs ++ rest) c.in_ok-push.ensures.items ∙ append_assoc at.all.items (x ∷ []) rest
          ∙ ap (λ (xs : List (String Global)). at.all.items ++ xs) (sym steps) ∙ at.invariant.0,
      omega arith,
    )

pub returns : goal.returns
returns c =
    let at = c.loop-word in
    let empty : into_iter_items at.word-iterator ≡ [] = nothing_left _ (sym at.invariant.1 ∙ c.in-None.ensures.steps.0) in
    sym (append-nil at.all.items) ∙ ap (λ (xs : List (String Global)). at.all.items ++ xs) (sym empty) ∙ at.invariant.0
    ∙ ap into_iter_items c.into_iter-word-iterator.ensures.into_iter_gives
