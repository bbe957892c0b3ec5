use Rattle.std.proofs.Common.{List, map, sym, ap, ◌∙◌}
use Rattle.sq_parse.specs.declared.tree.Tree.{Tree}
use Rattle.sq_bind.specs.Condition.{Split, split_of, first_at}
use Rattle.sq_bind.proofs.SplitLemmas as by
use Rattle.sq_bind.proofs.conjunct.+places.Goals as goal

pub place_of-returns-in-Compare : goal.place_of-returns-in-Compare
place_of-returns-in-Compare t c calls aliases =
    let at = λ (tree : Tree). (split_of calls aliases tree).at in
    sym (ap at c.in-Compare.is ∙ ap (λ (s : Split). s.at) (by.split_of-Compare calls aliases _ _ _ _))

pub place_of-returns-in-Between : goal.place_of-returns-in-Between
place_of-returns-in-Between t c calls aliases =
    let at = λ (tree : Tree). (split_of calls aliases tree).at in
    sym (ap at c.in-Between.is ∙ ap (λ (s : Split). s.at) (by.split_of-Between calls aliases _ _ _ _ _))

pub place_of-returns-in-Within : goal.place_of-returns-in-Within
place_of-returns-in-Within t c calls aliases =
    let at = λ (tree : Tree). (split_of calls aliases tree).at in
    sym (ap at c.in-Within.is ∙ ap (λ (s : Split). s.at) (by.split_of-Within calls aliases _ _ _ _))

pub place_of-returns-in-IsNull : goal.place_of-returns-in-IsNull
place_of-returns-in-IsNull t c calls aliases =
    let at = λ (tree : Tree). (split_of calls aliases tree).at in
    sym (ap at c.in-IsNull.is ∙ ap (λ (s : Split). s.at) (by.split_of-IsNull calls aliases _ _ _))

pub place_of-returns-in-Call : goal.place_of-returns-in-Call
place_of-returns-in-Call t c calls aliases =
    let at = λ (tree : Tree). (split_of calls aliases tree).at in
    sym (ap at c.in-Call.is ∙ ap (λ (s : Split). s.at) (by.split_of-Call calls aliases _ _))

pub place_of-returns-in-Not : goal.place_of-returns-in-Not
place_of-returns-in-Not t c calls aliases =
    let at = λ (tree : Tree). (split_of calls aliases tree).at in
    c.place_of.ensures calls aliases ∙ ap at c.get.ensures ∙ sym (ap at c.in-Not.is ∙ ap (λ (s : Split). s.at) (by.split_of-Not calls aliases _))

pub place_of-returns-in-All : goal.place_of-returns-in-All
place_of-returns-in-All t c calls aliases =
    let at = λ (tree : Tree). (split_of calls aliases tree).at in
    c.first_place.ensures calls aliases ∙ ap (λ (parts : List Tree). first_at (map (split_of calls aliases) parts)) c.as_slice.ensures
    ∙ sym (ap at c.in-All.is ∙ ap (λ (s : Split). s.at) (by.split_of-All calls aliases _))

pub place_of-returns-in-Any : goal.place_of-returns-in-Any
place_of-returns-in-Any t c calls aliases =
    let at = λ (tree : Tree). (split_of calls aliases tree).at in
    c.first_place-in-Any.ensures calls aliases ∙ ap (λ (parts : List Tree). first_at (map (split_of calls aliases) parts)) c.as_slice-in-Any.ensures
    ∙ sym (ap at c.in-Any.is ∙ ap (λ (s : Split). s.at) (by.split_of-Any calls aliases _))

pub place_of-returns-in-Is : goal.place_of-returns-in-Is
place_of-returns-in-Is t c calls aliases =
    let at = λ (tree : Tree). (split_of calls aliases tree).at in
    c.place_of-in-Is.ensures calls aliases ∙ ap at c.get-in-Is.ensures ∙ sym (ap at c.in-Is.is ∙ ap (λ (s : Split). s.at) (by.split_of-Is calls aliases _ _ _))
