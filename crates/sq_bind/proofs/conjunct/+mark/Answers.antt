use Rattle.std.proofs.Common.{◌≡◌, OnOk, ℕ, List, ◌++◌, sym, ap, subst, ◌∙◌}
use Rattle.std.specs.List.{flat_map}
use Rattle.sq_parse.specs.declared.tree.Tree.{Tree}
use Rattle.sq_bind.specs.Condition.{Split, split_of, conjuncts_in}
use Rattle.sq_bind.specs.Seen.{places_in}
use Rattle.sq_bind.proofs.SplitLemmas as by
use Rattle.sq_bind.proofs.PlaceLemmas.{places_between, more_places}
use Rattle.sq_bind.proofs.conjunct.+mark.Goals as goal

pub push_places-returns-in-Compare : goal.push_places-returns-in-Compare
push_places-returns-in-Compare t c calls aliases =
    let one = by.whole_only (split_of calls aliases c.args.tree.now) _ _ (ap (split_of calls aliases) c.in-Compare.is ∙ by.split_of-Compare calls aliases _ _ _ _) in
    subst (λ (xs : List ℕ). OnOk c.push_whole_place.result (c.push_whole_place.new.places.items ≡ c.args.places.now.items ++ xs)) (sym (ap places_in one))
    (c.push_whole_place.ensures calls aliases)

pub push_places-returns-in-Within : goal.push_places-returns-in-Within
push_places-returns-in-Within t c calls aliases =
    let one = by.whole_only (split_of calls aliases c.args.tree.now) _ _ (ap (split_of calls aliases) c.in-Within.is ∙ by.split_of-Within calls aliases _ _ _ _) in
    subst (λ (xs : List ℕ). OnOk c.push_whole_place-in-Within.result (c.push_whole_place-in-Within.new.places.items ≡ c.args.places.now.items ++ xs)) (sym (ap places_in one))
    (c.push_whole_place-in-Within.ensures calls aliases)

pub push_places-returns-in-IsNull : goal.push_places-returns-in-IsNull
push_places-returns-in-IsNull t c calls aliases =
    let one = by.whole_only (split_of calls aliases c.args.tree.now) _ _ (ap (split_of calls aliases) c.in-IsNull.is ∙ by.split_of-IsNull calls aliases _ _ _) in
    subst (λ (xs : List ℕ). OnOk c.push_whole_place-in-IsNull.result (c.push_whole_place-in-IsNull.new.places.items ≡ c.args.places.now.items ++ xs)) (sym (ap places_in one))
    (c.push_whole_place-in-IsNull.ensures calls aliases)

pub push_places-returns-in-Call : goal.push_places-returns-in-Call
push_places-returns-in-Call t c calls aliases =
    let one = by.whole_only (split_of calls aliases c.args.tree.now) _ _ (ap (split_of calls aliases) c.in-Call.is ∙ by.split_of-Call calls aliases _ _) in
    subst (λ (xs : List ℕ). OnOk c.push_whole_place-in-Call.result (c.push_whole_place-in-Call.new.places.items ≡ c.args.places.now.items ++ xs)) (sym (ap places_in one))
    (c.push_whole_place-in-Call.ensures calls aliases)

pub push_places-returns-in-Not : goal.push_places-returns-in-Not
push_places-returns-in-Not t c calls aliases =
    let one = by.whole_only (split_of calls aliases c.args.tree.now) _ _ (ap (split_of calls aliases) c.in-Not.is ∙ by.split_of-Not calls aliases _) in
    subst (λ (xs : List ℕ). OnOk c.push_whole_place-in-Not.result (c.push_whole_place-in-Not.new.places.items ≡ c.args.places.now.items ++ xs)) (sym (ap places_in one))
    (c.push_whole_place-in-Not.ensures calls aliases)

pub push_places-returns-in-Any : goal.push_places-returns-in-Any
push_places-returns-in-Any t c calls aliases =
    let one = by.whole_only (split_of calls aliases c.args.tree.now) _ _ (ap (split_of calls aliases) c.in-Any.is ∙ by.split_of-Any calls aliases _) in
    subst (λ (xs : List ℕ). OnOk c.push_whole_place-in-Any.result (c.push_whole_place-in-Any.new.places.items ≡ c.args.places.now.items ++ xs)) (sym (ap places_in one))
    (c.push_whole_place-in-Any.ensures calls aliases)

pub push_places-returns-in-Is : goal.push_places-returns-in-Is
push_places-returns-in-Is t c calls aliases =
    let one = by.whole_only (split_of calls aliases c.args.tree.now) _ _ (ap (split_of calls aliases) c.in-Is.is ∙ by.split_of-Is calls aliases _ _ _) in
    subst (λ (xs : List ℕ). OnOk c.push_whole_place-in-Is.result (c.push_whole_place-in-Is.new.places.items ≡ c.args.places.now.items ++ xs)) (sym (ap places_in one))
    (c.push_whole_place-in-Is.ensures calls aliases)

pub push_places-returns-in-Between : goal.push_places-returns-in-Between
push_places-returns-in-Between t c calls aliases =
    let two = ap (λ (s : Split). places_in s.conjuncts) (ap (split_of calls aliases) c.in-Between.is ∙ by.split_of-Between calls aliases _ _ _ _ _)
    ∙ places_between _ _ _ _ in
    subst (λ (xs : List ℕ). OnOk c.push_between_places.result (c.push_between_places.new.places.items ≡ c.args.places.now.items ++ xs)) (sym two)
    c.push_between_places.ensures

pub push_places-returns-in-All : goal.push_places-returns-in-All
push_places-returns-in-All t c calls aliases =
    let all = ap (λ (parts : List Tree). places_in (flat_map (conjuncts_in calls aliases) parts)) c.as_slice.ensures
    ∙ sym (ap (λ (tree : Tree). places_in (conjuncts_in calls aliases tree)) c.in-All.is
    ∙ ap (λ (s : Split). places_in s.conjuncts) (by.split_of-All calls aliases _) ∙ ap places_in (by.all_conjuncts calls aliases _)) in
    subst (λ (xs : List ℕ). OnOk c.push_all_places.result (c.push_all_places.new.places.items ≡ c.args.places.now.items ++ xs)) all
    (c.push_all_places.ensures calls aliases)

pub push_all_places-loop-part-preserved : goal.push_all_places-loop-part-preserved
push_all_places-loop-part-preserved t c calls aliases =
    let split = conjuncts_in calls aliases in
    let more = c.in_ok-push_places.ensures calls aliases
    ∙ ap (λ (tree : Tree). c.loop-part.places.items ++ places_in (split tree)) c.part-item.is in
    more_places split c.args.parts.now c.loop-part.part-index _ c.args.places.now.items c.loop-part.places.items _ c.loop-part-test.true
    (c.loop-part.invariant calls aliases) more
