use Rattle.std.proofs.Common.{◌≡◌, ◌+◌, take, [], ◌∷◌, ◌++◌, sym, ap, ◌∙◌, subst}
use Rattle.std.proofs.lemmas.List.{take_more, take_all}
use Rattle.std.specs.Prelude.{map}
use Rattle.std.specs.List.{position_or_len}
use Rattle.indexmap.specs.IndexSet.{insert_key}
use Rattle.group_sink.specs.Dense.{IsNumbered}
use Rattle.group_sink.proofs.DenseLemmas.{numbered_step, numbered_start}
use Rattle.group_sink.proofs.grouping.number_all.Goals as goal

pub loop-item-init : goal.loop-item-init
loop-item-init g c = subst (λ ks. IsNumbered g.K.PartialEq.eq [] ks c.in_ok-numbers.numbers.items) (sym c.new-seen.ensures.empty)
    (subst (λ ns. IsNumbered g.K.PartialEq.eq [] [] ns) (sym c.in_ok-numbers.ensures.items) (numbered_start g.K.PartialEq.eq))

pub loop-item-preserved : goal.loop-item-preserved
loop-item-preserved g c =
    let same = g.K.PartialEq.eq in
    let item = c.item-item.result in
    let xs = c.args.items.now in
    let i = c.loop-item.item-index in
    let old = c.loop-item.seen.keys in
    let front : take (i + 1) xs ≡ take i xs ++ item ∷ [] =
    take_more xs i item c.loop-item-test.true ∙ ap (λ y. take i xs ++ y ∷ []) (sym c.item-item.is) in
    let numbers : c.push.new.self.items ≡ c.loop-item.numbers.items ++ position_or_len (same item) old ∷ [] =
    c.in_ok-push.ensures.items ∙ ap (λ n. c.loop-item.numbers.items ++ n ∷ []) c.in_ok-number.ensures.index in
    let step = numbered_step same g.met.K.Eq.laws (take i xs) old c.loop-item.numbers.items item c.loop-item.invariant in
    subst (λ ys. IsNumbered same ys c.insert_full.new.self.keys c.push.new.self.items) (sym front)
    (subst (λ ks. IsNumbered same (take i xs ++ item ∷ []) ks c.push.new.self.items) (sym c.in_ok-number.ensures.keys)
    (subst (λ ns. IsNumbered same (take i xs ++ item ∷ []) (insert_key same old item) ns) (sym numbers) step))

pub returns : goal.returns
returns g c =
    let same = g.K.PartialEq.eq in
    let xs = c.args.items.now in
    let seen = c.loop-item.seen.keys in
    let h : IsNumbered same xs seen c.loop-item.numbers.items =
    subst (λ ys. IsNumbered same ys seen c.loop-item.numbers.items) (take_all c.loop-item.item-index xs c.loop-item-test.false) c.loop-item.invariant in
    h.are ∙ ap (λ ks. map (λ x. position_or_len (same x) ks) xs) h.kinds
