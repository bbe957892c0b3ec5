use Rattle.std.proofs.Common.{rules, arith, ◌≡◌, ◌++◌, ℕ, Bool, [], ◌∷◌, List, length, false, get_or, set, sym, ap, ◌∙◌, subst}
use Rattle.std.proofs.lemmas.List.{get_or-set_other}
use Rattle.std.proofs.lemmas.Grind.{common_steps}
use Rattle.std.specs.Slots.{slots_items, slots_filled}
use mathlib.Core.Option.{some, some-injective}
use mathlib.Core.Logic.{dite}
use native.Mathlib.Decide.{ℕ_discrete}
use lib.ListN.{get_elem?}
use Rattle.atomic_table.proofs.Lists.{at_longer, at_last}
use Rattle.turn_board.specs.declared.lot.Lot.{Lot}
use Rattle.turn_board.specs.declared.lot.Lot.TheVariants.{OfModule}
use Rattle.turn_board.proofs.Somes.{or_else}
use Rattle.turn_board.proofs.Dealing.{set_same}
use Rattle.turn_board.proofs.moves.refill.Goals as goal

pub unreachable-requires : goal.unreachable-requires
unreachable-requires g c = let k = c.requires.modules c.loop-i.i c.loop-i-test.true in
    c.in_default.not-OfModule k.0 (c.into_lot-lot.ensures ∙ some-injective c.take-slot.result (OfModule k.0) (sym c.take-slot.ensures.value ∙ (ap (λ (l : List (Lot g.row.K.Denot g.row.T.Denot)). get_elem? l c.loop-i.i) c.loop-i.invariant.same ∙ k.1)))

pub loop-i-preserved : goal.loop-i-preserved
loop-i-preserved g c = let i : ℕ = c.loop-i.i in let v = c.loop-i.invariant in let o = c.take-slot.ensures.others in record {
  same = o.0 ∙ v.same;
  long = o.2 ∙ v.long;
  emptied = λ k h. ap (λ (l : List Bool). get_or l k false) o.1 ∙ dite (ℕ_discrete k i)
      (λ e. subst (λ (j : ℕ). get_or (set (slots_filled c.loop-i.closed.slots) i false) j false ≡ false) (sym e) (set_same (slots_filled c.loop-i.closed.slots) i))
      (λ ne. get_or-set_other (slots_filled c.loop-i.closed.slots) i k false false ne ∙ v.emptied k (omega arith));
  left = λ k le h. ap (λ (l : List Bool). get_or l k false) o.1 ∙ (get_or-set_other (slots_filled c.loop-i.closed.slots) i k false false (λ e. omega arith) ∙ v.left k (omega arith) h);
  number = omega arith;
  room = search rules;
  modules = λ m k h e. subst (λ (l : List g.row.K.Denot). get_elem? l m ≡ some k) (sym c.push_reserved.ensures.items) (dite (ℕ_discrete m i)
      (λ is. let count : length c.loop-i.modules.items ≡ m = grind (arith, common_steps) in
      let got : get_elem? (slots_items c.args.closed.now.slots) m ≡ some c.take-slot.result = ap (get_elem? (slots_items c.args.closed.now.slots)) is ∙ (sym (ap (λ (l : List (Lot g.row.K.Denot g.row.T.Denot)). get_elem? l i) v.same) ∙ c.take-slot.ensures.value) in
      let same : OfModule c.in-OfModule.module ≡ OfModule k = sym c.in-OfModule.is ∙ (c.into_lot-lot.ensures ∙ some-injective c.take-slot.result (OfModule k) (sym got ∙ e)) in
      subst (λ (y : g.row.K.Denot). get_elem? (c.loop-i.modules.items ++ c.in-OfModule.module ∷ []) m ≡ some y) (ap (or_else k) same) (at_last c.loop-i.modules.items c.in-OfModule.module m count))
      (λ ne. at_longer c.loop-i.modules.items (c.in-OfModule.module ∷ []) m k (v.modules m k (omega arith) e)));
}

pub returns-clause-emptied : goal.returns-clause-emptied
returns-clause-emptied g c k h = let o = c.take-slot-2.ensures.others in let v = c.loop-i.invariant in let n : ℕ = c.args.count in
    ap (λ (l : List Bool). get_or l k false) o.1 ∙ dite (ℕ_discrete k n)
    (λ e. subst (λ (j : ℕ). get_or (set (slots_filled c.loop-i.closed.slots) n false) j false ≡ false) (sym e) (set_same (slots_filled c.loop-i.closed.slots) n))
    (λ ne. get_or-set_other (slots_filled c.loop-i.closed.slots) n k false false ne ∙ v.emptied k (omega (arith, o.2, v.long, c.requires.count, c.loop-i-test.false)))
