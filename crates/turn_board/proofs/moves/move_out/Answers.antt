use Rattle.std.proofs.Common.{◌≡◌, map, List, [], ◌∷◌, ◌++◌, reverse, ap, sym, ◌∙◌}
use Rattle.std.proofs.lemmas.List.{reverse-append}
use Rattle.turn_board.specs.declared.lot.Lot.{Lot}
use Rattle.turn_board.specs.declared.lot.Lot.TheVariants.{OfModule, OfPool}
use Rattle.turn_board.proofs.Somes.{next_is}
use Rattle.turn_board.proofs.moves.move_out.Goals as goal

pub unreachable-requires-in_default-lot : goal.unreachable-requires-in_default-lot
unreachable-requires-in_default-lot g c = let mods = c.loop-slot.modules.items in let rest = c.pop-in-loop-slot.new.self.items in let slot = c.in-Some-pop.slot in let were = c.requires.slots in
    let back : reverse c.loop-slot.slots.items ≡ slot ∷ reverse rest = ap reverse c.in-Some-pop.ensures.items ∙ reverse-append rest (slot ∷ []) in
    let k = next_is mods were.0 slot (reverse rest) c.in-OfPool.pool were.1
    (ap (λ (l : List (Lot g.row.K.Denot g.row.T.Denot)). (map {B = Lot g.row.K.Denot g.row.T.Denot} OfModule mods ++ l) ++ OfPool c.in-OfPool.pool ∷ []) (sym back) ∙ (c.loop-slot.invariant.all ∙ were.2)) in
    c.in_default-lot.not-OfModule k.0 (c.into_lot-lot.ensures ∙ k.1)
