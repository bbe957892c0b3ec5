use Rattle.std.proofs.Common.{rules, arith, ◌≡◌, ◌<◌, ◌+◌, ◌*◌, ◌++◌, ◌∷◌, ℕ, List, length, map, sym, ap, ◌∙◌, replicate, subst, get_or, Vec, Global, ◌≤◌, []}
use Rattle.std.proofs.lemmas.Grind.{common_steps}
use Rattle.turn_board.specs.declared.lot.Lot.{Lot}
use Rattle.turn_board.specs.declared.lot.Lot.TheVariants.{OfModule, OfPool}
use Rattle.turn_board.specs.Pools.{PoolState}
use Rattle.turn_board.specs.Sums.{Each}
use Rattle.turn_board.proofs.Opening.{opens}
use Rattle.turn_board.proofs.Somes.{all_are}
use Rattle.turn_board.proofs.Dealing.{all_each}
use Rattle.turn_board.proofs.board.Board.make.Goals as goal

pub new-requires : goal.new-requires
new-requires g c =
    let same : c.args.modules.items ≡ c.of-2.result.value.items = sym (ap (λ (v : Vec g.row.K.Denot Global). v.items) c.of-2.ensures) in
    let pool : c.args.pool ≡ c.of-3.result.value = sym c.of-3.ensures in
    let count : c.len.result ≡ length c.of-2.result.value.items = grind (arith, common_steps) in
    let rows : c.of.result.value.items ≡ c.args.lengths.now = ap (λ (v : Vec ℕ Global). v.items) c.of.ensures ∙ c.in-Ok.ensures.lengths in
    opens g.K.Kept.history g.K.Kept.extends g.K.Kept.marks g.T.Stamped.same_plan g.T.Stamped.stamp _ c.as_slice.result.now c.move_in.new.slots.items
    (c.as_slice.ensures.value ∙ (c.in-Ok.ensures.words ∙ ap (λ (n : ℕ). replicate {A = ℕ} (32 + 8 * n) 0) count))
    (c.move_in.ensures.slots ∙ (λ i. map {B = Lot g.row.K.Denot g.row.T.Denot} OfModule (same i) ++ OfPool (pool i) ∷ []))
    (search rules)
    (let h : length c.of.result.value.items ≤ 16 = subst (λ (l : List ℕ). length l ≤ 16) (sym rows) c.requires.lengths in h)
    (λ k. subst (λ (l : List ℕ). get_or l k 0 < 4294967296) (sym rows) (omega (arith, c.type_inv.lengths k)))
    (omega (arith, count, c.len.ensures))
    (subst (λ (l : List g.row.K.Denot). Each (λ y. (g.K.Kept.history y ≡ []) × (g.K.Kept.marks y ≡ [])) l) same (all_each (λ y. (g.K.Kept.history y ≡ []) × (g.K.Kept.marks y ≡ [])) c.args.modules.items c.requires.empty))
    (ap (λ (p : PoolState g.row.T.Denot). p.moves) (sym pool) ∙ c.requires.still)
    g.met.K.Kept.same
    g.met.T.Stamped.same

pub move_out-pool-requires-clause-slots : goal.move_out-pool-requires-clause-slots
move_out-pool-requires-clause-slots g c = (c.args.modules.items, c.args.pool, c.in-Err.ensures.err ∙ c.move_in.ensures.slots)

pub returns-clause-refused : goal.returns-clause-refused
returns-clause-refused g c = all_are c.move_out-pool.new.modules.items c.args.modules.items c.move_out-pool.result c.args.pool (c.move_out-pool.ensures ∙ (c.in-Err.ensures.err ∙ c.move_in.ensures.slots))
