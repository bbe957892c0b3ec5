use Rattle.std.proofs.Common.{sym, ap, ◌∙◌, ℕ, ◌∷◌, List}
use Rattle.atomic_table.specs.Table.{rest}
use Rattle.turn_board.specs.declared.lot.Lot.{Lot}
use Rattle.turn_board.specs.declared.lot.Lot.TheVariants.{OfPool}
use Rattle.turn_board.proofs.board.Board.take_pool_out.Goals as goal

pub slot_mut-place-requires : goal.slot_mut-place-requires
slot_mut-place-requires g c = let e = c.requires.out.1 in (c.requires.board, (OfPool c.requires.out.0, e ∙ ap (λ (l : List (ℕ × Lot g.row.K.Denot g.row.T.Denot)). (c.args.self.now.modules, OfPool c.requires.out.0) ∷ rest l) (sym e)))
