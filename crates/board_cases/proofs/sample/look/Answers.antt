use Rattle.std.proofs.Common.{◌≡◌, ◌<◌, true, refl}
use Rattle.turn_board.specs.declared.pool.Move.{Move}
use Rattle.board_cases.specs.declared.sample.Ticket.{Ticket}
use Rattle.turn_board.specs.Boards.{view}
use Rattle.turn_board.proofs.Turning.{each_past}
use Rattle.turn_board.proofs.PoolKeeping.{later_same}
use Rattle.board_cases.proofs.sample.look.Goals as goal

pub give_pool-requires-clause-pooling : goal.give_pool-requires-clause-pooling
give_pool-requires-clause-pooling g c = let y = c.take_pool-pool.result in (y, c.take_pool-pool.ensures.pooling, later_same (λ (a b : Ticket). a.plan ≡ b.plan) (λ a. refl) y, each_past (λ (v : Move Ticket). v.put ≡ true → v.item.stamp < (view c.take_pool-pool.new.seat).reach) y.moves)
