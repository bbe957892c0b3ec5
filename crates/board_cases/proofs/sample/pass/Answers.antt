use Rattle.std.proofs.Common.{arith, [], List, ℕ, Bool, sym, refl, subst, ◌≤◌}
use Rattle.std.proofs.lemmas.List.{append-nil}
use Rattle.board_cases.specs.declared.sample.Rows.{Rows}
use Rattle.turn_board.specs.Boards.{view}
use Rattle.turn_board.proofs.Debts.{debts_stay}
use Rattle.board_cases.proofs.sample.pass.Goals as goal

pub give-requires-clause-busy : goal.give-requires-clause-busy
give-requires-clause-busy g c = let taken = c.take-rows.result.entries.items in (c.take-rows.result, [], c.take-rows.ensures.busy, ([], append-nil taken), sym (append-nil taken), omega arith)

pub give-requires-clause-thrifty : goal.give-requires-clause-thrifty
give-requires-clause-thrifty g c = let b = c.take-rows.ensures.busy in
    subst (λ (n : ℕ). n ≤ 1) (sym (debts_stay (λ (_ : Rows). let l : List Bool = [] in l) (view c.take-rows.new.seat) c.take-rows.result b.turn b.hold refl)) c.take-rows.ensures.seat.thrifty
