-- What holds of the fields of each pool. It serves the proofs of its calls.
use Rattle.std.specs.Prelude.{◌≡◌, ℕ, ◌+◌, ◌*◌, [], ◌≤◌, vec_len, vec_capacity, ◌++◌}
use Rattle.std.specs.List.Sorted.{IsPermutation}
use Rattle.turn_board.specs.declared.stock.Stock.TheInside.{Inside}
use Rattle.turn_board.specs.Sums.{Each}
use Rattle.turn_board.specs.Pools.{above, left_in, put_items, puts_in, taken_items, takes_in, top_of, TakeTheLast}

pub record IsPool {T : Type 0} (same_plan : T → T → Type 0) (stamp : T → ℕ) (p : Inside T) : Type 0 where
  pub items : p.items.items ≡ left_in p.moves.items
  pub few : vec_len p.items ≤ 256
  pub items_room : 256 ≤ vec_capacity p.items
  pub moves_room : vec_len p.moves + (2 * p.puts_left + vec_len p.items) ≤ vec_capacity p.moves
  pub counted : puts_in p.moves.items ≡ vec_len p.items + takes_in p.moves.items
  pub plans : Each (λ v. same_plan v.item p.sample) p.moves.items
  pub top : above p.greatest ≡ top_of stamp p.moves.items
  pub settled : IsPermutation (put_items p.moves.items) (taken_items p.moves.items ++ left_in p.moves.items)
  pub in_order : TakeTheLast [] p.moves.items
