use Rattle.std.proofs.Common.{rules, arith, ◌≡◌, ◌++◌, [], ◌∷◌, true, true≢false, cond, not, sym, ap, ◌∙◌, subst, ℕ, List}
use Rattle.turn_board.specs.declared.pool.Move.{Move}
use Rattle.turn_board.specs.Sums.{Each}
use Rattle.turn_board.specs.Pools.{PoolState, left_in, top_of, puts_in, takes_in, put_items, taken_items, TakeTheLast}
use Rattle.turn_board.proofs.Rosters.{each_append, sum_snoc}
use Rattle.turn_board.proofs.PoolLaws.{left_snoc, top_snoc, put_snoc, taken_snoc, settled_put, last_snoc}
use Rattle.std.specs.List.Sorted.{IsPermutation}
use Rattle.turn_board.proofs.stock.Stock.put.Goals as goal

pub invariant_of-self : goal.invariant_of-self
invariant_of-self g c = let v = c.self.invariant in let old : List (Move g.row.T.Denot) = c.self.inside.moves.items in let x : g.row.T.Denot = c.args.item in let move : Move g.row.T.Denot = record { item = x; put = true } in
    let moves : c.push_reserved.new.self.items ≡ old ++ move ∷ [] = c.push_reserved.ensures.items in
    let puts = sum_snoc (λ (y : Move g.row.T.Denot). cond {A = ℕ} y.put 1 0) old move in let takes = sum_snoc (λ (y : Move g.row.T.Denot). cond {A = ℕ} (not y.put) 1 0) old move in
    let sample : c.args.self.now.sample ≡ c.self.inside.sample = ap (λ (y : PoolState g.row.T.Denot). y.sample) (sym c.self.view_is) in
    let left : c.args.self.now.puts_left ≡ c.self.inside.puts_left = ap (λ (y : PoolState g.row.T.Denot). y.puts_left) (sym c.self.view_is) in record {
      items = c.push_reserved-2.ensures.items ∙ (ap (λ (l : List g.row.T.Denot). l ++ x ∷ []) v.items ∙ (sym (left_snoc [] old move) ∙ ap (λ (l : List (Move g.row.T.Denot)). left_in l) (sym moves)));
      few = (let a = v.few in search rules);
      items_room = (let a = v.items_room in search rules);
      moves_room = (let a = v.moves_room in let b = c.requires.left in let d = c.push_reserved.ensures.len in let e = c.push_reserved-2.ensures.len in let f = c.push_reserved.ensures.capacity in search rules);
      counted = (let a = v.counted in let d = ap (λ (l : List (Move g.row.T.Denot)). puts_in l) moves in let e = ap (λ (l : List (Move g.row.T.Denot)). takes_in l) moves in let f = c.push_reserved-2.ensures.len in omega arith);
      plans = subst (λ (l : List (Move g.row.T.Denot)). Each (λ (y : Move g.row.T.Denot). g.T.Stamped.same_plan y.item c.self.inside.sample) l) (sym moves) (each_append (λ (y : Move g.row.T.Denot). g.T.Stamped.same_plan y.item c.self.inside.sample) old (move ∷ []) v.plans (subst (λ (s : g.row.T.Denot). g.T.Stamped.same_plan x s) sample c.requires.plan, tt));
      top = (let a = v.top in let d = c.greater.ensures in let e = ap (λ (l : List (Move g.row.T.Denot)). top_of g.T.Stamped.stamp l) moves in let f = top_snoc g.T.Stamped.stamp old move in omega arith);
      settled = subst (λ (x' : List g.row.T.Denot × List g.row.T.Denot × List g.row.T.Denot). IsPermutation x'.0 (x'.1 ++ x'.2)) (λ i. (sym (ap (λ (l : List (Move g.row.T.Denot)). put_items l) moves ∙ put_snoc old move) i, sym (ap (λ (l : List (Move g.row.T.Denot)). taken_items l) moves ∙ taken_snoc old move) i, sym (ap (λ (l : List (Move g.row.T.Denot)). left_in l) moves ∙ left_snoc [] old move) i))
          (settled_put (put_items old) (taken_items old) (left_in old) x v.settled);
      in_order = subst (TakeTheLast []) (sym moves) (last_snoc [] old move v.in_order (λ e. absurd (true≢false e)));
    }
