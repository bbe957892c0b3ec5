use Rattle.std.proofs.Common.{rules, arith, ◌≡◌, ◌-◌, ◌++◌, [], ◌∷◌, false, cond, not, sym, ap, ◌∙◌, subst, ℕ, List, length, take}
use Rattle.turn_board.specs.declared.pool.Move.{Move}
use Rattle.turn_board.specs.Sums.{Each}
use Rattle.turn_board.specs.Pools.{PoolState, left_in, top_of, puts_in, takes_in, put_items, taken_items, TakeTheLast}
use Rattle.turn_board.proofs.Rosters.{each_append, sum_snoc}
use Rattle.turn_board.proofs.PoolLaws.{left_snoc, left_each, take_front, top_snoc, put_snoc, taken_snoc, settled_taken, last_snoc, is_last}
use Rattle.std.specs.List.Sorted.{IsPermutation}
use Rattle.turn_board.proofs.Dealing.{each_back}
use Rattle.turn_board.proofs.stock.Stock.take.Goals as goal

pub invariant_of-self-2 : goal.invariant_of-self-2
invariant_of-self-2 g c = let v = c.self.invariant in let old : List (Move g.row.T.Denot) = c.self.inside.moves.items in let x : g.row.T.Denot = c.in-Some.item in let move : Move g.row.T.Denot = record { item = x; put = false } in
    let moves : c.push_reserved.new.self.items ≡ old ++ move ∷ [] = c.push_reserved.ensures.items in
    let puts = sum_snoc (λ (y : Move g.row.T.Denot). cond {A = ℕ} y.put 1 0) old move in let takes = sum_snoc (λ (y : Move g.row.T.Denot). cond {A = ℕ} (not y.put) 1 0) old move in
    let rest : List g.row.T.Denot = c.pop.new.self.items in let last : left_in old ≡ rest ++ x ∷ [] = sym v.items ∙ c.in-Some.ensures.items in record {
      items = sym (take_front rest x) ∙ (ap (λ (l : List g.row.T.Denot). take (length l - 1) l) (sym last) ∙ (sym (left_snoc [] old move) ∙ ap (λ (l : List (Move g.row.T.Denot)). left_in l) (sym moves)));
      few = (let a = v.few in search rules);
      items_room = (let a = v.items_room in search rules);
      moves_room = (let a = v.moves_room in let d = c.push_reserved.ensures.len in let f = c.push_reserved.ensures.capacity in let e = c.in-Some.ensures.len in search rules);
      counted = (let a = v.counted in let d = ap (λ (l : List (Move g.row.T.Denot)). puts_in l) moves in let e = ap (λ (l : List (Move g.row.T.Denot)). takes_in l) moves in let f = c.in-Some.ensures.len in omega arith);
      plans = subst (λ (l : List (Move g.row.T.Denot)). Each (λ (y : Move g.row.T.Denot). g.T.Stamped.same_plan y.item c.self.inside.sample) l) (sym moves) (each_append (λ (y : Move g.row.T.Denot). g.T.Stamped.same_plan y.item c.self.inside.sample) old (move ∷ []) v.plans
          ((each_back (λ (y : g.row.T.Denot). g.T.Stamped.same_plan y c.self.inside.sample) rest x (subst (λ (l : List g.row.T.Denot). Each (λ (y : g.row.T.Denot). g.T.Stamped.same_plan y c.self.inside.sample) l) last (left_each (λ (y : g.row.T.Denot). g.T.Stamped.same_plan y c.self.inside.sample) [] old tt v.plans))).1, tt));
      top = (let a = v.top in let e = ap (λ (l : List (Move g.row.T.Denot)). top_of g.T.Stamped.stamp l) moves in let f = top_snoc g.T.Stamped.stamp old move in omega arith);
      settled = subst (λ (x' : List g.row.T.Denot × List g.row.T.Denot × List g.row.T.Denot). IsPermutation x'.0 (x'.1 ++ x'.2)) (λ i. (
        sym (ap (λ (l : List (Move g.row.T.Denot)). put_items l) moves ∙ put_snoc old move) i,
        sym (ap (λ (l : List (Move g.row.T.Denot)). taken_items l) moves ∙ taken_snoc old move) i,
        sym (ap (λ (l : List (Move g.row.T.Denot)). left_in l) moves ∙ (left_snoc [] old move ∙ (ap (λ (l : List g.row.T.Denot). take (length l - 1) l) last ∙ take_front rest x))) i,
      ))
          (settled_taken (put_items old) (taken_items old) rest x (subst (λ (l : List g.row.T.Denot). IsPermutation (put_items old) (taken_items old ++ l)) last v.settled));
      in_order = subst (TakeTheLast []) (sym moves) (last_snoc [] old move v.in_order (λ e. is_last (left_in old) rest x last));
    }

pub returns-clause-last : goal.returns-clause-last
returns-clause-last g c = let v = c.self.invariant in let old : List (Move g.row.T.Denot) = c.self.inside.moves.items in let x : g.row.T.Denot = c.in-Some.item in let move : Move g.row.T.Denot = record { item = x; put = false } in
    let moves : c.push_reserved.new.self.items ≡ old ++ move ∷ [] = c.push_reserved.ensures.items in
    let rest : List g.row.T.Denot = c.pop.new.self.items in let last : left_in old ≡ rest ++ x ∷ [] = sym v.items ∙ c.in-Some.ensures.items in
    let new : left_in c.push_reserved.new.self.items ≡ rest = ap (λ (l : List (Move g.row.T.Denot)). left_in l) moves ∙ (left_snoc [] old move ∙ (ap (λ (l : List g.row.T.Denot). take (length l - 1) l) last ∙ take_front rest x)) in
    ap (λ (y : PoolState g.row.T.Denot). left_in y.moves) (sym c.self.view_is) ∙ (last ∙ ap (λ (l : List g.row.T.Denot). l ++ x ∷ []) (sym new))
