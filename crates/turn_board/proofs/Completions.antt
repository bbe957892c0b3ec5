-- Who completes the view after a turn completes the view before it.
use Rattle.std.proofs.Common.{◌≡◌, ◌≢◌, ℕ, zero, suc, ◌≤◌, List, [], ◌∷◌, ◌++◌, length, get_or, drop, cond, eqb, ◌&&◌, sym, ap, ◌∙◌, subst, arith}
use mathlib.Core.Option.{some}
use mathlib.Core.List.{IsPrefix}
use mathlib.Core.Logic.{dite}
use native.Mathlib.Decide.{ℕ_discrete}
use lib.ListN.{get_elem?}
use Rattle.turn_board.specs.declared.view.SeatView.{SeatView}
use Rattle.turn_board.specs.Sums.{Each}
use Rattle.turn_board.specs.Views.{drawn_in}
use Rattle.turn_board.specs.Plays.{Sees}
use Rattle.turn_board.specs.Boards.{Completes}
use Rattle.turn_board.proofs.Rosters.{each_of, each_append, sum_snoc}

each_drop : {X : Type 0} (P : X → Type 0) (n : ℕ) (xs : List X) → Each P xs → Each P (drop n xs)
each_drop P zero xs e = e
each_drop P (suc n) [] e = tt
each_drop P (suc n) (x ∷ xs) e = each_drop P n xs e.1

each_drop_append : {X : Type 0} (P : X → Type 0) (n : ℕ) (xs ys : List X) → Each P (drop n xs) → Each P ys → Each P (drop n (xs ++ ys))
each_drop_append P zero xs ys e f = each_append P xs ys e f
each_drop_append P (suc n) [] ys e f = each_drop P (suc n) ys f
each_drop_append P (suc n) (x ∷ xs) ys e f = each_drop_append P n xs ys e f

each_behind : {X : Type 0} (P : X → Type 0) (xs ys : List X) → Each P (drop (length xs) (xs ++ ys)) → Each P ys
each_behind P [] ys e = e
each_behind P (x ∷ xs) ys e = each_behind P xs ys e

-- one draw more
pub draws_more : (draws : List (ℕ × ℕ × ℕ)) (d row stamp m r x : ℕ) → drawn_in m r x draws ≤ drawn_in m r x (draws ++ (d, row, stamp) ∷ [])
draws_more draws d row stamp m r x = omega (arith, sum_snoc (λ (e : ℕ × ℕ × ℕ). cond (eqb e.0 m && (eqb e.1 r && eqb e.2 x)) 1 0) draws (d, row, stamp))

module _ {K T : Type 0} (history : K → List (ℕ × ℕ)) (extends : K → K → Type 0) where
  -- a view that saw the same and drew no less
  pub completes_less : (p q : SeatView K T) → q.saw ≡ p.saw → q.tops ≡ p.tops → ((m row stamp : ℕ) → drawn_in m row stamp p.draws ≤ drawn_in m row stamp q.draws) → (family : List K) → Completes history extends family q → Completes history extends family p
  completes_less p q saw tops draws family c m y at = let s = c m y at in (
    (λ x e. let a = s.0 x (ap (λ (l : List K). get_elem? l m) saw ∙ e) in (a.0, subst (λ (l : List ℕ). Each (λ e. get_or l m 0 ≤ e.1) (drop (length (history x)) (history y))) tops a.1)),
    λ row stamp. let a = s.1 row stamp in let b = draws m row stamp in omega arith,
  )

  module _ (further : (x y z : K) → extends x y → extends y z → extends x z) (grows : (x y : K) → extends x y → IsPrefix (history x) (history y)) where
    -- a view that gave the module m back as z, having found y there and drawn `since`
    pub completes_before : (m : ℕ) (y z : K) (since : List (ℕ × ℕ)) (p q : SeatView K T)
        → ((x : K) → get_elem? p.saw m ≡ some x → extends x y × Each (λ e. get_or p.tops m 0 ≤ e.1) (drop (length (history x)) (history y))) → extends y z → history z ≡ history y ++ since → Each (λ e. get_or p.tops m 0 ≤ e.1) since
        → get_elem? q.saw m ≡ some z → ((d : ℕ) → d ≢ m → get_elem? q.saw d ≡ get_elem? p.saw d) → get_or p.tops m 0 ≤ get_or q.tops m 0 → ((d : ℕ) → d ≢ m → get_or q.tops d 0 ≡ get_or p.tops d 0) → q.draws ≡ p.draws
        → (family : List K) → Completes history extends family q → Completes history extends family p
    completes_before m y z since p q found later added above saw saw_else top top_else same_draws family c d u at = let s = c d u at in dite (ℕ_discrete d m)
        (λ e. subst (λ (j : ℕ). Sees history extends j p u) (sym e) (let s' = subst (λ (j : ℕ). Sees history extends j q u) e s in let after = s'.0 z saw in let more = grows z u after.0 in let P : ℕ × ℕ → Type 0 = λ x. get_or p.tops m 0 ≤ x.1 in (
          (λ x seen. let was = found x seen in (
            further x y u was.0 (further y z u later after.0),
            (let behind = each_behind (λ (x : ℕ × ℕ). get_or q.tops m 0 ≤ x.1) (history z) more.0 (subst (λ (l : List (ℕ × ℕ)). Each (λ x. get_or q.tops m 0 ≤ x.1) (drop (length (history z)) l)) (sym more.1) after.1) in
                let rest = each_of (λ (x : ℕ × ℕ). get_or q.tops m 0 ≤ x.1) P more.0 (λ x h. omega (arith, top)) behind in
                subst (λ (l : List (ℕ × ℕ)). Each P (drop (length (history x)) l)) (sym (sym more.1 ∙ ap (λ (l : List (ℕ × ℕ)). l ++ more.0) added))
                (each_drop_append P (length (history x)) (history y ++ since) more.0 (each_drop_append P (length (history x)) (history y) since was.1 above) rest)),
          )),
          λ row stamp. let a = s'.1 row stamp in let b = ap (drawn_in m row stamp) same_draws in omega arith,
        )))
        (λ ne. (
          (λ x seen. let a = s.0 x (saw_else d ne ∙ seen) in (a.0, subst (λ (n : ℕ). Each (λ e. n ≤ e.1) (drop (length (history x)) (history u))) (top_else d ne) a.1)),
          λ row stamp. let a = s.1 row stamp in let b = ap (drawn_in d row stamp) same_draws in omega arith,
        ))
