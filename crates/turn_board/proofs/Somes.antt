-- Lists of modules in the board's slots.
use Rattle.std.proofs.Common.{◌≡◌, List, [], ◌∷◌, ◌++◌, map, length, length-append, arith, refl, ap}
use Rattle.turn_board.specs.Pools.{PoolState}
use Rattle.turn_board.specs.declared.lot.Lot.{Lot}
use Rattle.turn_board.specs.declared.lot.Lot.TheVariants.{Out, OfModule, OfPool}

module _ {K T : Type 0} where
  -- the module in a slot, or else d
  abbrev pub or_else : K → Lot K T → K
  or_else d Out = d
  or_else d (OfModule k) = k
  or_else d (OfPool p) = d

  -- the pool in a slot, or else d
  abbrev pub pool_or : PoolState T → Lot K T → PoolState T
  pool_or d Out = d
  pool_or d (OfModule k) = d
  pool_or d (OfPool p) = p

  abbrev head_or : Lot K T → List (Lot K T) → Lot K T
  head_or d [] = d
  head_or d (x ∷ xs) = x

  abbrev tail_of : List (Lot K T) → List (Lot K T)
  tail_of [] = []
  tail_of (x ∷ xs) = xs

  -- what stands before the pool is a module
  pub next_is : (xs ms : List K) (s : Lot K T) (r : List (Lot K T)) (p q : PoolState T) → (map {B = Lot K T} OfModule xs ++ s ∷ r) ++ OfPool p ∷ [] ≡ map {B = Lot K T} OfModule ms ++ OfPool q ∷ [] → (k : K) × (s ≡ OfModule k)
  next_is [] [] s r p q e = absurd (let b = ap (λ (l : List (Lot K T)). length (tail_of l)) e in omega (arith, length-append r (OfPool p ∷ [])))
  next_is [] (m ∷ ms) s r p q e = (m, ap (head_or s) e)
  next_is (x ∷ xs) [] s r p q e = absurd (cc)
  next_is (x ∷ xs) (m ∷ ms) s r p q e = next_is xs ms s r p q (ap tail_of e)

  pub all_are : (xs ms : List K) (p q : PoolState T) → map {B = Lot K T} OfModule xs ++ OfPool p ∷ [] ≡ map {B = Lot K T} OfModule ms ++ OfPool q ∷ [] → (xs ≡ ms) × (p ≡ q)
  all_are [] [] p q e = (refl, ap (λ (l : List (Lot K T)). pool_or p (head_or (OfPool p) l)) e)
  all_are [] (m ∷ ms) p q e = absurd (cc)
  all_are (x ∷ xs) [] p q e = absurd (cc)
  all_are (x ∷ xs) (m ∷ ms) p q e = let h = ap (λ (l : List (Lot K T)). or_else x (head_or (OfModule x) l)) e in let t = all_are xs ms p q (ap tail_of e) in ((λ i. h i ∷ t.0 i), t.1)
