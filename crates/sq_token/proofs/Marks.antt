-- Sets of marks: what a test says of each mark, by trying all.
use Rattle.std.proofs.Common.{◌≡◌, Bool, true, false, not, ◌&&◌, ◌||◌, List, [], ◌∷◌, refl}
use Rattle.sq_token.specs.declared.mark.Mark.{Mark}
use Rattle.sq_token.specs.declared.mark.Mark.TheVariants as k

abbrev pub marks : List Mark
marks = k.All ∷ k.And ∷ k.As ∷ k.Asc ∷ k.Between ∷ k.By ∷ k.Cross ∷ k.Desc ∷ k.Distinct ∷ k.False ∷ k.From ∷ k.Group ∷ k.In ∷ k.Inner ∷ k.Is ∷ k.Join ∷ k.Limit ∷ k.Not ∷ k.Null ∷ k.On ∷ k.Or ∷ k.Order ∷ k.Select ∷ k.True ∷ k.Unknown ∷ k.Where ∷ k.Reserved ∷ k.Count ∷ k.First ∷ k.Last ∷ k.Max ∷ k.Min ∷ k.Nulls ∷ k.Sum ∷ k.Name ∷ k.Number ∷ k.Text ∷ k.Comma ∷ k.Semicolon ∷ k.Dot ∷ k.Star ∷ k.Open ∷ k.Close ∷ k.Plus ∷ k.Minus ∷ k.Equal ∷ k.NotEqual ∷ k.Less ∷ k.LessOrEqual ∷ k.Greater ∷ k.GreaterOrEqual ∷ k.Bad ∷ k.End ∷ []

data In (m : Mark) : List Mark → Type 0 where
  here : {rest : List Mark} → In m (m ∷ rest)
  there : {other : Mark} {rest : List Mark} → In m rest → In m (other ∷ rest)

abbrev pub each : (Mark → Bool) → List Mark → Bool
each p [] = true
each p (m ∷ ms) = p m && each p ms

pub and_left : (a b : Bool) → (a && b) ≡ true → a ≡ true
and_left true b e = refl
and_left false b e = e

pub and_right : (a b : Bool) → (a && b) ≡ true → b ≡ true
and_right true b e = e
and_right false b e = elim b as (λ v. v ≡ true) [ true ↦ refl | false ↦ e ]

each_at : (p : Mark → Bool) (ms : List Mark) (m : Mark) → In m ms → each p ms ≡ true → p m ≡ true
each_at p [] m i e = elim i [ ]
each_at p (m ∷ ms) _ here e = and_left (p m) (each p ms) e
each_at p (other ∷ ms) m (there i) e = each_at p ms m i (and_right (p other) (each p ms) e)

among : (m : Mark) → In m marks
among k.All = here
among k.And = there here
among k.As = there (there here)
among k.Asc = there (there (there here))
among k.Between = there (there (there (there here)))
among k.By = there (there (there (there (there here))))
among k.Cross = there (there (there (there (there (there here)))))
among k.Desc = there (there (there (there (there (there (there here))))))
among k.Distinct = there (there (there (there (there (there (there (there here)))))))
among k.False = there (there (there (there (there (there (there (there (there here))))))))
among k.From = there (there (there (there (there (there (there (there (there (there here)))))))))
among k.Group = there (there (there (there (there (there (there (there (there (there (there here))))))))))
among k.In = there (there (there (there (there (there (there (there (there (there (there (there here)))))))))))
among k.Inner = there (there (there (there (there (there (there (there (there (there (there (there (there here))))))))))))
among k.Is = there (there (there (there (there (there (there (there (there (there (there (there (there (there here)))))))))))))
among k.Join = there (there (there (there (there (there (there (there (there (there (there (there (there (there (there here))))))))))))))
among k.Limit = there (there (there (there (there (there (there (there (there (there (there (there (there (there (there (there here)))))))))))))))
among k.Not = there (there (there (there (there (there (there (there (there (there (there (there (there (there (there (there (there here))))))))))))))))
among k.Null = there (there (there (there (there (there (there (there (there (there (there (there (there (there (there (there (there (there here)))))))))))))))))
among k.On = there (there (there (there (there (there (there (there (there (there (there (there (there (there (there (there (there (there (there here))))))))))))))))))
among k.Or = there (there (there (there (there (there (there (there (there (there (there (there (there (there (there (there (there (there (there (there here)))))))))))))))))))
among k.Order = there (there (there (there (there (there (there (there (there (there (there (there (there (there (there (there (there (there (there (there (there here))))))))))))))))))))
among k.Select = there (there (there (there (there (there (there (there (there (there (there (there (there (there (there (there (there (there (there (there (there (there here)))))))))))))))))))))
among k.True = there (there (there (there (there (there (there (there (there (there (there (there (there (there (there (there (there (there (there (there (there (there (there here))))))))))))))))))))))
among k.Unknown = there (there (there (there (there (there (there (there (there (there (there (there (there (there (there (there (there (there (there (there (there (there (there (there here)))))))))))))))))))))))
among k.Where = there (there (there (there (there (there (there (there (there (there (there (there (there (there (there (there (there (there (there (there (there (there (there (there (there here))))))))))))))))))))))))
among k.Reserved = there (there (there (there (there (there (there (there (there (there (there (there (there (there (there (there (there (there (there (there (there (there (there (there (there (there here)))))))))))))))))))))))))
among k.Count = there (there (there (there (there (there (there (there (there (there (there (there (there (there (there (there (there (there (there (there (there (there (there (there (there (there (there here))))))))))))))))))))))))))
among k.First = there (there (there (there (there (there (there (there (there (there (there (there (there (there (there (there (there (there (there (there (there (there (there (there (there (there (there (there here)))))))))))))))))))))))))))
among k.Last = there (there (there (there (there (there (there (there (there (there (there (there (there (there (there (there (there (there (there (there (there (there (there (there (there (there (there (there (there here))))))))))))))))))))))))))))
among k.Max = there (there (there (there (there (there (there (there (there (there (there (there (there (there (there (there (there (there (there (there (there (there (there (there (there (there (there (there (there (there here)))))))))))))))))))))))))))))
among k.Min = there (there (there (there (there (there (there (there (there (there (there (there (there (there (there (there (there (there (there (there (there (there (there (there (there (there (there (there (there (there (there here))))))))))))))))))))))))))))))
among k.Nulls = there (there (there (there (there (there (there (there (there (there (there (there (there (there (there (there (there (there (there (there (there (there (there (there (there (there (there (there (there (there (there (there here)))))))))))))))))))))))))))))))
among k.Sum = there (there (there (there (there (there (there (there (there (there (there (there (there (there (there (there (there (there (there (there (there (there (there (there (there (there (there (there (there (there (there (there (there here))))))))))))))))))))))))))))))))
among k.Name = there (there (there (there (there (there (there (there (there (there (there (there (there (there (there (there (there (there (there (there (there (there (there (there (there (there (there (there (there (there (there (there (there (there here)))))))))))))))))))))))))))))))))
among k.Number = there (there (there (there (there (there (there (there (there (there (there (there (there (there (there (there (there (there (there (there (there (there (there (there (there (there (there (there (there (there (there (there (there (there (there here))))))))))))))))))))))))))))))))))
among k.Text = there (there (there (there (there (there (there (there (there (there (there (there (there (there (there (there (there (there (there (there (there (there (there (there (there (there (there (there (there (there (there (there (there (there (there (there here)))))))))))))))))))))))))))))))))))
among k.Comma = there (there (there (there (there (there (there (there (there (there (there (there (there (there (there (there (there (there (there (there (there (there (there (there (there (there (there (there (there (there (there (there (there (there (there (there (there here))))))))))))))))))))))))))))))))))))
among k.Semicolon = there (there (there (there (there (there (there (there (there (there (there (there (there (there (there (there (there (there (there (there (there (there (there (there (there (there (there (there (there (there (there (there (there (there (there (there (there (there here)))))))))))))))))))))))))))))))))))))
among k.Dot = there (there (there (there (there (there (there (there (there (there (there (there (there (there (there (there (there (there (there (there (there (there (there (there (there (there (there (there (there (there (there (there (there (there (there (there (there (there (there here))))))))))))))))))))))))))))))))))))))
among k.Star = there (there (there (there (there (there (there (there (there (there (there (there (there (there (there (there (there (there (there (there (there (there (there (there (there (there (there (there (there (there (there (there (there (there (there (there (there (there (there (there here)))))))))))))))))))))))))))))))))))))))
among k.Open = there (there (there (there (there (there (there (there (there (there (there (there (there (there (there (there (there (there (there (there (there (there (there (there (there (there (there (there (there (there (there (there (there (there (there (there (there (there (there (there (there here))))))))))))))))))))))))))))))))))))))))
among k.Close = there (there (there (there (there (there (there (there (there (there (there (there (there (there (there (there (there (there (there (there (there (there (there (there (there (there (there (there (there (there (there (there (there (there (there (there (there (there (there (there (there (there here)))))))))))))))))))))))))))))))))))))))))
among k.Plus = there (there (there (there (there (there (there (there (there (there (there (there (there (there (there (there (there (there (there (there (there (there (there (there (there (there (there (there (there (there (there (there (there (there (there (there (there (there (there (there (there (there (there here))))))))))))))))))))))))))))))))))))))))))
among k.Minus = there (there (there (there (there (there (there (there (there (there (there (there (there (there (there (there (there (there (there (there (there (there (there (there (there (there (there (there (there (there (there (there (there (there (there (there (there (there (there (there (there (there (there (there here)))))))))))))))))))))))))))))))))))))))))))
among k.Equal = there (there (there (there (there (there (there (there (there (there (there (there (there (there (there (there (there (there (there (there (there (there (there (there (there (there (there (there (there (there (there (there (there (there (there (there (there (there (there (there (there (there (there (there (there here))))))))))))))))))))))))))))))))))))))))))))
among k.NotEqual = there (there (there (there (there (there (there (there (there (there (there (there (there (there (there (there (there (there (there (there (there (there (there (there (there (there (there (there (there (there (there (there (there (there (there (there (there (there (there (there (there (there (there (there (there (there here)))))))))))))))))))))))))))))))))))))))))))))
among k.Less = there (there (there (there (there (there (there (there (there (there (there (there (there (there (there (there (there (there (there (there (there (there (there (there (there (there (there (there (there (there (there (there (there (there (there (there (there (there (there (there (there (there (there (there (there (there (there here))))))))))))))))))))))))))))))))))))))))))))))
among k.LessOrEqual = there (there (there (there (there (there (there (there (there (there (there (there (there (there (there (there (there (there (there (there (there (there (there (there (there (there (there (there (there (there (there (there (there (there (there (there (there (there (there (there (there (there (there (there (there (there (there (there here)))))))))))))))))))))))))))))))))))))))))))))))
among k.Greater = there (there (there (there (there (there (there (there (there (there (there (there (there (there (there (there (there (there (there (there (there (there (there (there (there (there (there (there (there (there (there (there (there (there (there (there (there (there (there (there (there (there (there (there (there (there (there (there (there here))))))))))))))))))))))))))))))))))))))))))))))))
among k.GreaterOrEqual = there (there (there (there (there (there (there (there (there (there (there (there (there (there (there (there (there (there (there (there (there (there (there (there (there (there (there (there (there (there (there (there (there (there (there (there (there (there (there (there (there (there (there (there (there (there (there (there (there (there here)))))))))))))))))))))))))))))))))))))))))))))))))
among k.Bad = there (there (there (there (there (there (there (there (there (there (there (there (there (there (there (there (there (there (there (there (there (there (there (there (there (there (there (there (there (there (there (there (there (there (there (there (there (there (there (there (there (there (there (there (there (there (there (there (there (there (there here))))))))))))))))))))))))))))))))))))))))))))))))))
among k.End = there (there (there (there (there (there (there (there (there (there (there (there (there (there (there (there (there (there (there (there (there (there (there (there (there (there (there (there (there (there (there (there (there (there (there (there (there (there (there (there (there (there (there (there (there (there (there (there (there (there (there (there here)))))))))))))))))))))))))))))))))))))))))))))))))))

-- whatever passes the first test passes the second
abbrev pub within : (Mark → Bool) → (Mark → Bool) → Bool
within p q = each (λ m. not (p m) || q m) marks

-- nothing passes both tests
abbrev pub apart : (Mark → Bool) → (Mark → Bool) → Bool
apart p q = each (λ m. not (p m && q m)) marks

implied : (a b : Bool) → (not a || b) ≡ true → a ≡ true → b ≡ true
implied true b e h = e
implied false b e h = elim b as (λ v. v ≡ true) [ true ↦ refl | false ↦ h ]

excluded : (a b : Bool) → not (a && b) ≡ true → a ≡ true → b ≡ false
excluded true true e h = cc
excluded true false e h = refl
excluded false b e h = cc

pub within_at : (p q : Mark → Bool) → within p q ≡ true → (m : Mark) → p m ≡ true → q m ≡ true
within_at p q e m h = implied (p m) (q m) (each_at (λ n. not (p n) || q n) marks m (among m) e) h

pub apart_at : (p q : Mark → Bool) → apart p q ≡ true → (m : Mark) → p m ≡ true → q m ≡ false
apart_at p q e m h = excluded (p m) (q m) (each_at (λ n. not (p n && q n)) marks m (among m) e) h

each_true : (p : Mark → Bool) → ((m : Mark) → p m ≡ true) → (ms : List Mark) → each p ms ≡ true
each_true p h [] = refl
each_true p h (m ∷ ms) = rw (h m) (each_true p h ms)

or_true : (a : Bool) → (a || true) ≡ true
or_true true = refl
or_true false = refl

pub all_within : (p : Mark → Bool) → within p (λ _. true) ≡ true
all_within p = each_true (λ m. not (p m) || true) (λ m. or_true (not (p m))) marks

or_not : (a : Bool) → (not a || a) ≡ true
or_not true = refl
or_not false = refl

pub within_self : (p : Mark → Bool) → within p p ≡ true
within_self p = each_true (λ m. not (p m) || p m) (λ m. or_not (p m)) marks
