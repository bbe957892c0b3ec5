-- Lines that are equal in all cells, and the firsts of what is made of elements.
use Rattle.std.proofs.Common.{◌≡◌, ℕ, Bool, true, false, cond, List, [], ◌∷◌, map, filter, refl, ap, ◌∙◌}
use Rattle.std.specs.Prelude.{◌&&◌, not}
use Rattle.std.proofs.lemmas.List.Elements.{filter_agree}
use Rattle.group_sink.specs.Cells.{is_same_line, is_same_rank}
use Rattle.group_sink.specs.Columns.{cells_at, rank_in}
use Rattle.group_sink.specs.Groups.{firsts}
use Rattle.group_sink.specs.Parts.{has_same_ranks}
use Rattle.group_sink.specs.declared.column.Column.{Column}

-- lines are equal in all cells where the cells' ranks are
same-line : (columns : List Column) (x y : ℕ) → has_same_ranks rank_in columns x y ≡ is_same_line (cells_at columns x) (cells_at columns y)
same-line [] x y = refl
same-line (c ∷ columns) x y = ap (λ (b : Bool). is_same_rank (rank_in c x) (rank_in c y) && b) (same-line columns x y)

module _ {X : Type 0} where
  firsts-agree : (a b : X → X → Bool) → ((x y : X) → a x y ≡ b x y) → (xs : List X) → firsts a xs ≡ firsts b xs
  firsts-agree a b agree [] = refl
  firsts-agree a b agree (x ∷ xs) =
      ap (λ (l : List X). x ∷ l)
      (ap (filter (λ y. not (a x y))) (firsts-agree a b agree xs)
      ∙ filter_agree (λ (y : X). not (a x y)) (λ (y : X). not (b x y)) (λ y. ap not (agree x y)) (firsts b xs))

  filter-map : {Y : Type 0} (p : Y → Bool) (f : X → Y) (xs : List X) → filter p (map f xs) ≡ map f (filter (λ x. p (f x)) xs)
  filter-map p f [] = refl
  filter-map {Y} p f (x ∷ xs) = ap (λ (l : List Y). cond (p (f x)) (f x ∷ l) l) (filter-map p f xs) ∙ by (p (f x))
    where
      by : (b : Bool) → cond b (f x ∷ map f (filter (λ y. p (f y)) xs)) (map f (filter (λ y. p (f y)) xs))
          ≡ map f (cond b (x ∷ filter (λ y. p (f y)) xs) (filter (λ y. p (f y)) xs))
      by true = refl
      by false = refl

  -- the firsts of what is made of elements
  pub firsts-map : {Y : Type 0} (same : Y → Y → Bool) (f : X → Y) (xs : List X) → firsts same (map f xs) ≡ map f (firsts (λ x y. same (f x) (f y)) xs)
  firsts-map same f [] = refl
  firsts-map {Y} same f (x ∷ xs) =
      ap (λ (l : List Y). f x ∷ filter (λ y. not (same (f x) y)) l) (firsts-map same f xs)
      ∙ ap (λ (l : List Y). f x ∷ l) (filter-map (λ y. not (same (f x) y)) f (firsts (λ a b. same (f a) (f b)) xs))

pub firsts-lines : (columns : List Column) (xs : List ℕ)
    → firsts (has_same_ranks rank_in columns) xs ≡ firsts (λ x y. is_same_line (cells_at columns x) (cells_at columns y)) xs
firsts-lines columns xs =
    firsts-agree (has_same_ranks rank_in columns) (λ x y. is_same_line (cells_at columns x) (cells_at columns y)) (same-line columns) xs
