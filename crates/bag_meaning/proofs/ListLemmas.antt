-- Filters, maps and ranges: what std has no law for.
use Rattle.std.proofs.Common.{◌≡◌, Bool, true, false, cond, List, [], ◌∷◌, ◌++◌, refl, ap, ◌∙◌, sym}
use Rattle.std.specs.Prelude.{not, ◌&&◌, map, filter, All}
use Rattle.std.specs.List.{flat_map}
use Rattle.std.specs.List.Sorted.{IsPermutation}
use Rattle.std.proofs.lemmas.List.{map-append}
use Rattle.std.proofs.lemmas.List.Elements.{filter-append, filter_agree, All-head, All-tail}
use Rattle.std.proofs.lemmas.List.Sorted.{IsPermutation-filter_both}

pub map-map : {X Y Z : Type 0} (f : Y → Z) (g : X → Y) (xs : List X) → map f (map g xs) ≡ map (λ x. f (g x)) xs
map-map f g [] = refl
map-map f g (x ∷ xs) = ap (λ r. f (g x) ∷ r) (map-map f g xs)

pub map_agree : {X Y : Type 0} (f g : X → Y) → ((x : X) → f x ≡ g x) → (xs : List X) → map f xs ≡ map g xs
map_agree f g h [] = refl
map_agree f g h (x ∷ xs) = ap (λ y. y ∷ map f xs) (h x) ∙ ap (λ r. g x ∷ r) (map_agree f g h xs)

pub flat_map_agree : {X Y : Type 0} (f g : X → List Y) → ((x : X) → f x ≡ g x) → (xs : List X) → flat_map f xs ≡ flat_map g xs
flat_map_agree f g h [] = refl
flat_map_agree f g h (x ∷ xs) = ap (λ y. y ++ flat_map f xs) (h x) ∙ ap (λ r. g x ++ r) (flat_map_agree f g h xs)

pub map-flat_map : {X Y Z : Type 0} (g : Y → Z) (f : X → List Y) (xs : List X) → map g (flat_map f xs) ≡ flat_map (λ x. map g (f x)) xs
map-flat_map g f [] = refl
map-flat_map g f (x ∷ xs) = map-append g (f x) (flat_map f xs) ∙ ap (λ r. map g (f x) ++ r) (map-flat_map g f xs)

pub filter-flat_map : {X Y : Type 0} (p : Y → Bool) (f : X → List Y) (xs : List X) → filter p (flat_map f xs) ≡ flat_map (λ x. filter p (f x)) xs
filter-flat_map p f [] = refl
filter-flat_map p f (x ∷ xs) = filter-append p (f x) (flat_map f xs) ∙ ap (λ r. filter p (f x) ++ r) (filter-flat_map p f xs)

pub filter-map : {X Y : Type 0} (p : Y → Bool) (f : X → Y) (xs : List X) → filter p (map f xs) ≡ map f (filter (λ x. p (f x)) xs)
filter-map p f [] = refl
filter-map {X} {Y} p f (x ∷ xs) = step (p (f x)) (filter-map p f xs)
  where
    step : (b : Bool) → filter p (map f xs) ≡ map f (filter (λ (y : X). p (f y)) xs)
        → cond b (f x ∷ filter p (map f xs)) (filter p (map f xs)) ≡ map f (cond b (x ∷ filter (λ (y : X). p (f y)) xs) (filter (λ (y : X). p (f y)) xs))
    step true e = ap (λ (r : List Y). f x ∷ r) e
    step false e = e

-- a filter of a filter is the filter by both tests
pub filter-filter : {X : Type 0} (p q : X → Bool) (xs : List X) → filter p (filter q xs) ≡ filter (λ x. q x && p x) xs
filter-filter p q [] = refl
filter-filter {X} p q (x ∷ xs) = step (q x) (filter-filter p q xs)
  where
    step : (b : Bool) → filter p (filter q xs) ≡ filter (λ (y : X). q y && p y) xs
        → filter p (cond b (x ∷ filter q xs) (filter q xs)) ≡ cond (b && p x) (x ∷ filter (λ (y : X). q y && p y) xs) (filter (λ (y : X). q y && p y) xs)
    step true e = ap (λ (r : List X). cond (p x) (x ∷ r) r) e
    step false e = e

-- tests that agree on the elements keep the same ones
pub filter_agree_on : {X : Type 0} (p q : X → Bool) (xs : List X) → All (λ x. p x ≡ q x) xs → filter p xs ≡ filter q xs
filter_agree_on p q [] h = refl
filter_agree_on {X} p q (x ∷ xs) h =
    ap (λ (b : Bool). cond b (x ∷ filter p xs) (filter p xs)) (All-head (λ (y : X). p y ≡ q y) x xs h)
    ∙ ap (λ (r : List X). cond (q x) (x ∷ r) r) (filter_agree_on p q xs (All-tail (λ (y : X). p y ≡ q y) x xs h))

-- what passes a test is what passes a stronger one, and what passes the test alone
pub IsPermutation-filter_split : {X : Type 0} (p q : X → Bool) (xs : List X) → ((x : X) → q x ≡ true → p x ≡ true)
    → IsPermutation (filter p xs) (filter q xs ++ filter (λ x. p x && not (q x)) xs)
IsPermutation-filter_split {X} p q xs h =
    let both : IsPermutation (filter p xs) (filter q (filter p xs) ++ filter (λ (x : X). not (q x)) (filter p xs)) =
    IsPermutation-filter_both q (λ (x : X). not (q x)) (λ x. refl) (filter p xs) in
    let stronger : filter q (filter p xs) ≡ filter q xs =
    filter-filter q p xs ∙ filter_agree (λ (x : X). p x && q x) q (λ x. implied (p x) (q x) (h x)) xs in
    rw (stronger, filter-filter (λ (x : X). not (q x)) p xs) at both
  where
    implied : (a b : Bool) → (b ≡ true → a ≡ true) → (a && b) ≡ b
    implied true b k = refl
    implied false true k = k refl
    implied false false k = refl

-- nothing is kept where each element fails the test, and all where each passes
pub filter_none : {X : Type 0} (p : X → Bool) (xs : List X) → All (λ x. p x ≡ false) xs → filter p xs ≡ []
filter_none p [] h = refl
filter_none {X} p (x ∷ xs) h =
    ap (λ (b : Bool). cond b (x ∷ filter p xs) (filter p xs)) (All-head (λ (y : X). p y ≡ false) x xs h)
    ∙ filter_none p xs (All-tail (λ (y : X). p y ≡ false) x xs h)

pub filter_all : {X : Type 0} (p : X → Bool) (xs : List X) → All (λ x. p x ≡ true) xs → filter p xs ≡ xs
filter_all p [] h = refl
filter_all {X} p (x ∷ xs) h =
    ap (λ (b : Bool). cond b (x ∷ filter p xs) (filter p xs)) (All-head (λ (y : X). p y ≡ true) x xs h)
    ∙ ap (λ (r : List X). x ∷ r) (filter_all p xs (All-tail (λ (y : X). p y ≡ true) x xs h))

and_comm : (a b : Bool) → (a && b) ≡ (b && a)
and_comm true true = refl
and_comm true false = refl
and_comm false true = refl
and_comm false false = refl

-- two filters may change places
pub filter_comm : {X : Type 0} (p q : X → Bool) (xs : List X) → filter p (filter q xs) ≡ filter q (filter p xs)
filter_comm {X} p q xs =
    filter-filter p q xs ∙ filter_agree (λ (x : X). q x && p x) (λ (x : X). p x && q x) (λ x. and_comm (q x) (p x)) xs ∙ sym (filter-filter q p xs)

-- parts that agree on the elements
pub flat_map_agree_on : {X Y : Type 0} (f g : X → List Y) (xs : List X) → All (λ x. f x ≡ g x) xs → flat_map f xs ≡ flat_map g xs
flat_map_agree_on f g [] h = refl
flat_map_agree_on {X} {Y} f g (x ∷ xs) h =
    ap (λ (y : List Y). y ++ flat_map f xs) (All-head (λ (y : X). f y ≡ g y) x xs h)
    ∙ ap (λ (r : List Y). g x ++ r) (flat_map_agree_on f g xs (All-tail (λ (y : X). f y ≡ g y) x xs h))

-- parts that are empty where a test fails are the parts of what passes it
pub flat_map-cond : {X Y : Type 0} (p : X → Bool) (f : X → List Y) (xs : List X) → flat_map (λ x. cond (p x) (f x) []) xs ≡ flat_map f (filter p xs)
flat_map-cond p f [] = refl
flat_map-cond {X} {Y} p f (x ∷ xs) = step (p x) (flat_map-cond p f xs)
  where
    step : (b : Bool) → flat_map (λ (y : X). cond (p y) (f y) []) xs ≡ flat_map f (filter p xs)
        → cond b (f x) [] ++ flat_map (λ (y : X). cond (p y) (f y) []) xs ≡ flat_map f (cond b (x ∷ filter p xs) (filter p xs))
    step true e = ap (λ (r : List Y). f x ++ r) e
    step false e = e
