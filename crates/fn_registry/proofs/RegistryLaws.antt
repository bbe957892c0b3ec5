-- For the proofs: searches of predicates by name and by number.
use Rattle.std.proofs.Common.{◌≡◌, ◌∙◌, ◌==◌, ℕ, ◌+◌, ◌<◌, ◌≤◌, Bool, cond, true, false, List, [], ◌∷◌, length, map, Option, Some, None, refl, sym, ap}
use Rattle.std.specs.Prelude.{find, drop, option_map, slice_index_or, IsSome, IfSome}
use Rattle.std.proofs.lemmas.Bool.{eq-eqb, ne_eqb}
use Rattle.std.proofs.lemmas.List.{at_drop_more, drop_all}
use Rattle.sq_value.specs.declared.predicate.Kinds.{Kinds}
use Rattle.fn_registry.specs.Registry.{is_of_name, is_of_number, number_named, kinds_numbered}
use Rattle.fn_registry.specs.declared.signature.Signature.{Signature}

-- a number that a name has is one of a predicate
pub named_is_known : (ss : List Signature) (name : List ℕ) (n : ℕ) → number_named ss name ≡ Some n → IsSome (kinds_numbered ss n)
named_is_known [] name n e = absurd cc
named_is_known (s ∷ ss) name n e = by (is_of_name name s) (λ h. named_is_known ss name n h) e
  where
    here : (b : Bool) → IsSome (kinds_numbered ss n) → IsSome (option_map (λ (t : Signature). t.kinds) (cond b (Some s) (find (is_of_number n) ss)))
    here true h = refl
    here false h = h

    this : (b : Bool) → b ≡ true → IsSome (option_map (λ (t : Signature). t.kinds) (cond b (Some s) (find (is_of_number n) ss)))
    this true f = refl
    this false f = absurd cc

    same : Some s.number ≡ Some n → s.number ≡ n
    same f = cc

    by : (b : Bool) → (number_named ss name ≡ Some n → IsSome (kinds_numbered ss n))
        → option_map (λ (t : Signature). t.number) (cond b (Some s) (find (is_of_name name) ss)) ≡ Some n
        → IsSome (option_map (λ (t : Signature). t.kinds) (cond (s.number == n) (Some s) (find (is_of_number n) ss)))
    by true more f = this (s.number == n) (eq-eqb s.number n (same f))
    by false more f = here (s.number == n) (more f)

-- a number that is found is one of a predicate
pub found_is_known : (o : Option ℕ) (ss : List Signature) (name : List ℕ) → o ≡ number_named ss name → IfSome o (λ n. IsSome (kinds_numbered ss n))
found_is_known None ss name e = tt
found_is_known (Some n) ss name e = named_is_known ss name n (sym e)

-- the types by number over what is left of a list: at a predicate of the number, and past another one
at : {A : Type 0} (f : A → Signature) (xs : List A) (i n : ℕ) (x : A) → i < length xs → x ≡ slice_index_or xs i x
    → kinds_numbered (map f (drop i xs)) n
    ≡ option_map (λ (s : Signature). s.kinds) (cond ((f x).number == n) (Some (f x)) (find (is_of_number n) (map f (drop (i + 1) xs))))
at f xs i n x inside is =
    at_drop_more (λ rest. kinds_numbered (map f rest) n) xs i x inside
    ∙ ap (λ y. kinds_numbered (map f (y ∷ drop (i + 1) xs)) n) (sym is)

pub kinds_here : {A : Type 0} (f : A → Signature) (xs : List A) (i n : ℕ) (x : A) → i < length xs → x ≡ slice_index_or xs i x
    → (f x).number ≡ n → kinds_numbered (map f (drop i xs)) n ≡ Some (f x).kinds
kinds_here f xs i n x inside is same =
    at f xs i n x inside is
    ∙ ap (λ (b : Bool). option_map (λ (s : Signature). s.kinds) (cond b (Some (f x)) (find (is_of_number n) (map f (drop (i + 1) xs)))))
    (eq-eqb (f x).number n same)

pub kinds_past : {A : Type 0} (f : A → Signature) (xs : List A) (i n : ℕ) (x : A) → i < length xs → x ≡ slice_index_or xs i x
    → ((f x).number ≡ n → ⊥) → kinds_numbered (map f (drop i xs)) n ≡ kinds_numbered (map f (drop (i + 1) xs)) n
kinds_past f xs i n x inside is other =
    at f xs i n x inside is
    ∙ ap (λ (b : Bool). option_map (λ (s : Signature). s.kinds) (cond b (Some (f x)) (find (is_of_number n) (map f (drop (i + 1) xs)))))
    (ne_eqb (f x).number n other)

-- past the end there is none
pub known_within : {A : Type 0} (f : A → Signature) (xs : List A) (i n : ℕ) → length xs ≤ i
    → kinds_numbered (map f (drop i xs)) n ≡ kinds_numbered (map f xs) n → IsSome (kinds_numbered (map f xs) n) → ⊥
known_within f xs i n past same known =
    none (kinds_numbered (map f xs) n) (sym same ∙ ap (λ rest. kinds_numbered (map f rest) n) (drop_all i xs past)) known
  where
    none : (o : Option Kinds) → o ≡ None → IsSome o → ⊥
    none None e h = absurd cc
    none (Some k) e h = absurd cc
