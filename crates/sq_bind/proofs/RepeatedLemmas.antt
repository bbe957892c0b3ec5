-- The set of the aliases so far, with one more.
use Rattle.std.proofs.Common.{◌≡◌, ℕ, Bool, true, false, ◌||◌, cond, List, [], ◌∷◌, ◌++◌, refl, ap, sym, ◌∙◌}
use Rattle.std.specs.Prelude.{String}
use Rattle.std.specs.List.{list_any}
use Rattle.std.specs.Str.{bytes_eq}
use Rattle.std.specs.Ordering.{nat_cmp}
use Rattle.std.specs.Cmp.Lexicographic.{slice_cmp}
use Rattle.std.specs.BTreeMap.{is_at}
use Rattle.std.specs.BTreeSet.{BTreeSet, contains_text}
use Rattle.std.specs.Prelude.{string_bytes}
use Rattle.sq_value.specs.Name.{lower, is_same_name}
use Rattle.sq_parse.specs.declared.tree.Source.{Source}
use Rattle.sq_bind.specs.Repeated.{HoldsNames}

any-append : {X : Type 0} (p : X → Bool) (xs : List X) (x : X) → list_any p (xs ++ (x ∷ [])) ≡ (list_any p xs || p x)
any-append p [] x = by (p x)
  where
    by : (b : Bool) → (b || false) ≡ b
    by true = refl
    by false = refl
any-append p (y ∷ xs) x = ap (λ (b : Bool). p y || b) (any-append p xs x) ∙ or_assoc (p y) (list_any p xs) (p x)
  where
    or_assoc : (a b c : Bool) → (a || (b || c)) ≡ ((a || b) || c)
    or_assoc true b c = refl
    or_assoc false b c = refl

module _ {A : Type 0} where
  -- the set has the names of no source
  pub no_names : (names : BTreeSet (String A)) → names.keys ≡ [] → HoldsNames names []
  no_names names e name = ap (λ (ks : List (String A)). list_any (is_at (λ k. slice_cmp nat_cmp (lower name) (string_bytes k))) ks) e

  -- the set with the name of one more
  pub more_names : (old new : BTreeSet (String A)) (low : List ℕ) (front : List Source) (s : Source) → low ≡ lower s.alias.text
      → ((q : List ℕ) → contains_text new q ≡ cond (bytes_eq low q) true (contains_text old q))
      → HoldsNames old front → HoldsNames new (front ++ (s ∷ []))
  more_names old new low front s is put held name =
      put (lower name) ∙ ap (λ (l : List ℕ). cond (bytes_eq l (lower name)) true (contains_text old (lower name))) is
      ∙ ap (λ (b : Bool). cond (is_same_name s.alias.text name) true b) (held name)
      ∙ either (is_same_name s.alias.text name) (list_any (λ (x : Source). is_same_name x.alias.text name) front)
      ∙ sym (any-append (λ (x : Source). is_same_name x.alias.text name) front s)
    where
      either : (here before : Bool) → cond here true before ≡ (before || here)
      either true true = refl
      either true false = refl
      either false true = refl
      either false false = refl
