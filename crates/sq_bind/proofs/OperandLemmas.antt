-- The faults of operands, taken one after another.
use Rattle.std.proofs.Common.{◌≡◌, ℕ, Bool, true, false, ◌+◌, ◌<◌, List, [], ◌∷◌, ◌++◌, length, drop, get_or, Option, Some, None, refl, if◌then◌else◌, ap, sym, ◌∙◌}
use Rattle.std.specs.Prelude.{slice_get, ◌||◌}
use Rattle.std.specs.List.{flat_map}
use Rattle.std.proofs.lemmas.Option.{none-some}
use Rattle.sq_parse.specs.declared.tree.Operand.{Operand}
use Rattle.sq_bind.specs.declared.operand.Compared.{Compared}
use Rattle.sq_bind.proofs.Walk.{walk}
use Rattle.sq_parse.specs.declared.tree.RawTerm.{RawTerm}
use Rattle.sq_bind.specs.Fault.{sooner, first_of, is_before}
use Rattle.sq_expr.specs.Fits.{Class, Numbers, Texts}
use Rattle.sq_bind.specs.Visible.{Alias}
use Rattle.sq_bind.specs.Operand.{term_faults, sum_faults, ninth_faults, operand_faults, operand_class, is_class, unless_faulty}
use Rattle.sq_bind.specs.Compared.{terms_faults, compared, joined}
use Rattle.sq_bind.specs.declared.fault.BindFault.{BindFault}
use Rattle.sq_bind.proofs.FaultLemmas.{next_fault, first_of-append, sooner_assoc, sooner_none}

pub next_term : (aliases : List Alias) (terms : List RawTerm) (i : ℕ) (d : RawTerm) (sofar whole : Option BindFault) → i < length terms
    → sooner sofar (first_of (terms_faults aliases (drop i terms))) ≡ whole
    → sooner (sooner sofar (first_of (term_faults aliases (get_or terms i d).column))) (first_of (terms_faults aliases (drop (i + 1) terms))) ≡ whole
next_term aliases terms i d = next_fault (λ (t : RawTerm). term_faults aliases t.column) terms i d

pub sum_first : (aliases : List Alias) (terms : List RawTerm)
    → first_of (sum_faults aliases terms None) ≡ sooner (first_of (terms_faults aliases terms)) (first_of (ninth_faults (slice_get terms 8)))
sum_first aliases terms = first_of-append (terms_faults aliases terms) (ninth_faults (slice_get terms 8))

-- ---- classes

-- some faults have a first, and none have none
pub some_fault : (f : BindFault) (y : Option BindFault) → sooner (Some f) y ≡ None → ⊥
some_fault f None e = none-some f (sym e)
some_fault f (Some g) e = by (is_before g f) e
  where
    by : (b : Bool) → (if b then Some g else Some f) ≡ None → ⊥
    by true e = none-some g (sym e)
    by false e = none-some f (sym e)

pub faultless : (faults : List BindFault) (c : Option Class) → None ≡ first_of faults → unless_faulty faults c ≡ c
faultless [] c e = refl
faultless (f ∷ faults) c e = absurd (some_fault f (first_of faults) (sym e))

pub faulty : (faults : List BindFault) (c : Option Class) (f : BindFault) → Some f ≡ first_of faults → unless_faulty faults c ≡ None
faulty [] c f e = absurd (none-some f (sym e))
faulty (g ∷ faults) c f e = refl

-- ---- operands that are compared

or_assoc : (x y z : Bool) → ((x || y) || z) ≡ (x || (y || z))
or_assoc true y z = refl
or_assoc false y z = refl

or_false : (x : Bool) → (x || false) ≡ x
or_false true = refl
or_false false = refl

-- equal parts make equal wholes
same : (f g : Option BindFault) (n m t u : Bool) → f ≡ g → n ≡ m → t ≡ u
    → (let x : Compared = record { fault = f; numbers = n; texts = t } in let y : Compared = record { fault = g; numbers = m; texts = u } in x ≡ y)
same f g n m t u x y z =
    ap (λ (f : Option BindFault). (let c : Compared = record { fault = f; numbers = n; texts = t } in c)) x
    ∙ ap (λ (n : Bool). (let c : Compared = record { fault = g; numbers = n; texts = t } in c)) y
    ∙ ap (λ (t : Bool). (let c : Compared = record { fault = g; numbers = m; texts = t } in c)) z

pub joined_assoc : (x y z : Compared) → joined (joined x y) z ≡ joined x (joined y z)
joined_assoc x y z =
    same _ _ _ _ _ _ (sooner_assoc x.fault y.fault z.fault) (or_assoc x.numbers y.numbers z.numbers) (or_assoc x.texts y.texts z.texts)

pub joined_none : (aliases : List Alias) (x : Compared) → joined x (compared aliases []) ≡ x
joined_none aliases x = same _ _ _ _ _ _ (sooner_none x.fault) (or_false x.numbers) (or_false x.texts)

-- an operand, and those behind it
pub one_more : (aliases : List Alias) (x : Operand) (xs : List Operand) → compared aliases (x ∷ xs) ≡ joined (compared aliases (x ∷ [])) (compared aliases xs)
one_more aliases x xs = same _ _ _ _ _ _ faults (or_one (is_class Numbers (operand_class aliases x)) _) (or_one (is_class Texts (operand_class aliases x)) _)
  where
    faults : first_of (operand_faults aliases x ++ flat_map (operand_faults aliases) xs)
        ≡ sooner (first_of (operand_faults aliases x ++ [])) (first_of (flat_map (operand_faults aliases) xs))
    faults =
        first_of-append (operand_faults aliases x) (flat_map (operand_faults aliases) xs)
        ∙ sym (ap (λ (o : Option BindFault). sooner o (first_of (flat_map (operand_faults aliases) xs)))
        (first_of-append (operand_faults aliases x) [] ∙ sooner_none (first_of (operand_faults aliases x))))

    or_one : (b c : Bool) → (b || c) ≡ ((b || false) || c)
    or_one true c = refl
    or_one false c = refl

pub next_operand : (aliases : List Alias) (xs : List Operand) (i : ℕ) (d : Operand) (sofar whole : Compared) → i < length xs
    → joined sofar (compared aliases (drop i xs)) ≡ whole
    → joined (joined sofar (compared aliases (get_or xs i d ∷ []))) (compared aliases (drop (i + 1) xs)) ≡ whole
next_operand aliases =
    walk joined joined_assoc (λ k ys. compared aliases ys) (λ k x. compared aliases (x ∷ [])) (λ k x ys. one_more aliases x ys)
