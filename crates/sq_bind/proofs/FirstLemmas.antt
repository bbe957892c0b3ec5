-- The first of some faults is one, and reach goes by aliases and conjuncts.
use Rattle.std.proofs.Common.{◌≡◌, ◌⊎◌, inl, inr, ℕ, zero, suc, ◌<◌, ◌≤◌, Bool, true, false, List, [], ◌∷◌, length, Option, Some, None, refl, ap, sym, subst, ◌∙◌, arith, if◌then◌else◌, nat_lt}
use Rattle.std.specs.Prelude.{◌&&◌, ◌==◌, slice_get, Contains}
use Rattle.std.proofs.lemmas.Bool.{or_parts, or_cases, and_parts, ltb-true, ltb-false, eqb-true, eqb-false}
use Rattle.sq_expr.specs.Reach.{IsLed, IsClosed, IsReachable}
use Rattle.sq_expr.specs.declared.block.Block.{Block}
use Rattle.sq_bind.specs.Fault.{IsFirst, IsNotLater, is_before, place_of, fault_number, sooner, first_of}
use Rattle.sq_expr.specs.declared.block.AliasUse.{AliasUse}
use Rattle.sq_expr.specs.declared.block.Conjunct.{Conjunct}
use Rattle.sq_bind.specs.declared.fault.BindFault.{BindFault}
use Rattle.sq_bind.specs.declared.fault.BindFault.TheVariants as fault
use Rattle.sq_bind.proofs.BlockFits.{held}

-- ---- the first of some faults

pub none_first : (faults : List BindFault) → first_of faults ≡ None → faults ≡ []
none_first [] e = refl
none_first (f ∷ faults) e = by (first_of faults) e
  where
    by : (o : Option BindFault) → sooner (Some f) o ≡ None → f ∷ faults ≡ []
    by None e = absurd cc
    by (Some g) e = pick (is_before g f) e
      where
        pick : (b : Bool) → (if b then Some g else Some f) ≡ None → f ∷ faults ≡ []
        pick true e = absurd cc
        pick false e = absurd cc

before_no_later : (g f : BindFault) → is_before g f ≡ true → IsNotLater g f
before_no_later g f h = by (or_cases (nat_lt (place_of g) (place_of f)) ((place_of g == place_of f) && nat_lt (fault_number g) (fault_number f)) h)
  where
    by : (nat_lt (place_of g) (place_of f) ≡ true) ⊎ (((place_of g == place_of f) && nat_lt (fault_number g) (fault_number f)) ≡ true) → IsNotLater g f
    by (inl e) = inl (ltb-true (place_of g) (place_of f) e)
    by (inr e) =
        let both = and_parts (place_of g == place_of f) (nat_lt (fault_number g) (fault_number f)) e in
        let less = ltb-true (fault_number g) (fault_number f) both.1 in
        inr (eqb-true (place_of g) (place_of f) both.0, omega (arith, less))

not_before_no_later : (g f : BindFault) → is_before g f ≡ false → IsNotLater f g
not_before_no_later g f h =
    let both = or_parts (nat_lt (place_of g) (place_of f)) ((place_of g == place_of f) && nat_lt (fault_number g) (fault_number f)) h in
    by (ltb-false (place_of g) (place_of f) both.0) (place_of g == place_of f) refl both.1
  where
    by : place_of f ≤ place_of g → (b : Bool) → (place_of g == place_of f) ≡ b → (b && nat_lt (fault_number g) (fault_number f)) ≡ false → IsNotLater f g
    by low true e k = inr (sym (eqb-true (place_of g) (place_of f) e), ltb-false (fault_number g) (fault_number f) k)
    by low false e k = let differs = eqb-false (place_of g) (place_of f) e in inl (omega (arith, low, differs))

no_later_itself : (f : BindFault) → IsNotLater f f
no_later_itself f = inr (refl, omega arith)

no_later_on : (f g h : BindFault) → IsNotLater f g → IsNotLater g h → IsNotLater f h
no_later_on f g h (inl a) (inl b) = inl (omega (arith, a, b))
no_later_on f g h (inl a) (inr b) = let e = b.0 in inl (omega (arith, a, e))
no_later_on f g h (inr a) (inl b) = let e = a.0 in inl (omega (arith, b, e))
no_later_on f g h (inr a) (inr b) = let l = a.1 in let m = b.1 in inr (a.0 ∙ b.0, omega (arith, l, m))

held_behind : (f : BindFault) (faults : List BindFault) (g : BindFault) → Contains faults g → Contains (f ∷ faults) g
held_behind f faults g (k, low, is) = (suc k, omega (arith, low), is)

pub first_is : (faults : List BindFault) (f : BindFault) → first_of faults ≡ Some f → IsFirst faults f
first_is [] f e = absurd cc
first_is (g ∷ faults) f e = by (first_of faults) refl e (first_is faults)
  where
    alone : faults ≡ [] → g ≡ f → IsFirst (g ∷ faults) f
    alone none is = record {
      among = (0, omega arith, is);
      first = λ other held. each other held;
    }
      where
        each : (other : BindFault) → Contains (g ∷ faults) other → IsNotLater f other
        each other (zero, low, at) = subst (λ (h : BindFault). IsNotLater f h) (sym is ∙ at) (no_later_itself f)
        each other (suc k, low, at) = let short = ap length none in absurd (omega (arith, low, short))

    with_first : (h : BindFault) → IsFirst faults h → (b : Bool) → is_before h g ≡ b → (if b then Some h else Some g) ≡ Some f → IsFirst (g ∷ faults) f
    with_first h held true before is =
        let same : h ≡ f = cc in
        subst (IsFirst (g ∷ faults)) same (record { among = held_behind g faults h held.among; first = λ other at. each other at })
      where
        each : (other : BindFault) → Contains (g ∷ faults) other → IsNotLater h other
        each other (zero, low, at) = subst (IsNotLater h) at (before_no_later h g before)
        each other (suc k, low, at) = held.first other (k, omega (arith, low), at)
    with_first h held false before is =
        let same : g ≡ f = cc in
        subst (IsFirst (g ∷ faults)) same (record { among = (0, omega arith, refl); first = λ other at. each other at })
      where
        each : (other : BindFault) → Contains (g ∷ faults) other → IsNotLater g other
        each other (zero, low, at) = subst (IsNotLater g) at (no_later_itself g)
        each other (suc k, low, at) = no_later_on g h other (not_before_no_later h g before) (held.first other (k, omega (arith, low), at))

    by : (o : Option BindFault) → first_of faults ≡ o → sooner (Some g) o ≡ Some f → ((h : BindFault) → first_of faults ≡ Some h → IsFirst faults h) → IsFirst (g ∷ faults) f
    by None none is rest = let same : g ≡ f = cc in alone (none_first faults none) same
    by (Some h) some is rest = with_first h (rest h some) (is_before h g) refl is

-- ---- a fault is told by its place and its number

numbered : ℕ → ℕ → BindFault
numbered at number =
    if number == 1 then fault.UnknownTable at
    else if number == 2 then fault.RepeatedAlias at
    else if number == 3 then fault.UnknownAlias at
    else if number == 4 then fault.UnknownColumn at
    else if number == 5 then fault.AmbiguousColumn at
    else if number == 6 then fault.TypeMismatch at
    else if number == 7 then fault.UnknownFunction at
    else if number == 8 then fault.WrongArguments at
    else if number == 9 then fault.TooManyAliases at
    else if number == 10 then fault.TooManyConjuncts at
    else if number == 11 then fault.TooManyTerms at
    else if number == 12 then fault.Unreachable at
    else if number == 14 then fault.NotGrouped at
    else if number == 15 then fault.NotSelected at
    else fault.Memory

numbered_is : (f : BindFault) → numbered (place_of f) (fault_number f) ≡ f
unfolding numbered
numbered_is (fault.UnknownTable at) = refl
numbered_is (fault.RepeatedAlias at) = refl
numbered_is (fault.UnknownAlias at) = refl
numbered_is (fault.UnknownColumn at) = refl
numbered_is (fault.AmbiguousColumn at) = refl
numbered_is (fault.TypeMismatch at) = refl
numbered_is (fault.UnknownFunction at) = refl
numbered_is (fault.WrongArguments at) = refl
numbered_is (fault.TooManyAliases at) = refl
numbered_is (fault.TooManyConjuncts at) = refl
numbered_is (fault.TooManyTerms at) = refl
numbered_is (fault.Unreachable alias) = refl
numbered_is (fault.NotGrouped at) = refl
numbered_is (fault.NotSelected at) = refl
numbered_is fault.Memory = refl

same_fault : (f g : BindFault) → place_of f ≡ place_of g → fault_number f ≡ fault_number g → f ≡ g
same_fault f g e h =
    sym (numbered_is f) ∙ ap (λ (at : ℕ). numbered at (fault_number f)) e ∙ ap (numbered (place_of g)) h ∙ numbered_is g

pub first_unique : (faults : List BindFault) (f g : BindFault) → IsFirst faults f → IsFirst faults g → f ≡ g
first_unique faults f g a b = by (a.first g b.among) (b.first f a.among)
  where
    by : IsNotLater f g → IsNotLater g f → f ≡ g
    by (inl x) (inl y) = absurd (omega (arith, x, y))
    by (inl x) (inr y) = let e = y.0 in absurd (omega (arith, x, e))
    by (inr x) (inl y) = let e = x.0 in absurd (omega (arith, y, e))
    by (inr x) (inr y) = let l = x.1 in let m = y.1 in same_fault f g x.0 (omega (arith, l, m))

pub no_first : (faults : List BindFault) (f : BindFault) → faults ≡ [] → IsFirst faults f → ⊥
no_first faults f none first =
    let h : Contains [] f = subst (λ (fs : List BindFault). Contains fs f) none first.among in
    let low = h.1 in omega (arith, low)

-- ---- reach goes by aliases and conjuncts alone

led_by : (x y : Block) → x.aliases ≡ y.aliases → x.conjuncts ≡ y.conjuncts → (set' : ℕ → Bool) (alias : ℕ) → IsLed x set' alias → IsLed y set' alias
led_by x y e f set' alias h = record {
  u = h.u;
  used = subst (λ (us : List AliasUse). slice_get us alias ≡ Some h.u) e h.used;
  p = h.p;
  conjunct = h.conjunct;
  at = subst (λ (cs : List Conjunct). slice_get cs h.p ≡ Some h.conjunct) f h.at;
  own = h.own;
  other = h.other;
  compares = h.compares;
  of = h.of;
  look_up = h.look_up;
  plain = h.plain;
  led = h.led;
}

closed_by : (x y : Block) → x.aliases ≡ y.aliases → x.conjuncts ≡ y.conjuncts → (set' : ℕ → Bool) → IsClosed x set' → IsClosed y set'
closed_by x y e f set' h = record {
  scanned = λ alias u at scan. h.scanned alias u (subst (λ (us : List AliasUse). slice_get us alias ≡ Some u) (sym e) at) scan;
  led = λ alias led. h.led alias (led_by y x (sym e) (sym f) set' alias led);
}

pub reachable_by : (x y : Block) → x.aliases ≡ y.aliases → x.conjuncts ≡ y.conjuncts → IsReachable x → IsReachable y
reachable_by x y e f h = record {
  first = h.first;
  u = h.u;
  at = subst (λ (us : List AliasUse). slice_get us h.first ≡ Some h.u) e h.at;
  scanned = h.scanned;
  each = λ set' closed alias low.
      h.each set' (closed_by y x (sym e) (sym f) set' closed) alias
      (subst (λ (us : List AliasUse). alias < length us) (sym e) low);
}
