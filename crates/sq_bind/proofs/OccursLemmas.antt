-- An alias that is looked for in a condition, part by part.
use Rattle.std.proofs.Common.{◌≡◌, ℕ, ◌+◌, ◌*◌, ◌^◌, sum, add-one, arith, Bool, true, false, ◌||◌, List, [], ◌∷◌, ◌++◌, map, refl, ap, sym, ◌∙◌}
use Rattle.std.specs.Prelude.{◌==◌}
use Rattle.std.specs.List.{list_any, flat_map, concat, range_with_len}
use Rattle.std.proofs.Math.Nat.{pow-suc}
use Rattle.std.proofs.lemmas.List.FromFn.{sum_by-map-range_with_len_more}
use Rattle.sq_value.specs.declared.value.Cmp.{Cmp}
use Rattle.sq_expr.specs.Fits.{term_aliases, side_aliases, arg_aliases, aliases_of}
use Rattle.sq_expr.specs.declared.cond.Term.{Term}
use Rattle.sq_expr.specs.declared.cond.Side.{Side}
use Rattle.sq_expr.specs.declared.cond.Arg.{Arg}
use Rattle.sq_expr.specs.declared.cond.Cond.{Cond}
use Rattle.sq_expr.specs.declared.cond.Cond.TheVariants as cond
use Rattle.sq_expr.proofs.FitLemmas.{aliases_of-Compare, aliases_of-Call, aliases_of-All, aliases_of-Any}
use Rattle.sq_bind.specs.Statement.{is_among, bit_in}

or_assoc : (x y z : Bool) → ((x || y) || z) ≡ (x || (y || z))
or_assoc true y z = refl
or_assoc false y z = refl

pub among-append : (alias : ℕ) (xs ys : List ℕ) → is_among alias (xs ++ ys) ≡ (is_among alias xs || is_among alias ys)
among-append alias [] ys = refl
among-append alias (x ∷ xs) ys =
    ap (λ (b : Bool). (x == alias) || b) (among-append alias xs ys) ∙ sym (or_assoc (x == alias) (is_among alias xs) (is_among alias ys))

pub among-terms : (alias : ℕ) (ts : List Term)
    → is_among alias (flat_map (λ (t : Term). term_aliases t.column) ts) ≡ list_any (λ (t : Term). is_among alias (term_aliases t.column)) ts
among-terms alias [] = refl
among-terms alias (t ∷ ts) =
    among-append alias (term_aliases t.column) (flat_map (λ (t : Term). term_aliases t.column) ts)
    ∙ ap (λ (b : Bool). is_among alias (term_aliases t.column) || b) (among-terms alias ts)

among-concat : (alias : ℕ) (cs : List Cond) → is_among alias (concat (map aliases_of cs)) ≡ list_any (λ (c : Cond). is_among alias (aliases_of c)) cs
among-concat alias [] = refl
among-concat alias (c ∷ cs) =
    among-append alias (aliases_of c) (concat (map aliases_of cs)) ∙ ap (λ (b : Bool). is_among alias (aliases_of c) || b) (among-concat alias cs)

pub among-Compare : (alias : ℕ) (x : Side) (how : Cmp) (y : Side)
    → is_among alias (aliases_of (cond.Compare x how y)) ≡ (is_among alias (side_aliases x) || is_among alias (side_aliases y))
among-Compare alias x how y = ap (is_among alias) (aliases_of-Compare x how y) ∙ among-append alias (side_aliases x) (side_aliases y)

pub among-Call : (alias number : ℕ) (x y : Arg)
    → is_among alias (aliases_of (cond.Call number x y)) ≡ (is_among alias (arg_aliases x) || is_among alias (arg_aliases y))
among-Call alias number x y = ap (is_among alias) (aliases_of-Call number x y) ∙ among-append alias (arg_aliases x) (arg_aliases y)

pub among-All : (alias : ℕ) (parts : List Cond) → is_among alias (aliases_of (cond.All parts)) ≡ list_any (λ (c : Cond). is_among alias (aliases_of c)) parts
among-All alias parts = ap (is_among alias) (aliases_of-All parts) ∙ among-concat alias parts

pub among-Any : (alias : ℕ) (parts : List Cond) → is_among alias (aliases_of (cond.Any parts)) ≡ list_any (λ (c : Cond). is_among alias (aliases_of c)) parts
among-Any alias parts = ap (is_among alias) (aliases_of-Any parts) ∙ among-concat alias parts

-- a test of two parts, of which the first decides or not
pub first_decides : (a b whole r : Bool) → whole ≡ (a || b) → r ≡ a → r ≡ true → r ≡ whole
first_decides a b whole r e f g = g ∙ sym (e ∙ ap (λ (x : Bool). x || b) (sym f ∙ g))

pub second_decides : (a b whole q r : Bool) → whole ≡ (a || b) → q ≡ a → q ≡ false → r ≡ b → r ≡ whole
second_decides a b whole q r e f g h = h ∙ sym (e ∙ ap (λ (x : Bool). x || b) (sym f ∙ g))

pub twice : (n : ℕ) → 2 ^ (n + 1) ≡ 2 * 2 ^ n
twice n = ap (λ (k : ℕ). 2 ^ k) (add-one n) ∙ pow-suc 2 n ∙ (omega arith)

-- the bit of one alias more
pub one_more_bit : (xs : List ℕ) (n : ℕ) → sum (map (bit_in xs) (range_with_len 0 (n + 1))) ≡ sum (map (bit_in xs) (range_with_len 0 n)) + bit_in xs n
one_more_bit xs n = sum_by-map-range_with_len_more (λ (x : ℕ). x) (bit_in xs) 0 n n (omega arith)
