-- Tables of pairs that grow row by row.
use Rattle.std.proofs.Common.{◌≡◌, ◌∙◌, ℕ, ◌+◌, ◌≤◌, ◌<◌, ◌%◌, ◌==◌, Bool, true, false, cond, List, [], ◌∷◌, ◌++◌, length, refl, sym, ap, ap₂, subst, arith}
use Rattle.std.specs.Prelude.{map}
use Rattle.std.specs.List.{range_with_len}
use Rattle.std.proofs.lemmas.List.FromFn.{length-map-range_with_len, map-range_with_len_more}
use Rattle.sq_value.specs.Relation.{Relation, HasKind}
use Rattle.sq_value.specs.declared.value.Value.{Value}
use Rattle.sq_value.specs.declared.value.Value.TheVariants.{Null}
use Rattle.sq_value.specs.declared.value.ColType.TheVariants.{Integer}
use Rattle.demo_tables.specs.Demo.{pair_table, TakesPair, held, whole_number}

-- such a table takes two integers, one of which may be null
pub pairs_fit : (a b : List ℕ) (row : ℕ → List Value) (n : ℕ) (t : Relation) (x y : Value) → t ≡ pair_table a b row n → HasKind Integer x → HasKind Integer y
    → TakesPair t x y
pairs_fit a b row n t x y e p q = subst (λ (u : Relation). TakesPair u x y) (sym e) (p, (q, tt))

-- and has room for one
pub pairs_room : (a b : List ℕ) (row : ℕ → List Value) (n count : ℕ) (t : Relation) → t ≡ pair_table a b row n → n ≤ count → count ≤ 100000 → length t.rows < 4294967295
pairs_room a b row n count t e p q =
    let long : length t.rows ≡ n = ap (λ (u : Relation). length u.rows) e ∙ length-map-range_with_len row 0 n in
    omega (arith, long, p, q)

-- with the next row it is the table with a row more
pub pairs_more : (a b : List ℕ) (row : ℕ → List Value) (n : ℕ) (t new : Relation) (x y v w : Value) → t ≡ pair_table a b row n → x ≡ v → y ≡ w → row n ≡ v ∷ w ∷ []
    → new ≡ record t { rows = t.rows ++ (x ∷ y ∷ []) ∷ [] } → new ≡ pair_table a b row (n + 1)
pairs_more a b row n t new x y v w e p q f g =
    let next : x ∷ y ∷ [] ≡ row n = ap₂ (λ (i j : Value). i ∷ j ∷ []) p q ∙ sym f in
    let rows : map row (range_with_len 0 n) ++ (x ∷ y ∷ []) ∷ [] ≡ map row (range_with_len 0 (n + 1)) =
    ap (λ (r : List Value). map row (range_with_len 0 n) ++ r ∷ []) next ∙ sym (map-range_with_len_more row 0 n n (omega arith)) in
    g ∙ (ap (λ (u : Relation). record u { rows = u.rows ++ (x ∷ y ∷ []) ∷ [] }) e ∙ ap (λ (rs : List (List Value)). table rs) rows)
  where
    table : List (List Value) → Relation
    table rs = record (pair_table a b row n) { rows = rs }

-- what is held is an integer or null
pub held_fits : (i : ℕ) (y : Value) → y ≡ held i → HasKind Integer y
held_fits i y e = subst (HasKind Integer) (sym e) (by (i % 100 == 99))
  where
    by : (b : Bool) → HasKind Integer (cond b Null (whole_number (i % 100)))
    by true = tt
    by false = tt

pub number_fits : (n : ℕ) (y : Value) → y ≡ whole_number n → HasKind Integer y
number_fits n y e = subst (HasKind Integer) (sym e) tt
