-- Tuples are told apart by a test, so permutations of lists of them are shown by counting.
use Rattle.std.proofs.Common.{◌≡◌, ℕ, suc, Bool, true, false, cond, List, [], ◌∷◌, Option, Some, None, refl, ap, ◌∙◌, arith}
use Rattle.std.specs.Prelude.{◌&&◌, ◌==◌, nat_eq, map}
use Rattle.std.specs.Bool.{Decides}
use Rattle.std.specs.Cmp.Lexicographic.{pointwise, bytes_decides}
use Rattle.std.proofs.lemmas.Bool.{and_parts, and_from, eqb-true, eq-eqb}
use Rattle.eddy_meaning.specs.Tuple.{Tuple}

-- parts and marks as numbers
abbrev pub part_code : Option ℕ → ℕ
part_code None = 0
part_code (Some r) = suc r

part_same : (x y : Option ℕ) → part_code x ≡ part_code y → x ≡ y
part_same None None e = refl
part_same None (Some s) e = absurd (omega (arith, e))
part_same (Some r) None e = absurd (omega (arith, e))
part_same (Some r) (Some s) e = let same : r ≡ s = omega (arith, e) in ap (λ (k : ℕ). let o : Option ℕ = Some k in o) same

abbrev pub mark_code : Bool → ℕ
mark_code b = cond b 1 0

mark_same : (x y : Bool) → mark_code x ≡ mark_code y → x ≡ y
mark_same true true e = refl
mark_same true false e = absurd (omega (arith, e))
mark_same false true e = absurd (omega (arith, e))
mark_same false false e = refl

codes_same : {X : Type 0} (code : X → ℕ) → ((x y : X) → code x ≡ code y → x ≡ y) → (xs ys : List X) → map code xs ≡ map code ys → xs ≡ ys
codes_same code one [] [] e = refl
codes_same code one [] (y ∷ ys) e = absurd cc
codes_same code one (x ∷ xs) [] e = absurd cc
codes_same {X} code one (x ∷ xs) (y ∷ ys) e =
    let first : code x ≡ code y = cc in
    let rest : map code xs ≡ map code ys = cc in
    ap (λ (z : X). z ∷ xs) (one x y first) ∙ ap (λ (l : List X). y ∷ l) (codes_same code one xs ys rest)

-- the test for equal tuples
abbrev pub is_same_tuple : Tuple → Tuple → Bool
is_same_tuple x y =
    (pointwise nat_eq (map part_code x.parts) (map part_code y.parts) && pointwise nat_eq (map mark_code x.done) (map mark_code y.done))
    && ((part_code x.stamp == part_code y.stamp) && (x.hops == y.hops))

pub Decides-is_same_tuple : (x y : Tuple) → Decides (is_same_tuple x y) (x ≡ y)
Decides-is_same_tuple x y = (there, back)
  where
    there : is_same_tuple x y ≡ true → x ≡ y
    there h =
        let both = and_parts (pointwise nat_eq (map part_code x.parts) (map part_code y.parts) && pointwise nat_eq (map mark_code x.done) (map mark_code y.done)) ((part_code x.stamp == part_code y.stamp) && (x.hops == y.hops)) h in
        let first = and_parts (pointwise nat_eq (map part_code x.parts) (map part_code y.parts)) (pointwise nat_eq (map mark_code x.done) (map mark_code y.done)) both.0 in
        let second = and_parts (part_code x.stamp == part_code y.stamp) (x.hops == y.hops) both.1 in
        let parts : x.parts ≡ y.parts = codes_same part_code part_same x.parts y.parts ((bytes_decides (map part_code x.parts) (map part_code y.parts)).0 first.0) in
        let done : x.done ≡ y.done = codes_same mark_code mark_same x.done y.done ((bytes_decides (map mark_code x.done) (map mark_code y.done)).0 first.1) in
        let stamp : x.stamp ≡ y.stamp = part_same x.stamp y.stamp (eqb-true (part_code x.stamp) (part_code y.stamp) second.0) in
        let hops : x.hops ≡ y.hops = eqb-true x.hops y.hops second.1 in
        ap (λ (p : List (Option ℕ)). let t : Tuple = record { parts = p; stamp = x.stamp; done = x.done; hops = x.hops } in t) parts
        ∙ ap (λ (s : Option ℕ). let t : Tuple = record { parts = y.parts; stamp = s; done = x.done; hops = x.hops } in t) stamp
        ∙ ap (λ (d : List Bool). let t : Tuple = record { parts = y.parts; stamp = y.stamp; done = d; hops = x.hops } in t) done
        ∙ ap (λ (n : ℕ). let t : Tuple = record { parts = y.parts; stamp = y.stamp; done = y.done; hops = n } in t) hops

    back : x ≡ y → is_same_tuple x y ≡ true
    back e =
        and_from (pointwise nat_eq (map part_code x.parts) (map part_code y.parts) && pointwise nat_eq (map mark_code x.done) (map mark_code y.done)) ((part_code x.stamp == part_code y.stamp) && (x.hops == y.hops))
        (and_from (pointwise nat_eq (map part_code x.parts) (map part_code y.parts)) (pointwise nat_eq (map mark_code x.done) (map mark_code y.done))
        ((bytes_decides (map part_code x.parts) (map part_code y.parts)).1 (ap (λ (t : Tuple). map part_code t.parts) e))
        ((bytes_decides (map mark_code x.done) (map mark_code y.done)).1 (ap (λ (t : Tuple). map mark_code t.done) e)))
        (and_from (part_code x.stamp == part_code y.stamp) (x.hops == y.hops)
        (eq-eqb (part_code x.stamp) (part_code y.stamp) (ap (λ (t : Tuple). part_code t.stamp) e)) (eq-eqb x.hops y.hops (ap (λ (t : Tuple). t.hops) e)))
