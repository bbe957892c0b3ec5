-- The names of the cells, one after another, and what they mean to ORDER BY.
use Rattle.std.proofs.Common.{◌≡◌, ℕ, suc, ◌+◌, length, arith, Bool, true, false, List, [], ◌∷◌, ◌++◌, Option, Some, None, Result, refl, ap, sym, ◌∙◌, cond, if◌then◌else◌}
use Rattle.std.specs.Prelude.{filter, not, ◌&&◌, String, string_bytes}
use Rattle.std.specs.List.{list_all}
use Rattle.std.specs.Map.{lookup, update}
use Rattle.std.specs.BTreeMap.{BTreeMap, get_by_text}
use Rattle.std.specs.Cmp.Lexicographic.{slice_cmp}
use Rattle.std.specs.Ordering.{is_eq, nat_cmp}
use Rattle.std.specs.Str.{bytes_eq}
use Rattle.std.proofs.lemmas.Slice.Eq.{bytes_eq-Decides}
use Rattle.sq_value.specs.Name.{lower, is_same_name}
use Rattle.sq_parse.specs.Tree.{column_place}
use Rattle.sq_parse.specs.declared.tree.ColRef.{ColRef}
use Rattle.sq_expr.specs.declared.shape.Cell.{Cell}
use Rattle.sq_expr.specs.declared.shape.SortOn.{SortOn}
use Rattle.sq_bind.specs.Visible.{Alias, meant}
use Rattle.sq_bind.specs.Statement.{candidates, sorted_on, column_meant, first_named, has_name, is_same_cell}
use Rattle.sq_bind.specs.declared.output.Meant.{Meant}
use Rattle.sq_bind.specs.declared.fault.BindFault.{BindFault}
use Rattle.sq_bind.specs.Ordered.{is_at, meant_with, meant_after, meant_from, meant_among, told, HoldsCells}

-- ---- what the cells of a name mean

and_assoc : (x y z : Bool) → ((x && y) && z) ≡ (x && (y && z))
and_assoc true y z = refl
and_assoc false y z = refl

-- with a cell that is known to come after others
abbrev marked : Meant → Bool → Meant
marked m one = record { place = m.place; agg = m.agg; column = m.column; is_one = one }

-- the cells of another name leave it, and each other one is compared with the first
known_before : (name : List ℕ) (first : ℕ) (m : Meant) (one : Bool) (cells : List Cell)
    → meant_from name first (Some (marked m one)) cells
    ≡ Some (marked m (one && list_all (is_at m.agg m.column) (filter (has_name name) cells)))
unfolding meant_from
known_before name first m true [] = refl
known_before name first m false [] = refl
known_before name first m one (c ∷ cells) = by (has_name name c) (λ k. known_before name (first + 1) m k cells)
  where
    by : (b : Bool)
        → ((k : Bool) → meant_from name (first + 1) (Some (marked m k)) cells
        ≡ Some (marked m (k && list_all (is_at m.agg m.column) (filter (has_name name) cells))))
        → meant_from name (first + 1) (if b then Some (marked m (one && is_at m.agg m.column c)) else Some (marked m one)) cells
        ≡ Some (marked m (one && list_all (is_at m.agg m.column)
        (if b then c ∷ filter (has_name name) cells else filter (has_name name) cells)))
    by true again =
        again (one && is_at m.agg m.column c)
        ∙ ap (λ (b : Bool). Some (marked m b)) (and_assoc one (is_at m.agg m.column c)
        (list_all (is_at m.agg m.column) (filter (has_name name) cells)))
    by false again = again one

-- what the cells of a name mean, by these cells and the place of the first of them
abbrev by_first : ℕ → List Cell → Option Meant
by_first place [] = None
by_first place (x ∷ more) =
    Some (record { place = place; agg = x.agg; column = x.column; is_one = list_all (is_same_cell x) more })

none_before : (name : List ℕ) (first : ℕ) (cells : List Cell)
    → meant_from name first None cells ≡ by_first (first + first_named cells name) (filter (has_name name) cells)
unfolding meant_from
none_before name first [] = refl
none_before name first (c ∷ cells) = by (has_name name c) (none_before name (first + 1) cells)
  where
    by : (b : Bool)
        → meant_from name (first + 1) None cells
        ≡ by_first ((first + 1) + first_named cells name) (filter (has_name name) cells)
        → meant_from name (first + 1) (if b then Some (meant_with first None c) else None) cells
        ≡ by_first (first + cond (not b) (1 + first_named cells name) 0)
        (if b then c ∷ filter (has_name name) cells else filter (has_name name) cells)
    by true again =
        let here : first ≡ first + 0 = omega arith in
        known_before name (first + 1) (meant_with first None c) true cells
        ∙ ap (λ (p : ℕ). by_first p (c ∷ filter (has_name name) cells)) here
    by false again =
        let there : (first + 1) + first_named cells name ≡ first + (1 + first_named cells name) = omega arith in
        again ∙ ap (λ (p : ℕ). by_first p (filter (has_name name) cells)) there

-- what a name means, by what is kept under it
abbrev by_meaning : List Alias → ColRef → Option Meant → Result SortOn BindFault
by_meaning aliases c None = column_meant (meant aliases c)
by_meaning aliases c (Some m) = told (column_place c) m

-- it is what ORDER BY takes of the cells of that name
pub meant_sorted : (aliases : List Alias) (c : ColRef) (cells : List Cell) (known : Option Meant)
    → known ≡ meant_among c.column.text cells
    → by_meaning aliases c known
    ≡ sorted_on aliases c (first_named cells c.column.text) (candidates cells None c.column.text)
unfolding told
meant_sorted aliases c cells known e =
    ap (by_meaning aliases c) (e ∙ none_before c.column.text 0 cells ∙ ap (λ (p : ℕ). by_first p named) zero_more)
    ∙ by named
  where
    named : List Cell
    named = filter (has_name c.column.text) cells

    zero_more : 0 + first_named cells c.column.text ≡ first_named cells c.column.text
    zero_more = omega arith

    by : (xs : List Cell)
        → by_meaning aliases c (by_first (first_named cells c.column.text) xs)
        ≡ sorted_on aliases c (first_named cells c.column.text) xs
    by [] = refl
    by (x ∷ xs) = refl

-- one more cell
one_more : (name : List ℕ) (first : ℕ) (known : Option Meant) (cells : List Cell) (c : Cell)
    → meant_from name first known (cells ++ (c ∷ []))
    ≡ meant_after name (first + length cells) (meant_from name first known cells) c
unfolding meant_from
one_more name first known [] c = let here : first ≡ first + 0 = omega arith in ap (λ (p : ℕ). meant_after name p known c) here
one_more name first known (x ∷ cells) c =
    let there : (first + 1) + length cells ≡ first + suc (length cells) = omega arith in
    one_more name (first + 1) (meant_after name first known x) cells c
    ∙ ap (λ (p : ℕ). meant_after name p (meant_from name (first + 1) (meant_after name first known x) cells) c) there

-- ---- the entries, with one more cell

-- the test by which a name in lower case is looked for
abbrev is_key : {A : Type 0} → List ℕ → String A → Bool
is_key low key = is_eq (slice_cmp nat_cmp low (string_bytes key))

module _ {A : Type 0} where
  -- no entries, and no cells
  pub no_cells : (es : List (String A × Meant)) → es ≡ [] → HoldsCells es []
  unfolding HoldsCells meant_from
  no_cells es e name = ap (λ (xs : List (String A × Meant)). lookup (is_key (lower name)) xs) e

  -- what is kept under a name that is given in lower case
  pub held_at : (es : List (String A × Meant)) (cells : List Cell) (name low : List ℕ) → HoldsCells es cells → low ≡ lower name
      → lookup (λ key. is_eq (slice_cmp nat_cmp low (string_bytes key))) es ≡ meant_among name cells
  unfolding HoldsCells
  held_at es cells name low held is = ap (λ (l : List ℕ). lookup (is_key l) es) is ∙ held name

  -- a cell more, put under its name
  pub more_cells : (old new : BTreeMap (String A) Meant) (low : List ℕ) (front : List Cell) (c : Cell) (place : ℕ)
      → length front ≡ place → low ≡ lower c.name
      → ((q : List ℕ) → get_by_text new q
      ≡ update bytes_eq (get_by_text old) low (Some (meant_with place (meant_among c.name front) c)) q)
      → HoldsCells old.entries front → HoldsCells new.entries (front ++ (c ∷ []))
  unfolding HoldsCells
  more_cells old new low front c place long is put held name =
      put (lower name) ∙ ap (λ (l : List ℕ). cond (bytes_eq l (lower name)) (Some v) (get_by_text old (lower name))) is
      ∙ by (is_same_name c.name name) refl ∙ sym after
    where
      at : 0 + length front ≡ place
      at = omega (arith, long)

      after : meant_among name (front ++ (c ∷ [])) ≡ meant_after name place (meant_among name front) c
      after = one_more name 0 None front c ∙ ap (λ (p : ℕ). meant_after name p (meant_among name front) c) at

      v : Meant
      v = meant_with place (meant_among c.name front) c

      by : (b : Bool) → is_same_name c.name name ≡ b
          → cond b (Some v) (get_by_text old (lower name))
          ≡ (if b then Some (meant_with place (meant_among name front) c) else meant_among name front)
      by true e =
          let same : lower c.name ≡ lower name = (bytes_eq-Decides (lower c.name) (lower name)).0 e in
          let known : meant_among c.name front ≡ meant_among name front =
          sym (held c.name) ∙ ap (λ (l : List ℕ). lookup (is_key l) old.entries) same ∙ held name in
          ap (λ (k : Option Meant). Some (meant_with place k c)) known
      by false e = held name
