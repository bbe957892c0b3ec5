-- Names that differ, and texts at their commas.
use Rattle.std.proofs.Common.{◌≡◌, ◌∙◌, ℕ, suc, ◌≤◌, ◌<◌, ◌-◌, ◌+◌, ◌&&◌, Bool, cond, true, false, List, [], ◌∷◌, length, take, drop, get_or, length-drop, refl, sym, ap, ap₂, arith}
use Rattle.std.specs.Prelude.{not}
use Rattle.std.specs.List.{list_any, slice_split, onto_first, position_or_len, before_first, after_first}
use Rattle.std.proofs.lemmas.List.Splits.{slice_split_first}
use Rattle.std.proofs.lemmas.List.{take_all}
use Rattle.command_line.specs.Tables.{has_name, names_differ}
use Rattle.command_line.specs.declared.command.TableWord.{TableWord}

-- what a slice has from a place on
pub from_place : {X : Type 0} (n : ℕ) (xs : List X) → take (length xs - n) (drop n xs) ≡ drop n xs
from_place n xs = take_all (length xs - n) (drop n xs) (omega (arith, length-drop n xs))

-- whether the names of no table, and of a table and more, differ
pub names_differ-none : (ts : List TableWord) → length ts < 1 → true ≡ names_differ ts
unfolding names_differ
names_differ-none [] h = refl
names_differ-none (t ∷ ts) h = absurd (omega arith)

pub names_differ-more : (ts : List TableWord) (t : TableWord) (name : List ℕ) (named : Bool) → 1 ≤ length ts → t ≡ get_or ts 0 t → name ≡ t.name
    → named ≡ list_any (has_name name) (take (length ts - 1) (drop 1 ts)) → (not named && names_differ (take (length ts - 1) (drop 1 ts))) ≡ names_differ ts
unfolding names_differ
names_differ-more [] t name named h e f g = absurd (omega arith)
names_differ-more (u ∷ us) t name named h e f g =
    let all : take (length (u ∷ us) - 1) us ≡ us = from_place 1 (u ∷ us) in
    let same : named ≡ list_any (has_name u.name) us =
    g ∙ ap (list_any (has_name name)) all ∙ ap (λ (n : List ℕ). list_any (has_name n) us) (f ∙ ap (λ (v : TableWord). v.name) e) in
    ap (λ (vs : List TableWord). not named && names_differ vs) all ∙ ap (λ b. not b && names_differ us) same

-- a text is its one item where it has no comma, and else the item before the first one, and those of what stands behind it
pub one_item : {X : Type 0} (p : X → Bool) (xs : List X) → position_or_len p xs ≡ length xs → slice_split p xs ≡ xs ∷ []
one_item p [] e = refl
one_item p (x ∷ xs) e = by (p x) refl e (λ h. one_item p xs h)
  where
    by : (b : Bool) → p x ≡ b → cond (not b) (1 + position_or_len p xs) 0 ≡ suc (length xs) → (position_or_len p xs ≡ length xs → slice_split p xs ≡ xs ∷ [])
        → cond b ([] ∷ slice_split p xs) (onto_first x (slice_split p xs)) ≡ (x ∷ xs) ∷ []
    by true f g more = absurd (omega (arith, g))
    by false f g more = ap (onto_first x) (more (omega (arith, g)))

pub item_cut : {X : Type 0} (p : X → Bool) (xs item rest : List X) (d : X) → item ≡ before_first p xs → rest ≡ after_first p xs → position_or_len p xs < length xs
    → slice_split p xs ≡ item ∷ slice_split p rest
item_cut p xs item rest d e f h = slice_split_first p xs d h ∙ ap₂ (λ (a b : List _). a ∷ slice_split p b) (sym e) (sym f)
