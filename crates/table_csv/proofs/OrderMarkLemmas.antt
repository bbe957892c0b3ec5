-- Byte order marks at the beginning of bytes.
use Rattle.std.proofs.Common.{◌≡◌, ℕ, Bool, true, false, List, [], ◌∷◌, take, drop, cond, refl, sym, ap, ◌∙◌}
use Rattle.std.specs.Prelude.{◌&&◌, ◌==◌, nat_eq}
use Rattle.std.specs.Cmp.Lexicographic.{pointwise}
use Rattle.csv.specs.Reading.{is_bom, strip_bom}
use Rattle.table_csv.specs.TableFile.{behind_order_marks}

-- the byte order mark
abbrev pub order_mark : List ℕ
order_mark = 0xEF ∷ 0xBB ∷ 0xBF ∷ []

-- the test of three bytes by csv is that of std
is_bom-pointwise : (a b c : ℕ) → pointwise nat_eq (a ∷ b ∷ c ∷ []) order_mark ≡ is_bom a b c
is_bom-pointwise a b c = by (a == 0xEF) (b == 0xBB) (c == 0xBF)
  where
    by : (p q r : Bool) → (p && (q && (r && true))) ≡ ((p && q) && r)
    by true true true = refl
    by true true false = refl
    by true false r = refl
    by false q r = refl

-- behind a mark the marks go on
pub marked-rest : (xs : List ℕ) → pointwise nat_eq (take 3 xs) order_mark ≡ true → behind_order_marks (drop 3 xs) ≡ behind_order_marks xs
unfolding behind_order_marks
marked-rest [] e = absurd cc
marked-rest (a ∷ []) e = by (a == 0xEF) e
  where
    by : (p : Bool) → (p && false) ≡ true → behind_order_marks [] ≡ a ∷ []
    by true e = absurd cc
    by false e = absurd cc
marked-rest (a ∷ b ∷ []) e = by (a == 0xEF) (b == 0xBB) e
  where
    by : (p q : Bool) → (p && (q && false)) ≡ true → behind_order_marks [] ≡ a ∷ b ∷ []
    by true true e = absurd cc
    by true false e = absurd cc
    by false q e = absurd cc
marked-rest (a ∷ b ∷ c ∷ rest) e =
    ap (λ m. cond m (behind_order_marks rest) (a ∷ b ∷ c ∷ rest)) (sym (sym (is_bom-pointwise a b c) ∙ e))

-- what begins with none stays as it is
pub unmarked-rest : (xs : List ℕ) → pointwise nat_eq (take 3 xs) order_mark ≡ false → behind_order_marks xs ≡ xs
unfolding behind_order_marks
unmarked-rest [] e = refl
unmarked-rest (a ∷ []) e = refl
unmarked-rest (a ∷ b ∷ []) e = refl
unmarked-rest (a ∷ b ∷ c ∷ rest) e =
    ap (λ m. cond m (behind_order_marks rest) (a ∷ b ∷ c ∷ rest)) (sym (is_bom-pointwise a b c) ∙ e)

pub unmarked-strip : (xs : List ℕ) → pointwise nat_eq (take 3 xs) order_mark ≡ false → strip_bom xs ≡ xs
unfolding strip_bom
unmarked-strip [] e = refl
unmarked-strip (a ∷ []) e = refl
unmarked-strip (a ∷ b ∷ []) e = refl
unmarked-strip (a ∷ b ∷ c ∷ rest) e =
    ap (λ m. cond m rest (a ∷ b ∷ c ∷ rest)) (sym (is_bom-pointwise a b c) ∙ e)
