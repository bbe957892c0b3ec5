use Rattle.std.proofs.Common.{◌≡◌, ◌⊎◌, inl, inr, refl, ◌+◌, ◌-◌, ◌<◌, ◌≤◌, ℕ, length, slice_index, sym, ⊎_elim, subst, arith}
use Rattle.std.specs.Str.{IsUtf8, IsCharBoundary}
use Rattle.std.proofs.lemmas.Str.{IsCharBoundary-end, IsCharBoundary-before_ascii, IsCharBoundary-after_ascii}
use Rattle.sq_token.specs.declared.form.Form.{Form}
use Rattle.sq_token.specs.declared.form.Form.TheVariants as form
use Rattle.sq_token.specs.Form.{Text, symbol, IsSeam, IsSeamed, IsCut}

after : (z : Text) (n : ℕ) → IsUtf8 z → 1 ≤ n → n ≤ length z → slice_index z (n - 1) < 128 → IsCharBoundary z n
after z n u low high small =
    let back : (n - 1) + 1 ≡ n = omega arith in
    subst (λ k. IsCharBoundary z k) back (IsCharBoundary-after_ascii z (n - 1) u (omega arith) small)

before : (z : Text) (n : ℕ) → n < length z → slice_index z n < 128 → IsCharBoundary z n
before z n high small = IsCharBoundary-before_ascii z n high small

at_end : (z : Text) (n : ℕ) → n ≡ length z → IsCharBoundary z n
at_end z n e = subst (λ k. IsCharBoundary z k) (sym e) (IsCharBoundary-end z)

beside : (z : Text) (n : ℕ) → n ≤ length z → slice_index z n < 128 → IsCharBoundary z n
beside z n high small = (high, λ low big. omega arith)

IsCharBoundary-from_seam : (z : Text) (n : ℕ) → IsUtf8 z → 1 ≤ n → n ≤ length z → IsSeam z n → IsCharBoundary z n
IsCharBoundary-from_seam z n u low high s =
    ⊎_elim (after z n u low high) (⊎_elim (at_end z n) (beside z n high)) s

inside : (z : Text) (n : ℕ) → IsUtf8 z → n ≤ length z → (2 ≤ n) × (slice_index z 0 < 128) × (slice_index z (n - 1) < 128) → (2 ≤ n) × IsCharBoundary z n × IsCharBoundary z 1 × IsCharBoundary z (n - 1)
inside z n u high h =
    (h.0, after z n u (omega arith) high h.2, after z 1 u (omega arith) (omega arith) h.1, before z (n - 1) (omega arith) h.2)

-- a text may be cut where the bytes beside the place show it
pub IsCut-from_seams : (f : Form) (z : Text) (n : ℕ) → IsUtf8 z → 1 ≤ n → n ≤ length z → IsSeamed f z n → IsCut f z n
IsCut-from_seams form.Blank z n u low high s = IsCharBoundary-from_seam z n u low high s
IsCut-from_seams form.Word z n u low high s = IsCharBoundary-from_seam z n u low high s
IsCut-from_seams form.Delimited z n u low high s = inside z n u high s
IsCut-from_seams form.Number z n u low high s = IsCharBoundary-from_seam z n u low high s
IsCut-from_seams form.Text z n u low high s = inside z n u high s
IsCut-from_seams form.Symbol z n u low high s = IsCharBoundary-from_seam z n u low high s
IsCut-from_seams form.Bad z n u low high s = tt

-- `<=` and `<>` are symbols of two bytes
pub symbol_less : (next : ℕ) → (next ≡ 61) ⊎ ((next ≡ 61 → ⊥) × (next ≡ 62)) → ◌≡◌ {A = Form × ℕ} (form.Symbol, 2) (symbol 60 next)
symbol_less next (inl e) = rw e refl
symbol_less next (inr e) = rw e.1 refl
