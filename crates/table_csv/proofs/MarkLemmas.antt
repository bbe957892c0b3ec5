-- A text that ends with a mark, and one that doesn't.
use Rattle.std.proofs.Common.{◌≡◌, ℕ, ◌-◌, true, false, List, ◌++◌, length, take, drop, Option, Some, None, sym, ap, ◌∙◌, subst, arith, length-append}
use Rattle.std.specs.Prelude.{MatchOption, IfSome, IfNone}
use Rattle.std.specs.Borrow.{Bor}
use Rattle.std.specs.Str.Pattern.{StripsSuffix, FindsTextSuffix}
use Rattle.std.proofs.Math.Seq.{drop-append_seam}
use Rattle.std.proofs.lemmas.Bool.{false_from_ne_true}
use Rattle.std.proofs.lemmas.List.{take-append-drop}
use Rattle.std.proofs.lemmas.Slice.Eq.{bytes_eq-Decides}
use Rattle.table_csv.specs.Marks.{ends}

-- a text with a mark behind something ends with it
ends-append : (mark front : List ℕ) → ends mark (front ++ mark) ≡ true
ends-append mark front =
    let long : length (front ++ mark) - length mark ≡ length front = omega (arith, length-append front mark) in
    let rest : drop (length (front ++ mark) - length mark) (front ++ mark) ≡ mark = ap (λ n. drop n (front ++ mark)) long ∙ drop-append_seam front mark in
    (bytes_eq-Decides mark (drop (length (front ++ mark) - length mark) (front ++ mark))).1 (sym rest)

-- and a text that ends with it has it behind something
append-ends : (mark text : List ℕ) → ends mark text ≡ true → text ≡ take (length text - length mark) text ++ mark
append-ends mark text e =
    let n = length text - length mark in
    let same = (bytes_eq-Decides mark (drop n text)).0 e in
    sym (take-append-drop n text) ∙ ap (λ rest. take n text ++ rest) (sym same)

pub before_some : (o : Option (Bor (List ℕ))) (mark text : List ℕ)
    → MatchOption o (FindsTextSuffix mark text None) (λ x. StripsSuffix (FindsTextSuffix mark) text x.now)
    → IfSome o (λ name. (ends mark text ≡ true) × (name.now ≡ take (length text - length mark) text))
before_some None mark text h = tt
before_some (Some name) mark text h =
    let (n, found, value, long) = h in
    let split : text ≡ take (length text - n) text ++ mark = found.1 in
    (subst (λ s. ends mark s ≡ true) (sym split) (ends-append mark (take (length text - n) text)), value ∙ ap (λ k. take (length text - k) text) found.0)

pub before_none : (o : Option (Bor (List ℕ))) (mark text : List ℕ)
    → MatchOption o (FindsTextSuffix mark text None) (λ x. StripsSuffix (FindsTextSuffix mark) text x.now)
    → IfNone o (ends mark text ≡ false)
before_none None mark text h = false_from_ne_true (ends mark text) (λ e. h (take (length text - length mark) text) (append-ends mark text e))
before_none (Some name) mark text h = tt
