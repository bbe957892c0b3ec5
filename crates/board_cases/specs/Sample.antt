-- Serves proofs: one list begins another.
use Rattle.std.specs.Prelude.{ℕ, List, [], ◌++◌}
use Rattle.std.proofs.Common.{sym, ap, ◌∙◌, append_assoc}
use Rattle.std.proofs.lemmas.List.{append-nil}
use mathlib.Core.List.{IsPrefix}

pub begins_same : (xs : List (ℕ × ℕ)) → IsPrefix xs xs
begins_same xs = ([], append-nil xs)

pub begins_further : (xs ys zs : List (ℕ × ℕ)) → IsPrefix xs ys → IsPrefix ys zs → IsPrefix xs zs
begins_further xs ys zs a b =
    (a.0 ++ b.0, sym (append_assoc xs a.0 b.0) ∙ (ap (λ (l : List (ℕ × ℕ)). l ++ b.0) a.1 ∙ b.1))
