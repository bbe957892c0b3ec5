-- Lines, taken one after another.
use Rattle.std.proofs.Common.{◌≡◌, ◌∙◌, ℕ, ◌+◌, ◌<◌, ◌≤◌, List, length, map, drop, get_or, Some, None, Bor, ap}
use Rattle.std.specs.Prelude.{option_and_then}
use Rattle.std.proofs.lemmas.List.{drop_more, drop_all}
use Rattle.catalogue.specs.Named.{NamedTables}
use Rattle.case_kit.specs.Tables.{with_line, with_lines}

-- the lines from a place on
abbrev pub lines_from : List (Bor (List ℕ)) → ℕ → List (List ℕ)
lines_from xs i = map (λ x. x.now) (drop i xs)

at_line : (xs : List (Bor (List ℕ))) (i : ℕ) (d : Bor (List ℕ)) (before : NamedTables) → i < length xs
    → with_lines (lines_from xs i) before
    ≡ option_and_then (with_lines (lines_from xs (i + 1))) (with_line before (get_or xs i d).now)
at_line xs i d before within =
    ap (λ (ys : List (Bor (List ℕ))). with_lines (map (λ (x : Bor (List ℕ)). x.now) ys) before) (drop_more xs i d within)

-- a line that is added
pub next_line : (xs : List (Bor (List ℕ))) (i : ℕ) (d : Bor (List ℕ)) (before after : NamedTables) → i < length xs
    → with_line before (get_or xs i d).now ≡ Some after
    → with_lines (lines_from xs i) before ≡ with_lines (lines_from xs (i + 1)) after
next_line xs i d before after within is =
    at_line xs i d before within ∙ ap (option_and_then (with_lines (lines_from xs (i + 1)))) is

-- a line that is refused
pub refused_line : (xs : List (Bor (List ℕ))) (i : ℕ) (d : Bor (List ℕ)) (before : NamedTables) → i < length xs
    → with_line before (get_or xs i d).now ≡ None → with_lines (lines_from xs i) before ≡ None
refused_line xs i d before within is =
    at_line xs i d before within ∙ ap (option_and_then (with_lines (lines_from xs (i + 1)))) is

-- behind the last line
pub no_more_lines : (xs : List (Bor (List ℕ))) (i : ℕ) (c : NamedTables) → length xs ≤ i → with_lines (lines_from xs i) c ≡ Some c
no_more_lines xs i c past = ap (λ (ys : List (Bor (List ℕ))). with_lines (map (λ (x : Bor (List ℕ)). x.now) ys) c) (drop_all i xs past)
