-- Cells of columns, one after another.
use Rattle.std.proofs.Common.{◌≡◌, ℕ, ◌+◌, ◌<◌, ◌≤◌, List, [], ◌∷◌, ◌++◌, length, drop, get_or, refl, ap, sym, ◌∙◌}
use Rattle.std.proofs.Math.ListN.{drop_of_length-le}
use Rattle.sq_value.specs.declared.table.Column.{Column}
use Rattle.sq_expr.specs.declared.shape.Cell.{Cell}
use Rattle.sq_bind.specs.Statement.{cells_from, plain_cell}
use Rattle.sq_bind.proofs.Walk.{walk}

append_assoc : (x y z : List Cell) → ((x ++ y) ++ z) ≡ (x ++ (y ++ z))
append_assoc [] y z = refl
append_assoc (c ∷ x) y z = ap (λ (rest : List Cell). c ∷ rest) (append_assoc x y z)

append_nil : (x : List Cell) → (x ++ []) ≡ x
append_nil [] = refl
append_nil (c ∷ x) = ap (λ (rest : List Cell). c ∷ rest) (append_nil x)

abbrev pub cell_at : ℕ → ℕ → List ℕ → Cell
cell_at alias column name = plain_cell name record { alias = alias; column = column }

-- the next column of an alias
pub next_cell : (alias : ℕ) (cs : List Column) (i : ℕ) (d : Column) (sofar whole : List Cell) → i < length cs
    → (sofar ++ cells_from alias i (drop i cs)) ≡ whole
    → ((sofar ++ (cell_at alias i (get_or cs i d).name ∷ [])) ++ cells_from alias (i + 1) (drop (i + 1) cs)) ≡ whole
unfolding cells_from
next_cell alias cs i d sofar whole =
    walk ◌++◌ append_assoc (λ k xs. cells_from alias k xs) (λ k c. cell_at alias k c.name ∷ []) (λ k c xs. refl) cs i d sofar whole

-- behind the last column there is none
pub all_cells : (alias : ℕ) (cs : List Column) (i : ℕ) (sofar whole : List Cell) → length cs ≤ i
    → (sofar ++ cells_from alias i (drop i cs)) ≡ whole → sofar ≡ whole
unfolding cells_from
all_cells alias cs i sofar whole past before =
    sym (append_nil sofar) ∙ ap (λ (xs : List Column). sofar ++ cells_from alias i xs) (sym (drop_of_length-le cs past)) ∙ before
