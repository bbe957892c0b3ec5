-- Columns that are the same are equal.
use Rattle.std.proofs.Common.{◌≡◌, ◌&&◌, Bool, true, false, List, refl, sym, ap, ◌∙◌}
use Rattle.std.specs.Prelude.{nat_eq, ◌==◌}
use Rattle.std.specs.Bool.{Decides}
use Rattle.std.specs.Cmp.Lexicographic.{pointwise}
use Rattle.std.proofs.lemmas.Bool.Decides.{Decides-eqb}
use Rattle.std.proofs.lemmas.Slice.Eq.{slice_eq-Decides}
use Rattle.sq_value.specs.Columns.{is_same_kind, is_same_column, are_same_columns}
use Rattle.sq_value.specs.declared.value.ColType.{ColType}
use Rattle.sq_value.specs.declared.value.ColType.TheVariants as kind
use Rattle.sq_value.specs.declared.table.Column.{Column}

is_same_kind-decides : (a b : ColType) → Decides (is_same_kind a b) (a ≡ b)
is_same_kind-decides kind.Integer kind.Integer = (λ _. refl, λ _. refl)
is_same_kind-decides kind.Integer kind.Text = (λ e. absurd cc, λ e. absurd cc)
is_same_kind-decides kind.Integer (kind.Decimal b) = (λ e. absurd cc, λ e. absurd cc)
is_same_kind-decides kind.Text kind.Integer = (λ e. absurd cc, λ e. absurd cc)
is_same_kind-decides kind.Text kind.Text = (λ _. refl, λ _. refl)
is_same_kind-decides kind.Text (kind.Decimal b) = (λ e. absurd cc, λ e. absurd cc)
is_same_kind-decides (kind.Decimal a) kind.Integer = (λ e. absurd cc, λ e. absurd cc)
is_same_kind-decides (kind.Decimal a) kind.Text = (λ e. absurd cc, λ e. absurd cc)
is_same_kind-decides (kind.Decimal a) (kind.Decimal b) =
    let scales = Decides-eqb a b in
    (λ e. ap kind.Decimal (scales.0 e), λ e. scales.1 cc)

both : (p q : Bool) → (p && q) ≡ true → (p ≡ true) × (q ≡ true)
both true q e = (refl, e)
both false q e = absurd cc

is_same_column-decides : (a b : Column) → Decides (is_same_column a b) (a ≡ b)
is_same_column-decides a b =
    let names = slice_eq-Decides Decides-eqb a.name b.name (pointwise nat_eq a.name b.name) refl in
    let kinds = is_same_kind-decides a.kind b.kind in (
      λ e.
          let parts = both (pointwise nat_eq a.name b.name) (is_same_kind a.kind b.kind) e in
          let name = names.0 parts.0 in
          let kind = kinds.0 parts.1 in
          ap (λ n. record a { name = n }) name ∙ ap (λ k. record b { kind = k }) kind,
      λ e.
          let name = names.1 (ap (λ (c : Column). c.name) e) in
          let kind = kinds.1 (ap (λ (c : Column). c.kind) e) in
          ap (λ t. t && is_same_kind a.kind b.kind) name ∙ kind,
    )

pub are_same_columns-decides : (xs ys : List Column) → Decides (are_same_columns xs ys) (xs ≡ ys)
are_same_columns-decides xs ys = slice_eq-Decides is_same_column-decides xs ys (are_same_columns xs ys) refl
