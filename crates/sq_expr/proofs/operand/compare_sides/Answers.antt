use Rattle.std.proofs.Common.{◌≡◌, Some, subst}
use Rattle.std.specs.Prelude.{Option, IfSome}
use Rattle.sq_value.specs.Relation.{HasKind}
use Rattle.sq_value.specs.declared.value.Value.{Value}
use Rattle.sq_value.specs.declared.value.ColType.{ColType}
use Rattle.sq_expr.specs.Fits.{FitsSide}
use Rattle.sq_expr.specs.Reading.{IsSeen}
use Rattle.sq_expr.proofs.ReadLemmas.{Comparable-columns}
use Rattle.sq_expr.proofs.operand.compare_sides.Goals as goal

-- the type that a column is known to have is its value's
of_type : (o : Option ColType) (v : Value) → IfSome o (λ k. HasKind k v) → (k : ColType) → o ≡ Some k → HasKind k v
of_type o v h k e = subst (λ (o : Option ColType). IfSome o (λ k. HasKind k v)) e h

pub compare-requires : goal.compare-requires
compare-requires c =
    let rows = c.args.rows.now in
    let has = IsSeen rows.tables.now rows.uses rows.rows in
    let class = c.requires.0 in
    Comparable-columns has class c.in-Column-Column.x c.in-Column-Column.y _ _
    (subst (FitsSide has class) c.in-Column-Column.is-0 c.requires.1.0)
    (subst (FitsSide has class) c.in-Column-Column.is-1 c.requires.1.1)
    (λ k s. of_type _ _ c.value.ensures.kind k s.kind)
    (λ k s. of_type _ _ c.value-in-Column-Column.ensures.kind k s.kind)
