-- Serves proofs: columns kept as a set of pairs, each of an alias and a column's number.
use Rattle.std.specs.Prelude.{ℕ, Bool}
use Rattle.std.specs.Ordering.{ordering_then, nat_cmp}
use Rattle.std.specs.declared.cmp.Ordering.{Ordering}
use Rattle.std.specs.BTreeSet.{BTreeSet, contains}
use Rattle.sq_expr.specs.declared.cond.ColumnOf.{ColumnOf}

-- the order of two pairs, by the alias first
abbrev pub pair_cmp : ℕ × ℕ → ℕ × ℕ → Ordering
pair_cmp x y = ordering_then (nat_cmp x.0 y.0) (nat_cmp x.1 y.1)

-- whether a column is in a set
unfoldable pub has : BTreeSet (ℕ × ℕ) → ColumnOf → Bool
has places c = contains pair_cmp places (c.alias, c.column)
