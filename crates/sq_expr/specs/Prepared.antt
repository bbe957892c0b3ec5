-- Serves proofs: what is prepared of the conjuncts of a block.
use Rattle.std.specs.Prelude.{◌≡◌, ℕ, List, Some, slice_get, ⊤}
use Rattle.sq_expr.specs.declared.block.Conjunct.{Conjunct}
use Rattle.sq_expr.specs.declared.cond.Cond.{Cond}
use Rattle.sq_expr.specs.declared.prepared.Prepared.{Prepared}
use Rattle.sq_expr.specs.declared.prepared.Prepared.TheVariants as prepared
use Rattle.sq_expr.specs.IntegerTest.{IsIntegerTest}
use Rattle.sq_expr.specs.Membership.{IsMembership}

-- what is prepared of a condition says what the condition says
abbrev pub IsPrepared : Cond → Prepared → Type 0
IsPrepared cond prepared.Nothing = ⊤
IsPrepared cond (prepared.Membership m) = IsMembership cond m
IsPrepared cond (prepared.IntegerTest t) = IsIntegerTest cond t

-- so for each conjunct
abbrev pub ArePrepared : List Conjunct → List Prepared → Type 0
ArePrepared conjuncts all =
    (p : ℕ) (c : Conjunct) (x : Prepared) → slice_get conjuncts p ≡ Some c → slice_get all p ≡ Some x
    → IsPrepared c.cond x
