-- The whole answer of binding: the block, with a shape where the statement is shaped, or the fault of the first round
-- that has one.
use Rattle.std.specs.Prelude.{◌≡◌, ℕ, ◌<◌, ◌⊎◌, true, [], length, Some, slice_get}
use Rattle.sq_parse.specs.declared.tree.Statement.{Statement}
use Rattle.sq_expr.specs.Reach.{IsInReach, IsReachable}
use Rattle.sq_expr.specs.declared.block.AliasUse.{AliasUse}
use Rattle.sq_expr.specs.declared.block.Block.{Block}
use Rattle.sq_bind.specs.Fault.{IsFirst}
use Rattle.sq_bind.specs.Statement.{Scope, from_faults, rest_faults, matches_of, block_of, shaped_of}
use Rattle.sq_bind.specs.declared.shaped.Shaped.{Shaped}
use Rattle.sq_bind.specs.declared.fault.BindFault.{BindFault}
use Rattle.sq_bind.specs.declared.fault.BindFault.TheVariants.{Unreachable}

-- an alias is reached where some alias is scanned and it stands in the least closed set
pub record IsReachedAlias (block : Block) (alias : ℕ) : Type 0 where
  pub scanned : ℕ
  pub u : AliasUse
  pub at : slice_get block.aliases scanned ≡ Some u
  pub scan : u.access.scan ≡ true
  pub within : IsInReach block alias

-- the third round: the first alias that isn't reached
pub record IsFirstUnreached (block : Block) (alias : ℕ) : Type 0 where
  pub there : alias < length block.aliases
  pub unreached : IsReachedAlias block alias → ⊥
  pub first : (before : ℕ) → before < alias → IsReachedAlias block before

-- an alias that can't be reached is the fault of the third round
abbrev pub IsReachFault : Block → BindFault → Type 0
IsReachFault block f = (alias : ℕ) × (f ≡ Unreachable alias) × IsFirstUnreached block alias

-- the fault of a statement: the first of its first round that has one, which is FROM, the rest, or reach: that of the
-- aliases of FROM, by the conjuncts
abbrev pub IsBindFault : Scope → Statement → BindFault → Type 0
IsBindFault scope s f =
    IsFirst (from_faults scope s.sources) f
    ⊎ ((from_faults scope s.sources ≡ [])
    × (IsFirst (rest_faults scope s) f ⊎ ((rest_faults scope s ≡ []) × IsReachFault (matches_of scope s) f)))

-- a statement binds to a block: no round has a fault, and this is its block
pub record IsBound (scope : Scope) (s : Statement) (block : Block) : Type 0 where
  pub from : from_faults scope s.sources ≡ []
  pub rest : rest_faults scope s ≡ []
  pub is : block ≡ block_of scope s
  pub reachable : IsReachable block

-- a shaped statement binds to a block and a shape: no round has a fault, and these are they
pub record IsBoundShape (scope : Scope) (s : Statement) (shaped : Shaped) : Type 0 where
  pub from : from_faults scope s.sources ≡ []
  pub rest : rest_faults scope s ≡ []
  pub is : shaped ≡ shaped_of scope s
  pub reachable : IsReachable shaped.block

-- a statement has at most one fault
abbrev pub OneFault : Type 0
OneFault = (scope : Scope) (s : Statement) (f g : BindFault) → IsBindFault scope s f → IsBindFault scope s g → f ≡ g

-- and none beside a block
abbrev pub NoneBeside : Type 0
NoneBeside =
    (scope : Scope) (s : Statement) (block : Block) (f : BindFault) → IsBound scope s block → IsBindFault scope s f → ⊥

-- nor beside a block and a shape
abbrev pub NoneBesideShape : Type 0
NoneBesideShape =
    (scope : Scope) (s : Statement) (shaped : Shaped) (f : BindFault)
    → IsBoundShape scope s shaped → IsBindFault scope s f → ⊥

-- a statement with sources has a block or a fault
abbrev pub SomeAnswer : Type 0
SomeAnswer = (scope : Scope) (s : Statement) → 0 < length s.sources
    → ((block : Block) × IsBound scope s block) ⊎ ((f : BindFault) × IsBindFault scope s f)

-- and a block and a shape, or a fault
abbrev pub SomeShape : Type 0
SomeShape = (scope : Scope) (s : Statement) → 0 < length s.sources
    → ((shaped : Shaped) × IsBoundShape scope s shaped) ⊎ ((f : BindFault) × IsBindFault scope s f)
