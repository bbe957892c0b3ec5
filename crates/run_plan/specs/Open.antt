-- The remotes of a run over the tables of its catalogue, and how the statements reach them.
use Rattle.std.specs.Prelude.{◌≡◌, ◌≢◌, ℕ, false, List, All, AllPairs, Some, slice_get, slice_index_or}
use Rattle.sq_value.specs.Relation.{Relation}
use Rattle.sq_bind.specs.Statement.{scanned}
use Rattle.sq_expr.specs.declared.block.Access.{Access}
use Rattle.remote_lookup.specs.Filled.{remote_of}
use Rattle.remote_lookup.specs.Needed.{AreRemotes}
use Rattle.remote_lookup.specs.Loaded.{IsRemote}
use Rattle.remote_lookup.specs.declared.remote.Remote.{Remote}
use Rattle.run_base.specs.declared.bound.Bound.{Bound}
use Rattle.run_plan.specs.declared.plan.Plan.{Plan}

-- each remote has a table of its own, which is there and has no rows; the column that it is looked up by is INTEGER
pub record AreOpen (tables : List Relation) (remotes : List Remote) : Type 0 where
  pub each : All (IsRemote tables) remotes
  pub differ : AllPairs (λ (a b : Remote). a.table ≢ b.table) remotes

-- the table of each remote is reached by its look-up alone
abbrev pub AreReached : List Remote → List Access → Type 0
AreReached remotes accesses =
    (table remote : ℕ) (r : Remote) → remote_of remotes table ≡ Some remote → slice_get remotes remote ≡ Some r
    → slice_index_or accesses table scanned ≡ record { scan = false; look_up = Some r.column }

-- the remotes of a plan: they are open, and each statement reaches them by their look-ups alone
pub record HasRemotes (plan : Plan) : Type 0 where
  pub opened : AreOpen plan.catalogue.tables plan.remotes
  pub reached : All (λ (b : Bound). AreRemotes b.block plan.remotes) plan.statements
