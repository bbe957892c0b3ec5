-- For the tests: when a remote fits, part by part.
use Rattle.std.specs.Prelude.{◌≡◌, ℕ, false, List, Some, slice_get}
use Rattle.std.specs.Option.{option_map}
use Rattle.sq_value.specs.Relation.{Relation}
use Rattle.sq_value.specs.declared.value.ColType.TheVariants.{Integer}
use Rattle.sq_expr.specs.declared.block.AliasUse.{AliasUse}
use Rattle.remote_lookup.specs.Filled.{remote_of}
use Rattle.remote_lookup.specs.declared.remote.Remote.{Remote}

-- a column of a table is INTEGER
abbrev pub IsIntegerOf : Relation → ℕ → Type 0
IsIntegerOf t column = option_map (λ c. c.kind) (slice_get t.columns column) ≡ Some Integer

-- an alias of a remote has a look-up in its column alone
abbrev pub IsReached : List Remote → AliasUse → Type 0
IsReached remotes u =
    (remote : ℕ) (r : Remote) → remote_of remotes u.table ≡ Some remote → slice_get remotes remote ≡ Some r
    → (u.access.scan ≡ false) × (u.access.look_up ≡ Some r.column)
