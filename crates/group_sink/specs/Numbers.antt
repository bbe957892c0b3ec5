-- Serves proofs: the numbers of members' groups.
use Rattle.std.specs.Prelude.{ℕ, Bool, true, false, List, [], ◌∷◌, length}
use Rattle.std.specs.List.{range_with_len}
use Rattle.sq_value.specs.declared.value.Value.{Value}
use Rattle.sq_expr.specs.declared.cond.ColumnOf.{ColumnOf}
use Rattle.group_sink.specs.Dense.{numbered}
use Rattle.group_sink.specs.Groups.{has_same_keys}
use Rattle.group_sink.specs.Picked.{kinds_from}

-- the number of each member's group
abbrev pub member_numbers : {X : Type 0} → Bool → (ColumnOf → X → Value) → List ColumnOf → List X → List ℕ
member_numbers true at keys members = numbered (has_same_keys at keys) members
member_numbers false at keys members = range_with_len 0 (length members)

-- how many groups there are
abbrev pub group_count : Bool → List ColumnOf → List ℕ → ℕ
group_count true [] numbers = 1
group_count true (c ∷ keys) numbers = kinds_from 0 numbers
group_count false keys numbers = length numbers
