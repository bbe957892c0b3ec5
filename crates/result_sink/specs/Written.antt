-- Serves proofs: values that can be written.
use Rattle.std.specs.Prelude.{◌≤◌, ⊤}
use Rattle.sq_value.specs.declared.value.Value.{Value}
use Rattle.sq_value.specs.declared.value.Value.TheVariants as value

-- the scale of a decimal number is at most 6
abbrev pub IsWritable : Value → Type 0
IsWritable value.Null = ⊤
IsWritable (value.Int n) = ⊤
IsWritable (value.Text t) = ⊤
IsWritable (value.Decimal d) = d.scale ≤ 6
