use Rattle.std.proofs.Common.{◌≡◌, to_z, of_z, ◌/◌, ◌^◌, ◌<◌, Fits, w64, arith}
use Rattle.std.specs.Prelude.{unsigned_abs}
use Rattle.std.proofs.Math.Facts.{to_z-of_z}
use Rattle.std.proofs.Math.Nat.{div-le_self}
use Rattle.std.proofs.Math.Facts.{Fits-nat_abs}
use Rattle.result_sink.proofs.DecimalLaws.{field_text-decimal}
use Rattle.result_sink.proofs.field.push_units.Goals as goal

pub returns : goal.returns
returns c =
    let size : Fits w64 (unsigned_abs c.args.units) = Fits-nat_abs {w' = w64} tt c.ranges.units in
    let small : unsigned_abs c.args.units / 10 ^ c.args.scale < 2 ^ 64 =
    omega (arith, size, div-le_self (unsigned_abs c.args.units) (10 ^ c.args.scale)) in
    let same : to_z w64 (of_z w64 c.args.units) ≡ c.args.units = to_z-of_z c.ranges.units in
    rw (field_text-decimal record { units = c.args.units; scale = c.args.scale } small) (rw same at c.push_decimal.ensures)
