use Rattle.std.proofs.Common.{◌≡◌, ◌++◌, to_z, of_z, ◌^◌, ◌<◌, List, ℕ, Fits, w64, arith, ap, sym, ◌∙◌}
use Rattle.std.specs.Prelude.{unsigned_abs}
use Rattle.std.specs.Fmt.{signed_decimal}
use Rattle.std.proofs.Math.Facts.{to_z-of_z, Fits-nat_abs}
use Rattle.result_sink.proofs.DecimalLaws.{field_text-integer}
use Rattle.result_sink.proofs.field.push_integer.Goals as goal

pub returns : goal.returns
returns c =
    let size : Fits w64 (unsigned_abs c.args.number) = Fits-nat_abs {w' = w64} tt c.ranges.number in
    let small : unsigned_abs c.args.number < 2 ^ 64 = omega (arith, size) in
    let same : to_z w64 (of_z w64 c.args.number) ≡ c.args.number = to_z-of_z c.ranges.number in
    c.in_ok-extend_from_slice.ensures.items
    ∙ ap (λ (t : List ℕ). c.args.line.now.items ++ t)
    (c.as_bytes.ensures.value ∙ c.format.ensures.text ∙ ap signed_decimal same ∙ sym (field_text-integer c.args.number small))
