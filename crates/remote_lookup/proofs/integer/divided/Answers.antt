use Rattle.std.proofs.Common.{◌≡◌, ℤ, pos, ap, ◌∙◌, w64, rules}
use Rattle.std.proofs.lemmas.Int.{to_z-of_z}
use Rattle.std.specs.Int.RustNames.{int_rem}
use mir.Val.{SFits, to_z, of_z}
use Rattle.remote_lookup.proofs.IntegerLemmas.{no_rest}
use Rattle.remote_lookup.proofs.integer.divided.Goals as goal

pub returns-else-units-by-eq0 : goal.returns-else-units-by-eq0
returns-else-units-by-eq0 c = λ k e.
    let u : ℤ = c.args.units in
    let d : ℤ = c.args.by in
    let fu : SFits w64 u = search rules in
    let fd : SFits w64 d = search rules in
    let none : int_rem u d ≡ pos 0 = no_rest u d k c.requires e in
    c.if-units-by-eq0.false
    (ap (λ (x : ℤ). of_z w64 (int_rem x (to_z w64 (of_z w64 d)))) (to_z-of_z w64 u fu)
    ∙ ap (λ (x : ℤ). of_z w64 (int_rem u x)) (to_z-of_z w64 d fd)
    ∙ ap (of_z w64) none)
