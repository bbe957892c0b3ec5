use Rattle.std.proofs.lemmas.Bool.{eqb-true, eq-eqb}
use Rattle.std.proofs.lemmas.Nat.{bit_set_by_shift}
use Rattle.claim_order.proofs.sets.has.Goals as goal

pub returns : goal.returns
returns c =
    let shifted = bit_set_by_shift c.args.set c.args.alias in (
      (λ e. shifted.0 (eqb-true _ _ e)),
      (λ h. eq-eqb _ _ (shifted.1 h)),
    )
