use Rattle.std.proofs.Common.{rules, ◌≡◌}
use Rattle.fn_registry.specs.ShippedSignatures.{shipped_signatures}
use Rattle.fn_registry.specs.Signatures.{signatures}
use Rattle.whole_run.proofs.ShippingLemmas.{shipped_headline}
use Rattle.whole_run.proofs.shipping.run_shipped.Goals as goal

pub returns-clause-headline : goal.returns-clause-headline
returns-clause-headline g c =
    let same : signatures c.put-3.new.functions ≡ shipped_signatures = search rules in
    shipped_headline (signatures c.put-3.new.functions) _ _ _ _ _ _ same c.program.ensures.headline
