use Rattle.std.proofs.Common.{sym, ◌∙◌}
use Rattle.std.specs.Str.{bytes_eq}
use Rattle.sq_value.specs.Name.{lower}
use Rattle.catalogue.proofs.ThereLemmas.{there_if, nowhere}
use Rattle.catalogue.proofs.names.fault_without_copy.Goals as goal

pub returns-then-is_there-clause-repeated : goal.returns-then-is_there-clause-repeated
returns-then-is_there-clause-repeated c =
    λ same. there_if (bytes_eq (lower c.args.name.now)) c.args.names.now.keys ∙ sym c.is_there.ensures ∙ c.if-is_there.true

pub returns-else-is_there-clause-memory : goal.returns-else-is_there-clause-memory
returns-else-is_there-clause-memory c =
    λ same. nowhere (bytes_eq (lower c.args.name.now)) c.args.names.now.keys (sym c.is_there.ensures ∙ c.if-is_there.false)
