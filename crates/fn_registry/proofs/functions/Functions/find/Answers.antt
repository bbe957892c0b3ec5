use Rattle.std.proofs.Common.{rules}
use Rattle.fn_registry.proofs.RegistryLaws.{found_is_known}
use Rattle.fn_registry.specs.Signatures.{signatures}
use Rattle.fn_registry.proofs.functions.Functions.find.Goals as goal

pub returns-clause-known : goal.returns-clause-known
returns-clause-known g c = found_is_known c.number_named.result (signatures c.args.self.now) c.args.name.now (search rules)
