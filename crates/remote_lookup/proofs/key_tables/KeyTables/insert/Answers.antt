use Rattle.std.proofs.Common.{refl}
use Rattle.remote_lookup.specs.Working.{known}
use Rattle.remote_lookup.proofs.SetLemmas.{ordered}
use Rattle.remote_lookup.proofs.key_tables.KeyTables.insert.Goals as goal

pub returns-in_err-insert-clause-ordered : goal.returns-in_err-insert-clause-ordered
returns-in_err-insert-clause-ordered c = ordered _ (λ a b. refl) (known c.insert.new.self.entries) c.insert.ensures.ordered

pub returns-clause-ordered : goal.returns-clause-ordered
returns-clause-ordered c = ordered _ (λ a b. refl) (known c.insert.new.self.entries) c.insert.ensures.ordered
