use Rattle.std.proofs.Common.{refl, subst}
use Rattle.remote_lookup.specs.Asked.{IsKey, Grown}
use Rattle.remote_lookup.proofs.SetLemmas.{grown, ordered}
use Rattle.remote_lookup.specs.declared.remote.RemoteKey.{RemoteKey}
use Rattle.std.proofs.Common.{List}
use Rattle.remote_lookup.proofs.key_set.KeySet.insert.Goals as goal

pub returns-clause-grown : goal.returns-clause-grown
returns-clause-grown c =
    subst (λ (old : List RemoteKey). Grown (IsKey c.args.key) old c.insert.new.self.keys) c.self.view_is
    (grown _ (λ a b. refl) c.self.inside.keys.keys c.insert.new.self.keys c.args.key c.in_ok-insert.ensures.updates.0)

pub returns-in_err-insert-clause-ordered : goal.returns-in_err-insert-clause-ordered
returns-in_err-insert-clause-ordered c = ordered _ (λ a b. refl) c.insert.new.self.keys c.insert.ensures.ordered

pub returns-clause-ordered : goal.returns-clause-ordered
returns-clause-ordered c = ordered _ (λ a b. refl) c.insert.new.self.keys c.insert.ensures.ordered
