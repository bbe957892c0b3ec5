use Rattle.std.proofs.Common.{◌≡◌, refl, subst, sym, rules}
use Rattle.std.proofs.lemmas.Grind.{common_steps}
use Rattle.remote_lookup.specs.Rounds.{AreOrdered}
use Rattle.remote_lookup.proofs.SetLemmas.{ordered}
use Rattle.remote_lookup.proofs.key_set.KeySet.listed.Goals as goal

pub returns-clause-ordered : goal.returns-clause-ordered
returns-clause-ordered c =
    let same : c.loop-key.keys.items ≡ c.self.inside.keys.keys = search (rules, common_steps) in
    subst AreOrdered (sym same) (ordered _ (λ a b. refl) c.self.inside.keys.keys c.len.ensures.ordered)
