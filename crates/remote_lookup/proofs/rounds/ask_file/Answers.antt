use Rattle.std.proofs.Common.{◌<◌, ◌∙◌, ap, sym, subst, List, set, length, arith}
use Rattle.std.specs.Prelude.{slice_get}
use Rattle.sq_value.specs.Relation.{Relation}
use Rattle.remote_lookup.specs.Asking.{AreSpare}
use Rattle.remote_lookup.proofs.PlaceLemmas.{get_set_same, same_back, spare_back}
use Rattle.remote_lookup.proofs.rounds.ask_file.Goals as goal

pub returns-clause-table : goal.returns-clause-table
returns-clause-table g c =
    let q = c.args.query.now in
    same_back q.tables.now q.remotes.now c.args.spare.now c.args.at.remote c.requires.spare c.requires.there c.args.table c.set.result
    (ap (λ (l : List Relation). slice_get l c.args.at.remote) (sym c.set-own.ensures.replaced) ∙ c.set.ensures.given)

pub returns-clause-spare : goal.returns-clause-spare
returns-clause-spare g c =
    let q = c.args.query.now in
    subst (AreSpare q.tables.now q.remotes.now) (sym (c.set.ensures.replaced ∙ ap (λ (l : List Relation). set l c.args.at.remote c.set-own.result) c.set-own.ensures.replaced))
    (spare_back q.tables.now q.remotes.now c.args.spare.now c.args.at.remote c.requires.spare c.requires.there c.args.table c.set-own.result c.requires.columns c.set-own.ensures.given)

pub returns-clause-asked : goal.returns-clause-asked
returns-clause-asked g c =
    let low : c.args.at.remote < length c.args.spare.now = omega (arith, c.requires.there, c.requires.spare.count) in
    c.in_ok-ask_spare.ensures c.args.table
    (ap (λ (l : List Relation). slice_get l c.args.at.remote) c.set-own.ensures.replaced ∙ get_set_same c.args.spare.now c.args.at.remote c.args.table low)
