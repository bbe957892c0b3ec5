use Rattle.std.proofs.Common.{◌≡◌, take}
use Rattle.remote_lookup.specs.Working.{HaveLoaded}
use Rattle.remote_lookup.proofs.rounds.load_round.Given as goal

abbrev pub invariant-loop-at : goal.invariant-loop-at
invariant-loop-at g l = record {
  holds : g.F.Folder.holds l.folder ≡ g.F.Folder.holds l.fn.folder;
  faults : g.F.Folder.faults l.folder ≡ g.F.Folder.faults l.fn.folder;
  loaded : HaveLoaded g.P.Predicates.gives l.query.block.now l.query.tables.now l.query.remotes.now (g.F.Folder.holds l.fn.folder) (take l.at-index l.fresh) l.fn.work l.work;
}
