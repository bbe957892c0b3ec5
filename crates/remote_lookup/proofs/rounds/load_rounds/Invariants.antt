use Rattle.std.proofs.Common.{◌≡◌, ◌-◌, length}
use Rattle.remote_lookup.specs.Working.{AreFound, Means}
use Rattle.remote_lookup.proofs.RoundsLemmas.{IsDue, SoFar}
use Rattle.remote_lookup.proofs.rounds.load_rounds.Given as goal

abbrev pub invariant-loop-alloc : goal.invariant-loop-alloc
invariant-loop-alloc g l = record {
  holds : g.F.Folder.holds l.folder ≡ g.F.Folder.holds l.fn.folder;
  faults : g.F.Folder.faults l.folder ≡ g.F.Folder.faults l.fn.folder;
  due : IsDue g.P.Predicates.gives l.query.block.now l.query.tables.now l.query.remotes.now l.work;
  found : AreFound l.query.tables.now l.query.remotes.now (g.F.Folder.holds l.fn.folder) l.work.loaded;
  so_far : Means g.P.Predicates.gives l.query.block.now l.query.tables.now l.query.remotes.now l.fn.work
      → SoFar g.P.Predicates.gives l.query.block.now l.query.tables.now l.query.remotes.now l.work;
}

abbrev pub decreases-loop-alloc : goal.decreases-loop-alloc
decreases-loop-alloc g l = 18446744073709551616 - length l.work.loaded
