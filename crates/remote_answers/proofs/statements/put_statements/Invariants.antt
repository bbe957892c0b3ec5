use Rattle.std.proofs.Common.{◌≡◌, take}
use Rattle.remote_answers.proofs.SoFarLemmas.{SoFar}
use Rattle.remote_answers.proofs.statements.put_statements.Given as goal

abbrev pub invariant-loop-index : goal.invariant-loop-index
invariant-loop-index g l = record {
  catalogue : l.catalogue ≡ l.initial.catalogue;
  holds : g.F.Folder.holds l.folder ≡ g.F.Folder.holds l.initial.folder;
  faults : g.F.Folder.faults l.folder ≡ g.F.Folder.faults l.initial.folder;
  so_far : SoFar l.engine.settings.now g.P.Predicates.gives l.initial.catalogue.tables l.remotes (g.F.Folder.holds l.initial.folder) (take l.index l.bounds)
      l.initial.outputs l.outputs;
}
