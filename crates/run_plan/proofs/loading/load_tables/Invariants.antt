use Rattle.std.proofs.Common.{◌≡◌, length, take}
use Rattle.run_plan.specs.Doing.{Went}
use Rattle.run_plan.specs.Given.{AreFilesGiven}
use Rattle.run_base.specs.Seen.{folder_seen}
use Rattle.run_plan.proofs.FilesLemmas.{IsReadTo}
use Rattle.run_plan.proofs.loading.load_tables.Given as goal

abbrev pub invariant-loop-index : goal.invariant-loop-index
invariant-loop-index g l = record {
  count : length l.catalogue.tables ≡ l.index;
  went : Went (folder_seen (g.F.Folder.holds l.initial.folder) (g.F.Folder.faults l.initial.folder))
      (folder_seen (g.F.Folder.holds l.folder) (g.F.Folder.faults l.folder)) (AreFilesGiven (take l.index l.words))
      (λ founds. IsReadTo founds (take l.index l.words) l.catalogue);
}
