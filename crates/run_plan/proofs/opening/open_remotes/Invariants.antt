use Rattle.std.proofs.Common.{◌≡◌, ◌+◌, [], length, take}
use Rattle.run_base.specs.Seen.{folder_seen}
use Rattle.run_plan.specs.Doing.{Went}
use Rattle.run_plan.specs.Given.{AreHeadingsGiven}
use Rattle.run_plan.specs.Headings.{opened_as}
use Rattle.run_plan.specs.Open.{AreOpen}
use Rattle.run_plan.proofs.HeadingLemmas.{IsOpenedTo}
use Rattle.run_plan.proofs.opening.open_remotes.Given as goal

abbrev pub invariant-loop-index : goal.invariant-loop-index
invariant-loop-index g l = record {
  count : length l.catalogue.tables ≡ length l.initial.catalogue.tables + l.index;
  opened : AreOpen l.catalogue.tables l.remotes;
  went : Went (folder_seen (g.F.Folder.holds l.initial.folder) (g.F.Folder.faults l.initial.folder))
      (folder_seen (g.F.Folder.holds l.folder) (g.F.Folder.faults l.folder)) (AreHeadingsGiven (take l.index l.words))
      (λ founds. IsOpenedTo founds (opened_as l.initial.catalogue []) (opened_as l.catalogue l.remotes) (take l.index l.words));
}
