use Rattle.std.proofs.Common.{◌≤◌, All, slice_index}
use Rattle.bag_meaning.specs.declared.combo.Combo.{Combo}
use Rattle.worked_cases.specs.Ready.{Fall}
use Rattle.worked_cases.proofs.given.falling.Given as goal

abbrev pub invariant-loop-first : goal.invariant-loop-first
invariant-loop-first l = record {
  fall : Fall l.combos.items;
  above : All (λ (c : Combo). l.last ≤ slice_index c.rows 0) l.combos.items;
}
