use Rattle.std.proofs.Common.{◌≡◌, suc, length, true}
use Rattle.std.specs.Prelude.{option_map}
use Rattle.std.specs.Option.{option_map_or}
use Rattle.command_line.specs.Answers.{with_items}
use Rattle.command_line.specs.Accesses.{items_in, tables_differ}
use Rattle.command_line.proofs.accesses.push_items.Given as goal

abbrev pub invariant-loop-left : goal.invariant-loop-left
invariant-loop-left l = record {
  same : with_items l.tables l.scan l.fn.accesses.items (items_in (option_map (λ t. t.now) l.fn.text))
      ≡ with_items l.tables l.scan l.accesses.items (items_in (option_map (λ t. t.now) l.left));
  differ : tables_differ l.accesses.items ≡ true;
}

abbrev pub decreases-loop-left : goal.decreases-loop-left
decreases-loop-left l = option_map_or (λ t. suc (length t.now)) l.left 0
