use Rattle.std.proofs.Common.{◌∙◌, ap, Option, List, ℕ, Bor}
use Rattle.std.specs.Prelude.{option_map}
use Rattle.command_line.specs.Accesses.{items_in}
use Rattle.command_line.specs.Answers.{with_items}
use Rattle.command_line.proofs.AccessLaws.{with_items-end}
use Rattle.command_line.proofs.accesses.push_items.Goals as goal

pub returns-clause-pushed : goal.returns-clause-pushed
returns-clause-pushed c =
    c.loop-left.invariant.same
    ∙ (ap (λ (o : Option (Bor (List ℕ))). with_items c.args.tables.now c.args.scan c.loop-left.accesses.items (items_in (option_map (λ t. t.now) o))) c.in_default.is
    ∙ with_items-end c.args.tables.now c.args.scan c.loop-left.accesses.items c.loop-left.invariant.differ)
