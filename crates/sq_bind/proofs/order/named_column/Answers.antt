use Rattle.std.proofs.Common.{ℕ, None, Some, ap, sym, ◌∙◌}
use Rattle.sq_bind.specs.Ordered.{told}
use Rattle.sq_bind.proofs.OrderLemmas.{held_at, meant_sorted}
use Rattle.sq_bind.proofs.order.named_column.Goals as goal
use Rattle.std.proofs.Common.{map}
use Rattle.sq_bind.specs.Seen.{seen}

pub returns-in-Some : goal.returns-in-Some
returns-in-Some c cells held =
    let column = c.args.column.now in
    let meant = c.in-Some.meant in
    let kept = held_at c.args.names.now.entries cells column.column.text c.args.name.now held c.requires in
    c.told.ensures ∙ ap (λ (at : ℕ). told at meant) c.column_place.ensures
    ∙ meant_sorted (map seen c.args.aliases.now) column cells (Some meant) (sym c.in-Some.is ∙ c.meaning.ensures ∙ kept)

pub returns-in-None : goal.returns-in-None
returns-in-None c cells held =
    let column = c.args.column.now in
    let kept = held_at c.args.names.now.entries cells column.column.text c.args.name.now held c.requires in
    c.resolved_column.ensures 0
    ∙ meant_sorted (map seen c.args.aliases.now) column cells None (sym c.in-None.is ∙ c.meaning.ensures ∙ kept)
