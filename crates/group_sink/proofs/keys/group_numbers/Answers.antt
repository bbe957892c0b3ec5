use Rattle.std.proofs.Common.{ℕ, List, get_or, take, sym, ap, ◌∙◌}
use Rattle.std.specs.Prelude.{map}
use Rattle.std.proofs.lemmas.List.{take_more, take_all}
use Rattle.sq_expr.specs.declared.cond.ColumnOf.{ColumnOf}
use Rattle.group_sink.specs.Dense.{numbered}
use Rattle.group_sink.specs.Groups.{has_same_keys}
use Rattle.group_sink.specs.Parts.{is_same_pair, pairs, rank_over, value_over}
use Rattle.group_sink.proofs.KeyLists.{ranks_step, ranks_none}
use Rattle.group_sink.proofs.keys.group_numbers.Goals as goal

pub loop-key-init : goal.loop-key-init
loop-key-init c =
    c.in_ok-numbers.ensures.items_if_clones_equal (λ y e. e)
    ∙ ranks_none (rank_over c.args.block.now c.args.tables.now) c.args.members.now

pub loop-key-preserved : goal.loop-key-preserved
loop-key-preserved c =
    let rank = rank_over c.args.block.now c.args.tables.now in
    let keys = c.args.keys.now in
    let xs = c.args.members.now in
    let i = c.loop-key.key-index in
    let key : ColumnOf = get_or keys i _ in
    c.in_ok-numbers-2.ensures
    ∙ ap (λ (ns : List ℕ). numbered is_same_pair (pairs ns (map (rank key) xs))) (c.as_slice.ensures.value ∙ c.loop-key.invariant)
    ∙ ranks_step rank (take i keys) key xs
    ∙ ap (λ (ks : List ColumnOf). numbered (has_same_keys (value_over c.args.block.now c.args.tables.now) ks) xs) (sym (take_more keys i _ c.loop-key-test.true))

pub returns : goal.returns
returns c =
    c.loop-key.invariant
    ∙ ap (λ (ks : List ColumnOf). numbered (has_same_keys (value_over c.args.block.now c.args.tables.now) ks) c.args.members.now)
    (take_all c.loop-key.key-index c.args.keys.now c.loop-key-test.false)
