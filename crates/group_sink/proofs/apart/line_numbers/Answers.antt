use Rattle.std.proofs.Common.{◌≡◌, ℕ, List, Option, ◌+◌, [], ◌∷◌, ◌++◌, length, map, take, sym, ap, ◌∙◌}
use Rattle.std.proofs.lemmas.List.{length-map, take_more, take_all}
use Rattle.sq_value.specs.Rank.{Rank}
use Rattle.group_sink.specs.Columns.{rank_in}
use Rattle.group_sink.specs.Dense.{numbered}
use Rattle.group_sink.specs.Parts.{has_same_ranks, is_same_pair, pairs, rank_kept}
use Rattle.group_sink.specs.declared.column.Column.{Column}
use Rattle.group_sink.proofs.KeyLists.{ranks_step, ranks_none}
use Rattle.group_sink.proofs.apart.line_numbers.Goals as goal

pub loop-column-init : goal.loop-column-init
loop-column-init c = c.in_ok-numbers.ensures.items_if_clones_equal (λ y e. e) ∙ ranks_none rank_in c.args.groups.now

pub refined-requires : goal.refined-requires
refined-requires c =
    ap (length {A = ℕ}) (c.as_slice.ensures.value ∙ c.loop-column.invariant) ∙ length-map c.args.groups.now _
    ∙ sym (length-map c.args.groups.now (rank_in c.column-item.result)) ∙ ap (length {A = Option Rank}) (sym c.in_ok-keys.ensures)
    ∙ length-map c.in_ok-keys.keys.items rank_kept ∙ ap length (sym c.as_slice-in-loop-column.ensures.value)

pub loop-column-preserved : goal.loop-column-preserved
loop-column-preserved c =
    let columns = c.args.columns.now in
    let xs = c.args.groups.now in
    let i = c.loop-column.column-index in
    let column : Column = c.column-item.result in
    let front : take (i + 1) columns ≡ take i columns ++ column ∷ [] =
    take_more columns i column c.loop-column-test.true ∙ ap (λ (x : Column). take i columns ++ x ∷ []) (sym c.column-item.is) in
    c.in_ok-numbers-2.ensures
    ∙ ap (λ (ns : List ℕ). numbered is_same_pair (pairs ns (map rank_kept c.as_slice-in-loop-column.result.now))) (c.as_slice.ensures.value ∙ c.loop-column.invariant)
    ∙ ap (λ ks. numbered is_same_pair (pairs (numbered (has_same_ranks rank_in (take i columns)) xs) (map rank_kept ks))) c.as_slice-in-loop-column.ensures.value
    ∙ ap (λ (rs : List (Option Rank)). numbered is_same_pair (pairs (numbered (has_same_ranks rank_in (take i columns)) xs) rs)) c.in_ok-keys.ensures
    ∙ ranks_step rank_in (take i columns) column xs
    ∙ ap (λ (cs : List Column). numbered (has_same_ranks rank_in cs) xs) (sym front)

pub returns : goal.returns
returns c =
    c.loop-column.invariant
    ∙ ap (λ (cs : List Column). numbered (has_same_ranks rank_in cs) c.args.groups.now) (take_all c.loop-column.column-index c.args.columns.now c.loop-column-test.false)
