use Rattle.std.proofs.Common.{ℕ, List, ap, ◌∙◌}
use Rattle.group_sink.specs.Columns.{rank_in}
use Rattle.group_sink.specs.Picked.{met_first}
use Rattle.group_sink.specs.Parts.{has_same_ranks}
use Rattle.group_sink.proofs.FirstLemmas.{met_first-numbered}
use Rattle.group_sink.proofs.KeyLists.{ranks_equal}
use Rattle.group_sink.proofs.LineLemmas.{firsts-lines}
use Rattle.group_sink.proofs.Results.{on_ok}
use Rattle.group_sink.proofs.apart.groups_apart.Goals as goal

pub returns : goal.returns
returns c =
    let columns = c.args.columns.now in
    let xs = c.args.groups.now in
    on_ok c.first_of_each.result
    (λ kept h. h ∙ ap (λ (ns : List ℕ). met_first 0 ns xs) (c.as_slice.ensures.value ∙ c.in_ok-numbers.ensures)
    ∙ met_first-numbered (has_same_ranks rank_in columns) (ranks_equal rank_in columns) xs
    ∙ firsts-lines columns xs)
    c.first_of_each.ensures
