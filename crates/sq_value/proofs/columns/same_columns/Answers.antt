use Rattle.std.proofs.Common.{◌≡◌, ◌∙◌, sym, true}
use Rattle.sq_value.proofs.ColumnLemmas.{are_same_columns-decides}
use Rattle.sq_value.proofs.columns.same_columns.Goals as goal

pub returns-clause-equal : goal.returns-clause-equal
returns-clause-equal c =
    let decides = are_same_columns-decides c.args.left.now c.args.right.now in
    (λ e. decides.0 (sym c.are_same.ensures ∙ e), λ e. c.are_same.ensures ∙ decides.1 e)
