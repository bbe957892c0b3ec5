use Rattle.std.proofs.Common.{ℕ, List, ap, sym, ◌∙◌, refl}
use Rattle.std.specs.Prelude.{ℤ, map}
use Rattle.sq_value.specs.declared.value.Value.{Value}
use Rattle.sq_expr.specs.declared.shape.AggKind.{AggKind}
use Rattle.group_sink.specs.Cells.{aggregate, out_of_value, least_first, greatest_first}
use Rattle.group_sink.specs.Lines as spec
use Rattle.group_sink.specs.Parts.{value_over}
use Rattle.group_sink.specs.Picked.{picked}
use Rattle.group_sink.specs.declared.line.Out.TheVariants as out
use Rattle.group_sink.proofs.CellLemmas.{total_by-One, total_by-Known, sum-is}
use Rattle.group_sink.proofs.PickLemmas.{pick_of-By}
use Rattle.group_sink.proofs.Results.{on_ok}
use Rattle.group_sink.proofs.column.agg_column.Goals as goal

pub returns-in-CountAll : goal.returns-in-CountAll
returns-in-CountAll c =
    let scale = spec.scale_of c.args.block.now c.args.tables.now c.args.column in
    let values : ℕ → List Value = λ group. picked group c.args.numbers.now (map (value_over c.args.block.now c.args.tables.now c.args.column) c.args.members.now) in
    on_ok c.count_column.result
    (λ made h. λ group below. h group below ∙ ap (λ (z : ℤ). out.Number z 0) (total_by-One (values group)) ∙ ap (λ (k : AggKind). aggregate scale k (values group)) (sym c.in-CountAll.is))
    c.count_column.ensures

pub returns-in-Count : goal.returns-in-Count
returns-in-Count c =
    let scale = spec.scale_of c.args.block.now c.args.tables.now c.args.column in
    let values : ℕ → List Value = λ group. picked group c.args.numbers.now (map (value_over c.args.block.now c.args.tables.now c.args.column) c.args.members.now) in
    on_ok c.count_column-in-Count.result
    (λ made h. λ group below. h group below ∙ ap (λ (z : ℤ). out.Number z 0) (total_by-Known (values group)) ∙ ap (λ (k : AggKind). aggregate scale k (values group)) (sym c.in-Count.is))
    c.count_column-in-Count.ensures

pub returns-in-Sum : goal.returns-in-Sum
returns-in-Sum c =
    let scale = spec.scale_of c.args.block.now c.args.tables.now c.args.column in
    let values : ℕ → List Value = λ group. picked group c.args.numbers.now (map (value_over c.args.block.now c.args.tables.now c.args.column) c.args.members.now) in
    on_ok c.sum_column.result
    (λ made h. λ group below. h group below ∙ sum-is scale (values group) ∙ ap (λ (k : AggKind). aggregate scale k (values group)) (sym c.in-Sum.is))
    c.sum_column.ensures

pub returns-in-Min : goal.returns-in-Min
returns-in-Min c =
    let scale = spec.scale_of c.args.block.now c.args.tables.now c.args.column in
    let values : ℕ → List Value = λ group. picked group c.args.numbers.now (map (value_over c.args.block.now c.args.tables.now c.args.column) c.args.members.now) in
    on_ok c.value_column.result
    (λ made h. λ group below. h group below ∙ ap out_of_value (pick_of-By least_first refl (values group)) ∙ ap (λ (k : AggKind). aggregate scale k (values group)) (sym c.in-Min.is))
    c.value_column.ensures

pub returns-in-Max : goal.returns-in-Max
returns-in-Max c =
    let scale = spec.scale_of c.args.block.now c.args.tables.now c.args.column in
    let values : ℕ → List Value = λ group. picked group c.args.numbers.now (map (value_over c.args.block.now c.args.tables.now c.args.column) c.args.members.now) in
    on_ok c.value_column-in-Max.result
    (λ made h. λ group below. h group below ∙ ap out_of_value (pick_of-By greatest_first refl (values group)) ∙ ap (λ (k : AggKind). aggregate scale k (values group)) (sym c.in-Max.is))
    c.value_column-in-Max.ensures
