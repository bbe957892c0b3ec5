use Rattle.std.proofs.Common.{◌≡◌, ◌<◌, ◌≤◌, ◌∷◌, length, map, ap, ◌∙◌, arith}
use Rattle.std.specs.Vec.Iter.{into_iter_items}
use Rattle.std.proofs.lemmas.List.{length-map}
use Rattle.run_base.specs.Items.{item_over, items_over}
use Rattle.run_answers.specs.Joint.{bounds_of}
use Rattle.run_answers.specs.Text.{bound_as}
use Rattle.run_answers.proofs.PutLemmas.{put_through}
use Rattle.run_answers.proofs.TogetherLemmas.{bag_read, found_within, item_read, item_there, left_next, put_every, put_no_more, put_one_more, runnable_read}
use Rattle.run_answers.proofs.together.put_texts.Goals as goal

pub index-block-requires : goal.index-block-requires
index-block-requires g c =
    let before = c.loop-one.invariant in
    let tables = c.args.tables.now in
    let blocks = c.args.statements.now.blocks.items in
    let shapes = c.args.statements.now.shapes.items in
    let even = c.requires.even in
    let n = before.count in
    let gone = c.in-Some.ensures.steps.1 in
    let m = length-map c.args.found.items (λ f. f.combos.items) in
    let k = c.args.found.ok in
    let within = found_within g.P.Predicates.gives tables blocks shapes (map (λ f. f.combos.items) c.args.found.items) c.loop-one.at c.requires.found even (omega (arith, n, gone, m, k)) in
    let long = c.args.statements.now.blocks.ok in omega (arith, within, long)

pub index-shape-requires : goal.index-shape-requires
index-shape-requires g c =
    let before = c.loop-one.invariant in
    let tables = c.args.tables.now in
    let blocks = c.args.statements.now.blocks.items in
    let shapes = c.args.statements.now.shapes.items in
    let even = c.requires.even in
    let n = before.count in
    let gone = c.in-Some.ensures.steps.1 in
    let m = length-map c.args.found.items (λ f. f.combos.items) in
    let k = c.args.found.ok in
    let within = found_within g.P.Predicates.gives tables blocks shapes (map (λ f. f.combos.items) c.args.found.items) c.loop-one.at c.requires.found even (omega (arith, n, gone, m, k)) in
    let long = c.args.statements.now.shapes.ok in omega (arith, within, long, even)

pub put_text-requires-clause-runs : goal.put_text-requires-clause-runs
put_text-requires-clause-runs g c κs place =
    let before = c.loop-one.invariant in
    let tables = c.args.tables.now in
    let blocks = c.args.statements.now.blocks.items in
    let shapes = c.args.statements.now.shapes.items in
    let even = c.requires.even in
    let n = before.count in
    let gone = c.in-Some.ensures.steps.1 in
    let m = length-map c.args.found.items (λ f. f.combos.items) in
    let k = c.args.found.ok in
    let within = found_within g.P.Predicates.gives tables blocks shapes (map (λ f. f.combos.items) c.args.found.items) c.loop-one.at c.requires.found even (omega (arith, n, gone, m, k)) in
    runnable_read (g.P.Predicates.kinds_of c.args.engine.now.functions.now) tables blocks shapes c.loop-one.at c.index-block.result.now c.index-shape.result.now
    c.requires.run even within c.index-block.ensures c.index-shape.ensures

pub put_text-requires-clause-found : goal.put_text-requires-clause-found
put_text-requires-clause-found g c κs place =
    let before = c.loop-one.invariant in
    let tables = c.args.tables.now in
    let blocks = c.args.statements.now.blocks.items in
    let shapes = c.args.statements.now.shapes.items in
    let even = c.requires.even in
    let n = before.count in
    let gone = c.in-Some.ensures.steps.1 in
    let m = length-map c.args.found.items (λ f. f.combos.items) in
    let k = c.args.found.ok in
    let within = found_within g.P.Predicates.gives tables blocks shapes (map (λ f. f.combos.items) c.args.found.items) c.loop-one.at c.requires.found even (omega (arith, n, gone, m, k)) in
    bag_read (λ f. f.combos.items) g.P.Predicates.gives tables blocks shapes c.args.found.items (into_iter_items c.next.new.self) c.loop-one.at
    c.index-block.result.now c.index-shape.result.now c.in-Some.one c.requires.found even within c.index-block.ensures c.index-shape.ensures
    (before.left ∙ c.in-Some.ensures.steps.0)

pub loop-one-preserved : goal.loop-one-preserved
loop-one-preserved g c =
    let before = c.loop-one.invariant in
    let tables = c.args.tables.now in
    let blocks = c.args.statements.now.blocks.items in
    let shapes = c.args.statements.now.shapes.items in
    let even = c.requires.even in
    let n = before.count in
    let gone = c.in-Some.ensures.steps.1 in
    let m = length-map c.args.found.items (λ f. f.combos.items) in
    let k = c.args.found.ok in
    let within = found_within g.P.Predicates.gives tables blocks shapes (map (λ f. f.combos.items) c.args.found.items) c.loop-one.at c.requires.found even (omega (arith, n, gone, m, k)) in
    let rest = into_iter_items c.next.new.self in
    let next : into_iter_items c.loop-one.one-iterator ≡ c.in-Some.one ∷ rest = c.in-Some.ensures.steps.0 in
    let short = ap length next in
    let block = c.index-block.result.now in
    let shape = c.index-shape.result.now in
    record {
      count = omega (arith, n, gone);
      long = let l = before.long in omega (arith, l, gone, short);
      left = left_next c.args.found.items c.loop-one.at c.in-Some.one rest (before.left ∙ next);
      put = put_one_more g.P.Predicates.gives (items_over tables (bounds_of c.args.statements.now)) c.loop-one.at (item_over tables (bound_as block shape)) _ _ _ c.put_text.result
          (item_there tables blocks shapes c.loop-one.at even within) (item_read tables blocks shapes c.loop-one.at block shape even within c.index-block.ensures c.index-shape.ensures)
          before.put c.put_text.ensures c.in_ok-put_text.was;
    }

pub returns-in_err-put_text : goal.returns-in_err-put_text
returns-in_err-put_text g c =
    let before = c.loop-one.invariant in
    let tables = c.args.tables.now in
    let blocks = c.args.statements.now.blocks.items in
    let shapes = c.args.statements.now.shapes.items in
    let even = c.requires.even in
    let n = before.count in
    let gone = c.in-Some.ensures.steps.1 in
    let m = length-map c.args.found.items (λ f. f.combos.items) in
    let k = c.args.found.ok in
    let within = found_within g.P.Predicates.gives tables blocks shapes (map (λ f. f.combos.items) c.args.found.items) c.loop-one.at c.requires.found even (omega (arith, n, gone, m, k)) in
    let block = c.index-block.result.now in
    let shape = c.index-shape.result.now in
    put_through _ _ _ c.from_residual.result c.in_err-put_text.field-0.0 c.from_residual.ensures.1
    (put_no_more g.P.Predicates.gives (items_over tables (bounds_of c.args.statements.now)) c.loop-one.at (item_over tables (bound_as block shape)) _ _ _ c.put_text.result
    c.in_err-put_text.field-0.0 (item_there tables blocks shapes c.loop-one.at even within)
    (item_read tables blocks shapes c.loop-one.at block shape even within c.index-block.ensures c.index-shape.ensures) before.put c.put_text.ensures c.in_err-put_text.was)

pub returns : goal.returns
returns g c =
    let before = c.loop-one.invariant in
    let n = before.count in
    let none = c.in-None.ensures.steps.0 in
    let m = length-map c.args.found.items (λ f. f.combos.items) in
    let k = c.args.found.ok in
    let long = c.requires.found.long in
    put_every g.P.Predicates.gives (items_over c.args.tables.now (bounds_of c.args.statements.now)) c.loop-one.at _ _ (omega (arith, n, none, m, k, long)) before.put
