use Rattle.std.proofs.Common.{◌≡◌, ℕ, ◌++◌, ◌∷◌, [], List, map, refl, ap, sym, ◌∙◌, arith}
use Rattle.std.specs.List.{list_any}
use Rattle.std.proofs.lemmas.List.{map-append}
use Rattle.std.proofs.lemmas.List.Elements.{All-append, All-cons, All-nil}
use Rattle.eddy_picture.specs.declared.figures.Row.{Row}
use Rattle.eddy_picture.specs.Figures.{IsCounted, is_some_count, was_given, row_lane, taken_lanes}
use Rattle.eddy_picture.proofs.FigureLemmas.{lane_left, lane_taken}
use Rattle.eddy_picture.proofs.figures.figures_of.Goals as goal
use Rattle.eddy_picture.proofs.figures.figures_of.Goals.{then-has_count+in_ok-push, else-has_count}

pub loop-lane-init : goal.loop-lane-init
unfolding taken_lanes
loop-lane-init g c = rw c.new-rows.ensures.items (refl, All-nil (IsCounted c.args.counter.now))

pub loop-lane-preserved : goal.loop-lane-preserved
unfolding was_given
loop-lane-preserved g c =
    let given = c.args.counter.now.given in
    let lane = c.loop-lane.lane in
    let row = c.row_of-row.result in
    let old = c.loop-lane.rows.items in
    let number = c.row_of-row.ensures.number in
    let told : c.has_count.result ≡ was_given given lane =
    c.has_count.ensures ∙ ap (list_any is_some_count) c.row_of-row.ensures.counted.given ∙ ap (was_given given) number in
    elim c.if-has_count.branch [
      | then-has_count+in_ok-push w ↦
          let new = w.rows-is in
          rw new (
            ap (map row_lane) w.in_ok-push.ensures.items ∙ map-append row_lane old (row ∷ [])
                ∙ ap (λ (l : List ℕ). l ++ row_lane row ∷ []) c.loop-lane.invariant.0
                ∙ ap (λ (n : ℕ). taken_lanes given lane ++ n ∷ []) number
                ∙ sym (lane_taken given lane (sym told ∙ w.if-has_count.true)),
            rw w.in_ok-push.ensures.items
                (All-append (IsCounted c.args.counter.now) old (row ∷ []) c.loop-lane.invariant.1
                (All-cons (IsCounted c.args.counter.now) row [] c.row_of-row.ensures.counted (All-nil (IsCounted c.args.counter.now)))),
          )
      | else-has_count w ↦
          rw w.rows-is
          (c.loop-lane.invariant.0 ∙ sym (lane_left given lane (sym told ∙ w.if-has_count.false)), c.loop-lane.invariant.1)
    ]

pub returns-clause-lanes : goal.returns-clause-lanes
returns-clause-lanes g c =
    let all : c.loop-lane.lane ≡ 2376 = omega (arith, c.loop-lane-test.false, c.loop-lane.auto.lane-end) in
    c.loop-lane.invariant.0 ∙ ap (taken_lanes c.args.counter.now.given) all
