use Rattle.std.proofs.Common.{◌≡◌, ◌+◌, ◌++◌, List, take, drop, set, sym, ap, subst, ◌∙◌, arith}
use Rattle.csv.specs.Records.{fields_of}
use Rattle.table_csv.specs.declared.types.Seen.{Seen}
use Rattle.table_csv.specs.declared.types.Seen.TheVariants as seen
use Rattle.table_csv.specs.Work.{all_learned}
use Rattle.table_csv.proofs.TypeLemmas.{learned-more, learned-past, learned-end}
use Rattle.table_csv.proofs.types.learn_record.Goals as goal
use Rattle.table_csv.proofs.types.learn_record.Goals.{in-Some, in_default}

pub loop-i-preserved : goal.loop-i-preserved
loop-i-preserved c =
    let i = c.loop-i.i in
    let ss = c.loop-i.seen in
    let fs = fields_of c.args.row.now in
    let kept = λ (s : List Seen). take (i + 1) s ++ all_learned (drop (i + 1) s) (drop (i + 1) fs) ≡ all_learned c.args.seen.now fs in
    elim c.match-get.branch [
      | in-Some w ↦ subst kept (sym (w.seen-is ∙ ap (λ x. set ss i x) w.learn.ensures))
          (learned-more ss i fs w.in-Some.field.now seen.Nulls (omega (arith, c.loop-i-test.true, c.loop-i.auto.seen)) (sym w.in-Some.ensures.value) ∙ c.loop-i.invariant)
      | in_default w ↦ subst kept (sym w.seen-is) (learned-past ss i fs (sym w.in_default.ensures.value) ∙ c.loop-i.invariant)
    ]

pub returns : goal.returns
returns c =
    sym (learned-end c.loop-i.seen c.loop-i.i (fields_of c.args.row.now) (omega (arith, c.loop-i-test.false, c.loop-i.auto.seen))) ∙ c.loop-i.invariant
