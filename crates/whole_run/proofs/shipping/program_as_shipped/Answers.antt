use Rattle.std.proofs.Common.{◌∙◌, inl, refl}
use Rattle.run_plan.specs.declared.status.Status.TheVariants as status
use Rattle.whole_run.proofs.HeadlineLemmas.{headline_by, headline_of}
use Rattle.whole_run.proofs.RunLemmas.{finished_usage, same_out, same_notes}
use Rattle.whole_run.proofs.shipping.program_as_shipped.Goals as goal

pub returns-in-Err : goal.returns-in-Err
returns-in-Err g c =
    let kept = c.in-Err.ensures.untouched in
    record {
      headline = rw kept.0 (headline_by _ _ _ _ _ _ c.note.result _ c.code_for.ensures
          (headline_of _ _ _ _ _ _ c.note.result (finished_usage _ _ _ c.args.outputs.now c.note.new.outputs status.Memory c.note.result (inl refl)
          (c.note.ensures.out ∙ same_out _ _ kept.1) (same_notes _ _ _ _ c.note.result kept.1 c.note.ensures.notes)) (λ e. refl)));
    }
