use Rattle.std.proofs.Common.{sym, ◌∙◌, subst, rules}
use Rattle.std.specs.Io.KnownBytes.{Consumes}
use Rattle.std.proofs.KnownBytes.{Consumes-trans, starts_with_rest}
use Rattle.outside.proofs.reading.read_prefix.Goals as goal

pub loop-bytes-preserved : goal.loop-bytes-preserved
loop-bytes-preserved g c =
    let before = c.loop-bytes.invariant in
    let more = c.in_ok-read_more.ensures in
    record {
      within = search rules;
      taken = subst (Consumes _ _) (sym (starts_with_rest _ _ more.behind)) (Consumes-trans _ _ _ _ _ before.taken more.taken);
      kept = more.kept (λ e. cc) ∙ before.kept;
    }
