use Rattle.std.proofs.Common.{refl, ap, ◌∙◌, subst, List, ℕ, arith}
use Rattle.catalogue.specs.Named.{with_table}
use Rattle.run_plan.specs.Given.{IsFileGiven}
use Rattle.run_plan.proofs.DoingLemmas.{through, went_into, stopped_memory, stopped_into}
use Rattle.run_plan.proofs.loading.push_table.Goals as goal

pub returns-in_err-table-clause-stopped : goal.returns-in_err-table-clause-stopped
returns-in_err-table-clause-stopped g c =
    let r = c.in_err-table.ensures.stopped in
    through c.from_residual.result c.in_err-table.field-0.0 _ c.from_residual.ensures.1
    (stopped_into _ _ _ _ _ _ _ _ _ c.in_err-table.field-0.0 refl refl r r.given
    (subst (λ (n : List ℕ). IsFileGiven n (g.F.Folder.holds c.args.folder.now) r.given) c.as_str.ensures r.agrees) (λ e. e) (λ f k. k)
    (record { tables = omega arith; accesses = omega arith; remotes = omega arith }))

pub returns-in-Ok-clause-added : goal.returns-in-Ok-clause-added
returns-in-Ok-clause-added g c =
    let w = c.in_ok-table.ensures.went in
    record {
      table = c.in_ok-table.table;
      added = c.in-Ok.ensures.added ∙ ap (λ (n : List ℕ). with_table c.args.catalogue.now n c.in_ok-table.table) c.as_str-2.ensures;
      went = went_into _ _ _ _ _ _ _ refl refl w w.given
          (subst (λ (n : List ℕ). IsFileGiven n (g.F.Folder.holds c.args.folder.now) w.given) c.as_str.ensures w.agrees) (λ e. e);
    }

pub returns-in-Err-clause-stopped : goal.returns-in-Err-clause-stopped
returns-in-Err-clause-stopped g c =
    let w = c.in_ok-table.ensures.went in
    stopped_memory _ _ _ _ _ _ _ w (subst (λ (n : List ℕ). IsFileGiven n (g.F.Folder.holds c.args.folder.now) w.given) c.as_str.ensures w.agrees)
