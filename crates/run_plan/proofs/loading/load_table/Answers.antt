use Rattle.std.proofs.Common.{sym, refl, ap, ◌∙◌, subst, List, ℕ, Err, arith}
use Rattle.std.proofs.lemmas.Result.{IfOk-weaker, IfErr-weaker}
use Rattle.table_csv.specs.TableFile.{table_of_bytes}
use Rattle.run_plan.specs.Faults.{table_status}
use Rattle.run_plan.specs.Steps.{ComesTo, or_fault}
use Rattle.run_plan.proofs.DoingLemmas.{through, went_into, stopped_pure, stopped_into}
use Rattle.run_plan.proofs.FilesLemmas.{table_read-ok, table_read-due, table_read-unread}
use Rattle.run_plan.proofs.loading.load_table.Goals as goal

pub returns-in_err-bytes-clause-stopped : goal.returns-in_err-bytes-clause-stopped
returns-in_err-bytes-clause-stopped g c =
    let r = c.in_err-bytes.ensures.stopped in
    through c.from_residual.result c.in_err-bytes.field-0.0 _ c.from_residual.ensures.1
    (stopped_into _ _ _ _ _ _ _ _ _ c.in_err-bytes.field-0.0 refl refl r r.given r.agrees
    (λ e. table_read-unread c.args.number r.given c.in_err-bytes.field-0.0 e) (λ f k. k) (record { tables = omega arith; accesses = omega arith; remotes = omega arith }))

pub returns-clause-went : goal.returns-clause-went
returns-clause-went g c =
    let w = c.in_ok-bytes.ensures.went in
    IfOk-weaker c.table_of.result _ _
    (λ t e. went_into _ _ _ _ _ _ _ refl refl w w.given w.agrees
    (λ k. table_read-ok c.args.number w.given c.in_ok-bytes.bytes.items t k (ap table_of_bytes (sym c.as_slice.ensures.value) ∙ e)))
    c.table_of.ensures.ok

pub returns-clause-stopped : goal.returns-clause-stopped
returns-clause-stopped g c =
    let w = c.in_ok-bytes.ensures.went in
    IfErr-weaker c.table_of.result _ _
    (λ s r. stopped_pure _ _ _ _ _ _ _ s w
    (λ due. table_read-due c.args.number w.given c.in_ok-bytes.bytes.items s w.tells
    (subst (λ (b : List ℕ). ComesTo (or_fault (table_status c.args.number) (table_of_bytes b)) (Err s)) c.as_slice.ensures.value due)) r
    (record { tables = omega arith; accesses = omega arith; remotes = omega arith }))
    c.table_of.ensures.refused
