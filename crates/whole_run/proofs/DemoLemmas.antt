-- How a run of the demo ends.
use Rattle.std.proofs.Common.{◌≡◌, ℕ, List, [], ◌∷◌, length, Option, Some, None, Result, Ok, Err, refl, sym, ◌∙◌, ap, subst, arith, inl, inr}
use Rattle.command_line.specs.declared.command.Task.{Task}
use Rattle.command_line.specs.declared.command.Task.TheVariants as task
use Rattle.remote_lookup.specs.declared.remote.Remote.{Remote}
use Rattle.remote_lookup.specs.declared.remote.RemoteKey.{RemoteKey}
use Rattle.run_base.specs.Items.{Item}
use Rattle.run_base.specs.Seen.{World}
use Rattle.run_plan.specs.Prepared.{Predicates}
use Rattle.run_plan.specs.Steps.{Behind, or_refuse}
use Rattle.run_plan.specs.declared.plan.Plan.{Plan}
use Rattle.run_plan.specs.declared.status.FileOf.{FileOf}
use Rattle.run_plan.specs.declared.status.FileOf.TheVariants as file
use Rattle.run_plan.specs.declared.status.Status.{Status}
use Rattle.run_plan.specs.declared.status.Status.TheVariants as status
use Rattle.run_plan.proofs.DemoBinding.{unrefused_demo}
use Rattle.whole_run.specs.Asked.{asked, IsDemoAsked}
use Rattle.whole_run.specs.Ending.{Finished}
use Rattle.whole_run.specs.Outcome.{Due, IsDueBy, IsDueOver, IsTaskPlan, IsRequested, IsPlanned, IsOutcome, ReachedBy, ReachedFile, ReachedFor, ReachedKey, RunGiven, due_as, items_of}
use Rattle.whole_run.specs.Run.{MayEnd, IsUnrefused}
use Rattle.whole_run.specs.declared.asking.Request.{Request}
use Rattle.whole_run.proofs.RemoteLemmas.{task_remotes}

module _ (p : Predicates) (words : List (List ℕ)) (given : RunGiven) (d : IsDemoAsked words) where
  same_request : (a b : Request) → ◌≡◌ {A = Option Request} (Some a) (Some b) → a ≡ b
  same_request a b e = cc

  same_asked : (a b : Request) → ◌≡◌ {A = Result Request Status} (Ok a) (Ok b) → a ≡ b
  same_asked a b e = cc

  in_form : (a : Request) (t : Status) → ◌≡◌ {A = Result Request Status} (Err t) (Ok a) → ⊥
  in_form a t e = cc

  no_refusal : (s : Status) → ◌≡◌ {A = Option Status} None (Some s) → ⊥
  no_refusal s e = cc

  -- its plan isn't refused
  unrefused_task : (t : Task) (seed : ℕ) (s : Status) → t ≡ task.Demo d.rows → IsTaskPlan p t seed given.files (Err s) → ⊥
  unrefused_task t seed s e h = unrefused_demo p d.rows seed s (subst (λ (x : Task). IsTaskPlan p x seed given.files (Err s)) e h)

  unrefused_request : (r : Result Request Status) (s : Status) → r ≡ or_refuse status.Usage (asked words)
      → Behind (λ a. IsRequested p a given.files) r (Err s) → ⊥
  unrefused_request (Ok a) s e h =
      let same = same_asked a d.request (e ∙ ap (or_refuse status.Usage) d.in_form) in
      unrefused_task a.task a.settings.seed s (ap (λ (x : Request). x.task) same ∙ d.task) h
  unrefused_request (Err t) s e h = absurd (in_form d.request t (e ∙ ap (or_refuse status.Usage) d.in_form))

  -- and has no remotes
  unremote_task : (t : Task) (seed : ℕ) (plan : Plan) → t ≡ task.Demo d.rows → IsTaskPlan p t seed given.files (Ok plan) → plan.remotes ≡ []
  unremote_task t seed plan e h =
      let planned = subst (λ (x : Task). IsTaskPlan p x seed given.files (Ok plan)) e h in
      none_of plan.remotes (task_remotes p (task.Demo d.rows) seed None given.files plan tt planned)
    where
      none_of : (l : List Remote) → length l ≡ 0 → l ≡ []
      none_of [] f = refl
      none_of (x ∷ xs) f = absurd (omega (arith, f))

  unremote : (r : Result Request Status) (plan : Plan) → r ≡ or_refuse status.Usage (asked words) → Behind (λ a. IsRequested p a given.files) r (Ok plan)
      → plan.remotes ≡ []
  unremote (Ok a) plan e h =
      let same = same_asked a d.request (e ∙ ap (or_refuse status.Usage) d.in_form) in
      unremote_task a.task a.settings.seed plan (ap (λ (x : Request). x.task) same ∙ d.task) h
  unremote (Err t) plan e h = absurd (in_form d.request t (e ∙ ap (or_refuse status.Usage) d.in_form))

  -- nor does its outcome refuse
  unrefused_due : (s : Status) (due : Due) → IsOutcome p words given due → due.refusal ≡ Some s → ⊥
  unrefused_due s due h e = by h.0 h.1 h.2
    where
      by : (plan : Result Plan Status) → IsPlanned p words given plan → IsDueBy p given plan due → ⊥
      by (Ok plan) planned is =
          let none : plan.remotes ≡ [] = unremote planned.0 plan planned.1 planned.2 in
          let whole : due ≡ due_as (items_of plan) None = subst (λ (rs : List Remote). IsDueOver p given plan rs due) none is in
          no_refusal s (sym (ap (λ (x : Due). x.refusal) whole) ∙ e)
      by (Err t) planned is = unrefused_request planned.0 t planned.1 planned.2

  -- and it reaches no file
  unreached_file : (f : FileOf) → ReachedFile words given f → ⊥
  unreached_file f r =
      let same = same_request r.request d.request (sym r.in_form ∙ d.in_form) in
      subst (λ (x : Task). ReachedFor x given.files f) (ap (λ (x : Request). x.task) same ∙ d.task) r.reached

  -- nor a key's
  unreached_key : (items : List Item) (at : RemoteKey) → ReachedKey p words given items at → ⊥
  unreached_key items at r =
      let same = same_request r.request d.request (sym r.in_form ∙ d.in_form) in
      r.some (unremote_task r.request.task r.request.settings.seed r.plan (ap (λ (x : Request). x.task) same ∙ d.task) r.planned)

  unreached : (f : FileOf) → ReachedBy p words given f → ⊥
  unreached file.Script r = unreached_file file.Script r
  unreached (file.Table number) r = unreached_file (file.Table number) r
  unreached (file.Heading number) r = unreached_file (file.Heading number) r
  unreached (file.Key at) r = unreached_key r.0 at r.1

  demo_ends : (rose fault : Type 0) (s : Status) → MayEnd (λ file. rose × ReachedBy p words given file) fault (IsOutcome p words given) s → IsUnrefused s
  demo_ends rose fault status.Done m = inl refl
  demo_ends rose fault status.Write m = inr (inl refl)
  demo_ends rose fault status.Memory m = inr (inr refl)
  demo_ends rose fault (status.Read f) m = absurd (unreached f m.1)
  demo_ends rose fault status.Usage m = absurd (unrefused_due status.Usage m.0 m.1 m.2)
  demo_ends rose fault (status.Script f) m = absurd (unrefused_due (status.Script f) m.0 m.1 m.2)
  demo_ends rose fault (status.Bind n f) m = absurd (unrefused_due (status.Bind n f) m.0 m.1 m.2)
  demo_ends rose fault (status.BadTable n f) m = absurd (unrefused_due (status.BadTable n f) m.0 m.1 m.2)
  demo_ends rose fault (status.BadHeading n) m = absurd (unrefused_due (status.BadHeading n) m.0 m.1 m.2)
  demo_ends rose fault (status.BadKey at why) m = absurd (unrefused_due (status.BadKey at why) m.0 m.1 m.2)
  demo_ends rose fault (status.NoColumn n) m = absurd (unrefused_due (status.NoColumn n) m.0 m.1 m.2)
  demo_ends rose fault (status.NotFound f) m = absurd (unrefused_due (status.NotFound f) m.0 m.1 m.2)
  demo_ends rose fault (status.Limit l) m = absurd (unrefused_due (status.Limit l) m.0 m.1 m.2)

-- a run of the demo ends as done, by a fault of the output or the notes, or for want of memory
pub demo_finished : {O N : Type 0} (p : Predicates) (words : List (List ℕ)) (old new : World O N) (s : Status)
    → Finished p words old new s → IsDemoAsked words → IsUnrefused s
demo_finished p words old new s f d = demo_ends p words f.given d _ _ s f.ended.ends
