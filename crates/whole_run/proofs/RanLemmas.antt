-- How a run ends whose plan was made: without remotes, and with them.
use Rattle.std.proofs.Common.{◌≡◌, ◌≢◌, ℕ, ◌<◌, Bool, true, false, List, [], ◌∷◌, ◌++◌, length, Option, Some, None, Result, Ok, Err, refl, sym, ◌∙◌, ap, subst, ◌⊎◌, inl, inr, arith}
use Rattle.std.specs.Prelude.{IsSome, option_map}
use Rattle.outside.specs.Faults.{NeverFalls, RoseOrFull}
use Rattle.outside.specs.Files.{File}
use Rattle.outside.specs.Told.{Adds, AddsFront}
use Rattle.outside.proofs.Laws.{Adds-nothing}
use Rattle.table_csv.specs.declared.fault.TableFault.{TableFault}
use Rattle.command_line.specs.Within.{HasScansAlone}
use Rattle.command_line.specs.declared.command.Query.{Query}
use Rattle.command_line.specs.declared.command.RemoteWord.{RemoteWord}
use Rattle.command_line.specs.declared.command.Task.{Task}
use Rattle.command_line.specs.declared.command.Task.TheVariants as task
use Rattle.remote_lookup.specs.KeyFiles.{AreKeysGiven}
use Rattle.remote_lookup.specs.Loaded as loaded
use Rattle.remote_lookup.specs.declared.remote.KeyFault.{KeyFault}
use Rattle.remote_lookup.specs.declared.remote.KeyFault.TheVariants as key
use Rattle.remote_lookup.specs.declared.remote.Remote.{Remote}
use Rattle.remote_lookup.specs.declared.remote.RemoteFault.{RemoteFault}
use Rattle.remote_lookup.specs.declared.remote.RemoteFault.TheVariants as fault
use Rattle.remote_lookup.specs.declared.remote.RemoteKey.{RemoteKey}
use Rattle.remote_answers.specs.Answered.{AnsweredTo, Counted, IsRefusal, RefusedTo, put_by}
use Rattle.remote_answers.specs.Statements.{MayRefuseAfter}
use Rattle.remote_answers.specs.declared.halting.Halt.{Halt}
use Rattle.remote_answers.specs.declared.halting.Halt.TheVariants as halt
use Rattle.remote_answers.proofs.UnputLemmas.{answers_cut}
use Rattle.run_base.specs.Items.{Item}
use Rattle.run_base.specs.Seen.{Folder, Outputs, World}
use Rattle.run_plan.specs.Doing.{Went, Stopped}
use Rattle.run_plan.specs.Faults.{IsPlaced, remote_status}
use Rattle.run_plan.specs.Given.{Given}
use Rattle.run_plan.specs.Naming.{Counts, IsNamed, counts}
use Rattle.run_plan.specs.Prepared.{Predicates}
use Rattle.run_plan.specs.Refusal.{UnlessReadOrMemory}
use Rattle.run_plan.specs.declared.plan.Plan.{Plan}
use Rattle.run_plan.specs.declared.status.FileOf.{FileOf}
use Rattle.run_plan.specs.declared.status.FileOf.TheVariants as file
use Rattle.run_plan.specs.declared.status.Status.{Status}
use Rattle.run_plan.specs.declared.status.Status.TheVariants as status
use Rattle.run_answers.specs.Answering.{Answers, Tallied}
use Rattle.run_answers.specs.Tally.{IsTally}
use Rattle.run_answers.specs.Text.{text_of}
use Rattle.run_answers.specs.Together.{IsBundleTally, bundles_of, in_bundles}
use Rattle.run_answers.specs.declared.stopping.Stop.{Stop}
use Rattle.run_answers.specs.declared.stopping.Stop.TheVariants as stop
use Rattle.run_answers.proofs.BundleLemmas.{answers_each}
use Rattle.whole_run.specs.Asked.{accesses_in, asked, counts_in, loads_none, remotes_in, tables_in}
use Rattle.whole_run.specs.Ending.{AnsweredBy, Ended, EndedBy, LinedBy, NotedLines, Ran, RanAlone, RanOver, end_of, end_with, stop_of}
use Rattle.whole_run.specs.Lines.{SomeLines}
use Rattle.whole_run.specs.Outcome.{AreTaskFiles, Due, IsGivenTo, IsOutcome, IsRequested, IsTaskPlan, IsTextDue, ReachedBy, ReachedFor, ReachedKey, RunGiven, due_as, items_of, over_of, task_text, text_due}
use Rattle.whole_run.specs.Run.{IsBeforeOutput, MayEnd}
use Rattle.whole_run.specs.declared.asking.Request.{Request}
use Rattle.whole_run.specs.declared.run.End.{End}
use Rattle.whole_run.specs.declared.run.End.TheVariants as end
use Rattle.whole_run.proofs.EndedLemmas.{HasFront, ended_by_answers, ended_stopped, memory_no_keys, named_asked, read_no_keys, unkeyed_refused}
use Rattle.whole_run.proofs.OneOutcome.{same_outcome}
use Rattle.whole_run.proofs.PlanLemmas.{IsNoKeys, due_of, given_to, given_unkeyed, outcome_planned, outcome_run, run_given, text_planned, text_run, unkeyed}
use Rattle.whole_run.proofs.RemoteLemmas.{task_prefixes, task_remotes, words_given}
use Rattle.whole_run.proofs.RunLemmas.{answered_whole, lines_answered, lines_unput, plan_ended}
use Rattle.whole_run.proofs.TaskLemmas.{answers_task}

-- ---- without remotes

-- a plan without remotes was run
pub ran_plan : {O N : Type 0} (p : Predicates) (words : List (List ℕ)) (a : Request) (plan : Plan) (old new : Folder) (before now : Outputs O N) (e : End)
    → asked words ≡ Some a → plan.remotes ≡ [] → Went old new (AreTaskFiles a.task) (λ files. IsRequested p a files (Ok plan))
    → AnsweredBy a.settings.tally before now (task_text a.task p.gives (in_bundles (bundles_of a.settings.shared (items_of plan)))) e
    → Tallied a.settings.tally (IsBundleTally a.settings.shared a.settings.cache p.gives) 1 (bundles_of a.settings.shared (items_of plan))
    (λ bundles. task_text a.task p.gives (in_bundles bundles)) before now (stop_of e)
    → Ran p words (record { folder = old; outputs = before }) (record { folder = new; outputs = now }) e
ran_plan {O} {N} p words a plan old new before now e is none w put lines = record {
  given = given;
  is_given = given_to words a old.holds given is (given_unkeyed a.task old.holds w.given w.agrees);
  ended = ended_by_answers p words a given due (record { folder = old; outputs = before }) (record { folder = new; outputs = now }) e is d (inr refl) (λ f. refl) w.keeps w.kept
      (subst (λ (t : List ℕ). AnsweredBy a.settings.tally before now t e) (sym (text_planned p words a (items_of plan) is))
      (answered_whole a.settings.tally a.settings.shared a.task p.gives (items_of plan) before now e put));
  lines = lines_answered p words a given due before now e is d (inr refl) lines;
}
  where
    given : RunGiven
    given = unkeyed a.task old.holds w.given

    due : Due
    due = due_as (items_of plan) None

    d : IsOutcome p words given due
    d = outcome_planned p words given a plan is none w.tells

-- no plan was made
pub ran_unplanned : {O N : Type 0} (p : Predicates) (words : List (List ℕ)) (a : Request) (old new : Folder) (before : Outputs O N) (s : Status)
    → asked words ≡ Some a
    → Stopped (counts_in a.task) old new (AreTaskFiles a.task) (λ files. IsRequested p a files (Err s)) (ReachedFor a.task) s
    → Ran p words (record { folder = old; outputs = before }) (record { folder = new; outputs = before }) (end.By s)
ran_unplanned {O} {N} p words a old new before s is r = record {
  given = given;
  is_given = given_to words a old.holds given is (given_unkeyed a.task old.holds r.given r.agrees);
  ended = ended_stopped p words a (record { folder = old; outputs = before }) (record { folder = new; outputs = before }) (RoseOrFull before.out.faults before.out.faults) s is refl r;
  lines = lines_unput p words given (IsSome old.holds) before s r.early;
}
  where
    given : RunGiven
    given = unkeyed a.task old.holds r.given

-- ---- with remotes

-- keys that were refused leave the answers before them
cut_by : {O N : Type 0} (tally : Bool) (IsRight : ℕ → Item → List ℕ → Type 0) (items : List Item) (text : List Item → List ℕ) (old new : Outputs O N)
    (why : RemoteFault) → Answers tally IsRight 1 items text old new (put_by why) → Answers tally IsRight 1 items text old new (Err stop.Memory)
cut_by tally IsRight items text old new (fault.Read at) h = h
cut_by tally IsRight items text old new (fault.TooLong at) h = answers_cut tally IsRight 1 items text old new h
cut_by tally IsRight items text old new (fault.BadFile at why) h = answers_cut tally IsRight 1 items text old new h
cut_by tally IsRight items text old new (fault.TooManyKeys number) h = answers_cut tally IsRight 1 items text old new h
cut_by tally IsRight items text old new (fault.TooManyRows number) h = answers_cut tally IsRight 1 items text old new h
cut_by tally IsRight items text old new fault.Memory h = h

-- the status of keys that were refused
keys_stop : (why : RemoteFault) → stop_of (end.By (remote_status why)) ≡ Err stop.Memory
keys_stop (fault.Read at) = refl
keys_stop (fault.TooLong at) = refl
keys_stop (fault.BadFile at why) = refl
keys_stop (fault.TooManyKeys number) = refl
keys_stop (fault.TooManyRows number) = refl
keys_stop fault.Memory = refl

keys_not_done : (why : RemoteFault) → remote_status why ≢ status.Done
keys_not_done (fault.Read at) e = cc
keys_not_done (fault.TooLong at) e = cc
keys_not_done (fault.BadFile at why) e = cc
keys_not_done (fault.TooManyKeys number) e = cc
keys_not_done (fault.TooManyRows number) e = cc
keys_not_done fault.Memory e = cc

keys_not_write : (why : RemoteFault) → remote_status why ≢ status.Write
keys_not_write (fault.Read at) e = cc
keys_not_write (fault.TooLong at) e = cc
keys_not_write (fault.BadFile at why) e = cc
keys_not_write (fault.TooManyKeys number) e = cc
keys_not_write (fault.TooManyRows number) e = cc
keys_not_write fault.Memory e = cc

keys_not_usage : (why : RemoteFault) → remote_status why ≢ status.Usage
keys_not_usage (fault.Read at) e = cc
keys_not_usage (fault.TooLong at) e = cc
keys_not_usage (fault.BadFile at why) e = cc
keys_not_usage (fault.TooManyKeys number) e = cc
keys_not_usage (fault.TooManyRows number) e = cc
keys_not_usage fault.Memory e = cc

keys_found : (why : RemoteFault) (f : FileOf) → remote_status why ≢ status.NotFound f
keys_found (fault.Read at) f e = cc
keys_found (fault.TooLong at) f e = cc
keys_found (fault.BadFile at why) f e = cc
keys_found (fault.TooManyKeys number) f e = cc
keys_found (fault.TooManyRows number) f e = cc
keys_found fault.Memory f e = cc

keys_unsilent : (why : RemoteFault) → IsBeforeOutput (remote_status why) → ⊥
keys_unsilent (fault.Read at) h = h
keys_unsilent (fault.TooLong at) h = h
keys_unsilent (fault.BadFile at why) h = h
keys_unsilent (fault.TooManyKeys number) h = h
keys_unsilent (fault.TooManyRows number) h = h
keys_unsilent fault.Memory h = h

keys_placed : (remotes : ℕ) (why : RemoteFault) → IsRefusal remotes why → IsPlaced (remote_status why)
keys_placed remotes (fault.Read at) h = tt
keys_placed remotes (fault.TooLong at) h = tt
keys_placed remotes (fault.BadFile at (key.Table f)) h = λ e. h.memory at (ap (λ (g : TableFault). fault.BadFile at (key.Table g)) e)
keys_placed remotes (fault.BadFile at key.Columns) h = tt
keys_placed remotes (fault.BadFile at (key.OtherKey rec)) h = tt
keys_placed remotes (fault.TooManyKeys number) h = tt
keys_placed remotes (fault.TooManyRows number) h = tt
keys_placed remotes fault.Memory h = tt

keys_named : (tables accesses remotes : ℕ) (why : RemoteFault) → IsRefusal remotes why → IsNamed (counts tables accesses remotes) (remote_status why)
keys_named tables accesses remotes (fault.Read at) h = record { file = h.names; access = tt; remote = tt }
keys_named tables accesses remotes (fault.TooLong at) h = record { file = h.names; access = tt; remote = tt }
keys_named tables accesses remotes (fault.BadFile at why) h = record { file = h.names; access = tt; remote = tt }
keys_named tables accesses remotes (fault.TooManyKeys number) h = record { file = tt; access = tt; remote = h.names }
keys_named tables accesses remotes (fault.TooManyRows number) h = record { file = tt; access = tt; remote = h.names }
keys_named tables accesses remotes fault.Memory h = record { file = tt; access = tt; remote = tt }

-- what keys that were refused leave of the folder
keys_kept : (old mid new : Folder) (why : RemoteFault) → mid.faults ≡ old.faults → Counted mid new (Err (halt.Refused why))
    → UnlessReadOrMemory (remote_status why) (new.faults ≡ old.faults)
keys_kept old mid new (fault.Read at) e h = tt
keys_kept old mid new (fault.TooLong at) e h = h ∙ e
keys_kept old mid new (fault.BadFile at why) e h = h ∙ e
keys_kept old mid new (fault.TooManyKeys number) e h = h ∙ e
keys_kept old mid new (fault.TooManyRows number) e h = h ∙ e
keys_kept old mid new fault.Memory e h = tt

keys_read : (old mid new : Folder) (why : RemoteFault) (f : FileOf) → mid.faults ≡ old.faults → Counted mid new (Err (halt.Refused why))
    → remote_status why ≡ status.Read f → RoseOrFull old.faults new.faults
keys_read old mid new (fault.Read at) f e h is = subst (λ (n : ℕ). RoseOrFull n new.faults) e h
keys_read old mid new (fault.TooLong at) f e h is = absurd cc
keys_read old mid new (fault.BadFile at why) f e h is = absurd cc
keys_read old mid new (fault.TooManyKeys number) f e h is = absurd cc
keys_read old mid new (fault.TooManyRows number) f e h is = absurd cc
keys_read old mid new fault.Memory f e h is = absurd cc

-- a status of keys that were refused ends a run so
keys_ends : (reads : FileOf → Type 0) (writes : Type 0) (IsDue : Due → Type 0) (due : Due) (why : RemoteFault) → IsDue due
    → loaded.UnlessReadOrMemory why (due.refusal ≡ Some (remote_status why)) → ((at : RemoteKey) → why ≡ fault.Read at → reads (file.Key at))
    → MayEnd reads writes IsDue (remote_status why)
keys_ends reads writes IsDue due (fault.Read at) d refuses read = read at refl
keys_ends reads writes IsDue due (fault.TooLong at) d refuses read = (due, d, refuses)
keys_ends reads writes IsDue due (fault.BadFile at why) d refuses read = (due, d, refuses)
keys_ends reads writes IsDue due (fault.TooManyKeys number) d refuses read = (due, d, refuses)
keys_ends reads writes IsDue due (fault.TooManyRows number) d refuses read = (due, d, refuses)
keys_ends reads writes IsDue due fault.Memory d refuses read = tt

told_more : (why : RemoteFault) (P Q : Type 0) → (P → Q) → loaded.UnlessReadOrMemory why P → loaded.UnlessReadOrMemory why Q
told_more (fault.Read at) P Q f h = tt
told_more (fault.TooLong at) P Q f h = f h
told_more (fault.BadFile at why) P Q f h = f h
told_more (fault.TooManyKeys number) P Q f h = f h
told_more (fault.TooManyRows number) P Q f h = f h
told_more fault.Memory P Q f h = tt

-- the answers before keys that were refused are whole, where that is what they come to
keys_added : {O N : Type 0} (tally : Bool) (IsRight : ℕ → Item → List ℕ → Type 0) (items : List Item) (text : List Item → List ℕ) (old new : Outputs O N)
    (why : RemoteFault) → Answers tally IsRight 1 items text old new (put_by why)
    → IsNoKeys (remote_status why) ⊎ Adds old.out.written new.out.written (text items)
keys_added tally IsRight items text old new (fault.Read at) h = inl (read_no_keys (file.Key at))
keys_added tally IsRight items text old new (fault.TooLong at) h = inr h.out.ok
keys_added tally IsRight items text old new (fault.BadFile at why) h = inr h.out.ok
keys_added tally IsRight items text old new (fault.TooManyKeys number) h = inr h.out.ok
keys_added tally IsRight items text old new (fault.TooManyRows number) h = inr h.out.ok
keys_added tally IsRight items text old new fault.Memory h = inl memory_no_keys

same_key : {x y : RemoteKey} → status.Read (file.Key x) ≡ status.Read (file.Key y) → x ≡ y
same_key e = cc

key_unread : (why : RemoteFault) (at : RemoteKey) → remote_status why ≡ status.Read (file.Key at) → why ≡ fault.Read at
key_unread (fault.Read x) at e = ap fault.Read (same_key e)
key_unread (fault.TooLong x) at e = absurd cc
key_unread (fault.BadFile x why) at e = absurd cc
key_unread (fault.TooManyKeys number) at e = absurd cc
key_unread (fault.TooManyRows number) at e = absurd cc
key_unread fault.Memory at e = absurd cc

end_not_done : (y : Stop) → end_with (Err y) ≡ end.By status.Done → ⊥
end_not_done stop.Output e = cc
end_not_done stop.Notes e = cc
end_not_done stop.Memory e = cc

-- a plan with remotes was run: all of it after the plan was made
module _ {O N : Type 0} (p : Predicates) (words : List (List ℕ)) (a : Request) (plan : Plan) (old mid new : Folder) (before now : Outputs O N)
    (is : asked words ≡ Some a) (some : plan.remotes ≢ []) (alone : a.settings.shared ≡ true → HasScansAlone a.task)
    (w : Went old mid (AreTaskFiles a.task) (λ files. IsRequested p a files (Ok plan)))
    (keeps : new.holds ≡ mid.holds) (falls : NeverFalls mid.faults new.faults) where
  abbrev world : Folder → Outputs O N → World O N
  world folder outputs = record { folder = folder; outputs = outputs }

  -- the words name remotes
  many : length plan.remotes ≡ length (remotes_in a.task)
  many = task_remotes p a.task a.settings.seed old.holds w.given plan w.agrees w.tells

  none_of : {X : Type 0} (l : List X) → length l ≡ 0 → l ≡ []
  none_of [] e = refl
  none_of (x ∷ xs) e = absurd (omega (arith, e))

  query : (q : Query) × (a.task ≡ task.Query q)
  query = by a.task refl
    where
      by : (t : Task) → a.task ≡ t → (q : Query) × (a.task ≡ task.Query q)
      by (task.Query q) e = (q, e)
      by (task.Demo rows) e =
          absurd (some (none_of plan.remotes (many ∙ ap (λ (t : Task). length (remotes_in t)) e)))

  -- and so the statements run one after another
  apart : a.settings.shared ≡ false
  apart = by a.settings.shared refl
    where
      scans : (t : Task) (q : Query) → t ≡ task.Query q → HasScansAlone t → remotes_in t ≡ []
      scans t q e h = ap remotes_in e ∙ (subst HasScansAlone e h).1

      by : (b : Bool) → a.settings.shared ≡ b → a.settings.shared ≡ false
      by false e = e
      by true e =
          absurd (some (none_of plan.remotes (many ∙ ap (λ (l : List RemoteWord). length l) (scans a.task query.0 query.1 (alone e)))))

  bundled : (items : List Item) (r : Result (Unit {0}) Stop)
      → Answers a.settings.tally (IsTally a.settings.cache p.gives) 1 items (text_of p.gives) before now r
      → Answers a.settings.tally (IsBundleTally a.settings.shared a.settings.cache p.gives) 1 (bundles_of a.settings.shared items)
      (λ bundles. task_text a.task p.gives (in_bundles bundles)) before now r
  bundled items r h =
      answers_each a.settings.shared a.settings.tally a.settings.cache p.gives items (task_text a.task p.gives) before now r apart
      (answers_task a.settings.tally (IsTally a.settings.cache p.gives) p.gives (λ (l : List Item). l) items items a.task (task.Query query.0) before now r query.1 refl h)

  module _ (r : Result (Unit {0}) Halt)
      (h : AnsweredTo a.settings p.gives plan.catalogue.tables plan.remotes plan.statements mid new before now r) where
    abbrev given : RunGiven
    given = run_given w.given h.keys

    keyed : (statement : ℕ) → AreKeysGiven plan.remotes old.holds (h.keys statement)
    keyed statement = subst (λ (o : Option (List File)). AreKeysGiven plan.remotes o (h.keys statement)) w.keeps (h.agrees statement)

    to : IsGivenTo words old.holds given
    to = given_to words a old.holds given is (record {
      files = w.agrees;
      keys = λ statement. words_given plan.remotes (remotes_in a.task) old.holds (h.keys statement)
          (task_prefixes p a.task a.settings.seed old.holds w.given plan w.agrees w.tells) (keyed statement);
    })

    abbrev due : Due
    due = due_of h.course

    d : IsOutcome p words given due
    d = outcome_run p words given a plan h.course is some w.tells h.runs

    text : text_due p words due ≡ text_of p.gives h.course.items
    text = text_run p words a query.0 h.course.items (option_map remote_status h.course.refusal) is query.1

    -- the text of the task, as its answers have it
    as_due : (e : End) → AnsweredBy a.settings.tally before now (task_text a.task p.gives (in_bundles (bundles_of a.settings.shared h.course.items))) e
        → AnsweredBy a.settings.tally before now (text_due p words due) e
    as_due e k =
        subst (λ (t : List ℕ). AnsweredBy a.settings.tally before now t e)
        (ap (λ (t : Task). task_text t p.gives h.course.items) query.1 ∙ sym text)
        (answered_whole a.settings.tally a.settings.shared a.task p.gives h.course.items before now e k)

    ran_answered : (e : End) → IsTextDue due → (e ≡ end.By status.Done → due.refusal ≡ None) → new.faults ≡ mid.faults
        → AnsweredBy a.settings.tally before now (task_text a.task p.gives (in_bundles (bundles_of a.settings.shared h.course.items))) e
        × Tallied a.settings.tally (IsBundleTally a.settings.shared a.settings.cache p.gives) 1 (bundles_of a.settings.shared h.course.items)
        (λ bundles. task_text a.task p.gives (in_bundles bundles)) before now (stop_of e)
        → Ran p words (world old before) (world new now) e
    ran_answered e text_is whole kept k = record {
      given = given;
      is_given = to;
      ended = ended_by_answers p words a given due (world old before) (world new now) e is d text_is whole (keeps ∙ w.keeps) (kept ∙ w.kept) (as_due e k.0);
      lines = lines_answered p words a given due before now e is d text_is k.1;
    }

    -- keys were refused
    module _ (why : RemoteFault) (told : RefusedTo a.settings (over_of p given plan) plan.statements h.course before now why)
        (counted : Counted mid new (Err (halt.Refused why)))
        (put : Answers a.settings.tally (IsTally a.settings.cache p.gives) 1 h.course.items (text_of p.gives) before now (put_by why)) where
      left : Answers a.settings.tally (IsTally a.settings.cache p.gives) 1 h.course.items (text_of p.gives) before now (Err stop.Memory)
      left = cut_by a.settings.tally (IsTally a.settings.cache p.gives) h.course.items (text_of p.gives) before now why put

      front : HasFront p words given (world old before) (world new now)
      front = inr (due, d, subst (λ (t : List ℕ). AddsFront before.out.written now.out.written t) (sym text) left.out.front)

      reached : (at : RemoteKey) → why ≡ fault.Read at → ReachedKey p words given told.items at
      reached at e = record {
        request = a;
        in_form = is;
        plan = plan;
        planned = w.tells;
        some = some;
        reached = subst (λ (y : RemoteFault). MayRefuseAfter (over_of p given plan) plan.statements told.items y) e told.after;
      }

      -- its text was written, where the refusal is what keys come to
      refused : (other : Due) → IsOutcome p words given other → other.refusal ≡ Some (remote_status why)
          → Adds before.out.written now.out.written (text_due p words other)
      refused other k e = by (keys_added a.settings.tally (IsTally a.settings.cache p.gives) h.course.items (text_of p.gives) before now why put)
        where
          by : IsNoKeys (remote_status why) ⊎ Adds before.out.written now.out.written (text_of p.gives h.course.items)
              → Adds before.out.written now.out.written (text_due p words other)
          by (inl none) = unkeyed_refused p words given (world old before) (world new now) (remote_status why) none front other k e
          by (inr adds) =
              subst (λ (t : List ℕ). Adds before.out.written now.out.written t)
              (sym text ∙ ap (text_due p words) (same_outcome p words given due other d k)) adds

      ended : Ended p words given (world old before) (world new now) (RoseOrFull before.out.faults now.out.faults) (remote_status why)
      ended = record {
        keeps = keeps ∙ w.keeps;
        folder_counts = omega (arith, falls, w.kept);
        out_counts = left.out.counts;
        ends = keys_ends (λ f. RoseOrFull old.faults new.faults × ReachedBy p words given f) (RoseOrFull before.out.faults now.out.faults) (IsOutcome p words given) due why d
            (told_more why _ _ (λ e. ap (option_map remote_status) e) told.comes)
            (λ at e. (keys_read old mid new why (file.Key at) w.kept counted (ap remote_status e), (told.items, reached at e)));
        done = λ e. absurd (keys_not_done why e);
        front = front;
        kept = keys_kept old mid new why w.kept counted;
        read = λ f e. keys_read old mid new why f w.kept counted e;
        write = λ e. absurd (keys_not_write why e);
        not_found = λ f e. absurd (keys_found why f e);
        nothing = λ silent. absurd (keys_unsilent why silent);
        out_kept = λ e. absurd (keys_not_done why e);
        placed = keys_placed (length plan.remotes) why told.is;
        named = named_asked words a (remote_status why) is
            (subst (λ (n : ℕ). IsNamed (counts (length (tables_in a.task)) (length (accesses_in a.task)) n) (remote_status why)) many
            (keys_named (length (tables_in a.task)) (length (accesses_in a.task)) (length plan.remotes) why told.is));
        usage_only = λ e. absurd (keys_not_usage why e);
        refused = refused;
        unread = λ at e. (told.items, reached at (key_unread why at e), told.put.put.out.ok);
      }

      -- the lines of the answers before it
      stopped : stop_of (end.By (remote_status why)) ≡ Err stop.Memory
      stopped = keys_stop why

      lines : NotedLines p words given before now (end.By (remote_status why))
      lines = by h.course.items refl
        where
          some_lines : NotedLines p words given before now (end.By status.Memory) → NotedLines p words given before now (end.By (remote_status why))
          some_lines k = record { end' = subst (λ (x : Result (Unit {0}) Stop). LinedBy p words given before now x) (sym stopped) k.end'; quiet = k.quiet }

          by : (items : List Item) → h.course.items ≡ items → NotedLines p words given before now (end.By (remote_status why))
          by [] e = some_lines (record { end' = untouched (h.untouched e); quiet = λ q. ap (λ (o : Outputs O N). o.notes) (h.untouched e) })
            where
              untouched : now ≡ before → (l : List ℕ) × SomeLines p words given before.out now.out l × Adds before.notes.written now.notes.written l
                  × NeverFalls before.notes.faults now.notes.faults
              untouched same =
                  subst (λ (o : Outputs O N). (l : List ℕ) × SomeLines p words given before.out o.out l × Adds before.notes.written o.notes.written l
                  × NeverFalls before.notes.faults o.notes.faults) (sym same)
                  ([], inl (refl, refl), Adds-nothing before.notes.written, omega arith)
          by (item ∷ more) e =
              some_lines (lines_answered p words a given due before now (end.By status.Memory) is d (inl (λ none. absurd (some_item (sym e ∙ none))))
              (bundled h.course.items (Err stop.Memory) left).notes)
            where
              some_item : {x : Item} {xs : List Item} → ◌≡◌ {A = List Item} (x ∷ xs) [] → ⊥
              some_item f = cc

      ran_refused : Ran p words (world old before) (world new now) (end.By (remote_status why))
      ran_refused = record { given = given; is_given = to; ended = ended; lines = lines }

  ran_as : (r : Result (Unit {0}) Halt)
      → AnsweredTo a.settings p.gives plan.catalogue.tables plan.remotes plan.statements mid new before now r
      → Ran p words (world old before) (world new now) (end_of r)
  ran_as (Ok x) h =
      ran_answered (Ok x) h (end.By status.Done) (inr (ap (option_map remote_status) h.told)) (λ e. ap (option_map remote_status) h.told) h.counted
      (plan_ended a.settings.tally (IsBundleTally a.settings.shared a.settings.cache p.gives) (bundles_of a.settings.shared h.course.items)
      (λ bundles. task_text a.task p.gives (in_bundles bundles)) before now (Ok x) (bundled h.course.items (Ok x) h.put))
  ran_as (Err (halt.Refused why)) h = ran_refused (Err (halt.Refused why)) h why h.told h.counted h.put
  ran_as (Err (halt.Stopped y)) h =
      ran_answered (Err (halt.Stopped y)) h (end_with (Err y)) (inl h.told) (λ e. absurd (end_not_done y e)) h.counted
      (plan_ended a.settings.tally (IsBundleTally a.settings.shared a.settings.cache p.gives) (bundles_of a.settings.shared h.course.items)
      (λ bundles. task_text a.task p.gives (in_bundles bundles)) before now (Err y) (bundled h.course.items (Err y) h.put))

  pub ran_over : (e : End) → RanOver a.settings p.gives plan mid new before now e → Ran p words (world old before) (world new now) e
  ran_over e k = subst (λ (x : End). Ran p words (world old before) (world new now) x) (sym k.is) (ran_as k.answer k.answered)

-- ---- either

-- a plan was run
pub ran_any : {O N : Type 0} (p : Predicates) (words : List (List ℕ)) (a : Request) (plan : Plan) (old mid new : Folder) (before now : Outputs O N) (e : End)
    → asked words ≡ Some a → (a.settings.shared ≡ true → HasScansAlone a.task)
    → Went old mid (AreTaskFiles a.task) (λ files. IsRequested p a files (Ok plan)) → new.holds ≡ mid.holds → NeverFalls mid.faults new.faults
    → (plan.remotes ≡ [] → new ≡ mid) → (plan.remotes ≡ [] → RanAlone a.settings p.gives a.task plan before now e)
    → (plan.remotes ≢ [] → RanOver a.settings p.gives plan mid new before now e)
    → Ran p words (record { folder = old; outputs = before }) (record { folder = new; outputs = now }) e
ran_any {O} {N} p words a plan old mid new before now e is alone w keeps falls same ran over = by plan.remotes refl
  where
    some : (r : Remote) (rs : List Remote) → plan.remotes ≡ r ∷ rs → plan.remotes ≢ []
    some r rs f none = let wrong : ◌≡◌ {A = List Remote} (r ∷ rs) [] = sym f ∙ none in cc

    by : (rs : List Remote) → plan.remotes ≡ rs → Ran p words (record { folder = old; outputs = before }) (record { folder = new; outputs = now }) e
    by [] f =
        subst (λ (x : Folder). Ran p words (record { folder = old; outputs = before }) (record { folder = x; outputs = now }) e) (sym (same f))
        (ran_plan p words a plan old mid before now e is f w (ran f).out (ran f).notes)
    by (r ∷ rs) f =
        ran_over p words a plan old mid new before now is (some r rs f) alone w keeps falls e (over (some r rs f))

-- a task that loads no file has no remotes
pub unremote : (p : Predicates) (t : Task) (seed : ℕ) (holds : Option (List File)) (files : Given) (plan : Plan) → loads_none t ≡ true → AreTaskFiles t holds files
    → IsTaskPlan p t seed files (Ok plan) → plan.remotes ≡ []
unremote p (task.Query q) seed holds files plan none h k = absurd cc
unremote p (task.Demo rows) seed holds files plan none h k = by plan.remotes (task_remotes p (task.Demo rows) seed holds files plan h k)
  where
    by : (l : List Remote) → length l ≡ 0 → l ≡ []
    by [] e = refl
    by (x ∷ xs) e = absurd (omega (arith, e))
