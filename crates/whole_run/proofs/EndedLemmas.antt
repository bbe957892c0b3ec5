-- How a run ends: by its plan, and by its words.
use Rattle.std.proofs.Common.{◌≡◌, ◌≢◌, ℕ, Bool, true, List, [], ◌∷◌, length, Option, Some, None, Result, Ok, Err, refl, sym, ◌∙◌, ap, subst, ◌⊎◌, inl, inr, arith}
use Rattle.std.specs.Prelude.{IsSome}
use Rattle.std.specs.Option.{option_map_or}
use Rattle.outside.specs.Faults.{NeverFalls, RoseOrFull}
use Rattle.outside.specs.Told.{Adds, AddsFront}
use Rattle.outside.proofs.Laws.{AddsFront-whole, AddsFront-nothing}
use Rattle.command_line.specs.declared.command.Task.{Task}
use Rattle.command_line.specs.declared.command.Task.TheVariants as task
use Rattle.remote_lookup.specs.declared.remote.RemoteFault.{RemoteFault}
use Rattle.remote_lookup.specs.declared.remote.RemoteFault.TheVariants as refusal
use Rattle.remote_lookup.specs.declared.remote.RemoteKey.{RemoteKey}
use Rattle.remote_answers.proofs.CourseLemmas.{IsComing}
use Rattle.run_base.specs.Seen.{Sink, Outputs, World}
use Rattle.run_plan.specs.Doing.{Stopped}
use Rattle.run_plan.specs.Faults.{IsPlaced, remote_status}
use Rattle.run_plan.specs.Naming.{Counts, IsNamed, zero_counts}
use Rattle.run_plan.specs.Prepared.{Predicates}
use Rattle.run_plan.specs.Refusal.{IsBetween, IsNotWriting, MayRefuse}
use Rattle.run_plan.specs.Stage.{Phase, AtStatement, phase_of}
use Rattle.run_plan.specs.declared.status.FileOf.{FileOf}
use Rattle.run_plan.specs.declared.status.FileOf.TheVariants as file
use Rattle.run_plan.specs.declared.status.LimitOf.TheVariants as limit
use Rattle.run_plan.specs.declared.status.Status.{Status}
use Rattle.run_plan.specs.declared.status.Status.TheVariants as status
use Rattle.run_plan.proofs.StageLemmas.{holds_anyway, early_not_done, early_not_write, early_not_usage, early_not_found, MayRefuse-read}
use Rattle.run_answers.specs.Wrote.{Wrote}
use Rattle.run_answers.proofs.AnswerLemmas.{same_written, same_faults}
use Rattle.run_answers.specs.declared.stopping.Stop.{Stop}
use Rattle.run_answers.specs.declared.stopping.Stop.TheVariants as stop
use Rattle.whole_run.specs.Asked.{asked, counts_in, counts_asked, is_tallied}
use Rattle.whole_run.specs.Ending.{Answered, AnsweredBy, Ended, EndedBy}
use Rattle.whole_run.specs.Outcome.{AreTaskFiles, Due, IsOutcome, IsRequested, IsTextDue, ReachedFor, ReachedBy, RunGiven, due_as, status_of, text_due}
use Rattle.whole_run.specs.Run.{IsLate, IsWriting}
use Rattle.whole_run.specs.declared.asking.Request.{Request}
use Rattle.whole_run.specs.declared.run.End.{End}
use Rattle.whole_run.specs.declared.run.End.TheVariants as end
use Rattle.whole_run.proofs.OneOutcome.{same_outcome}
use Rattle.whole_run.proofs.PlanLemmas.{IsNoKeys, adds_refused, outcome_unplanned, outcome_usage, unkeyed}
use Rattle.whole_run.proofs.StageLemmas.{MayEnd-early, MayEnd-late, MayEnd-other, ends_by_outcome, file_not_late, late_not, late_not_before}

-- ---- the ends

-- answers were written, or weren't
pub answered_done : {O N : Type 0} (tally : Bool) (old new : Outputs O N) (text : List ℕ) → Wrote old.out new.out text (Ok tt)
    → AnsweredBy tally old new text (end.By status.Done)
answered_done tally old new text w = record {
  counts = w.counts;
  done = λ e. w.ok;
  kept = λ e. w.kept;
  front = AddsFront-whole old.out.written new.out.written text w.ok;
  write = λ e. absurd cc;
  late = tt;
}

pub answered_write : {O N : Type 0} (tally : Bool) (old new : Outputs O N) (text : List ℕ) → Wrote old.out new.out text (Err stop.Output)
    → AnsweredBy tally old new text (end.By status.Write)
answered_write tally old new text w = record {
  counts = w.counts;
  done = λ e. absurd cc;
  kept = λ e. absurd cc;
  front = w.front;
  write = λ e. w.failed refl;
  late = tt;
}

pub answered_notes : {O N : Type 0} (tally : Bool) (old new : Outputs O N) (text : List ℕ) → Wrote old.out new.out text (Err stop.Notes)
    → tally ≡ true → RoseOrFull old.notes.faults new.notes.faults → AnsweredBy tally old new text end.ByNotes
answered_notes tally old new text w wanted rose = record {
  counts = w.counts;
  done = λ e. absurd cc;
  kept = λ e. absurd cc;
  front = w.front;
  write = λ e. (wanted, rose);
  late = tt;
}

pub answered_memory : {O N : Type 0} (tally : Bool) (old new : Outputs O N) (text : List ℕ) → Wrote old.out new.out text (Err stop.Notes)
    → AnsweredBy tally old new text (end.By status.Memory)
answered_memory tally old new text w = record {
  counts = w.counts;
  done = λ e. absurd cc;
  kept = λ e. absurd cc;
  front = w.front;
  write = λ e. absurd cc;
  late = tt;
}

-- ---- what refuses

-- a front of the text that is due was written, or nothing
abbrev pub HasFront : {O N : Type 0} → Predicates → List (List ℕ) → RunGiven → World O N → World O N → Type 0
HasFront p words given old new =
    (new.outputs.out.written ≡ old.outputs.out.written)
    ⊎ ((due : Due) × IsOutcome p words given due × AddsFront old.outputs.out.written new.outputs.out.written (text_due p words due))

-- so it is a front of the text of any outcome, since there is one
front_in : {O N : Type 0} (p : Predicates) (words : List (List ℕ)) (given : RunGiven) (old new : World O N) → HasFront p words given old new
    → (due : Due) → IsOutcome p words given due → AddsFront old.outputs.out.written new.outputs.out.written (text_due p words due)
front_in p words given old new (inl e) due d =
    subst (λ (w : Option (List ℕ)). AddsFront old.outputs.out.written w (text_due p words due)) (sym e) (AddsFront-nothing old.outputs.out.written (text_due p words due))
front_in p words given old new (inr k) due d =
    subst (λ (x : Due). AddsFront old.outputs.out.written new.outputs.out.written (text_due p words x)) (same_outcome p words given k.0 due k.1 d) k.2

-- what refuses by a status that no keys come to has no text before it
pub unkeyed_refused : {O N : Type 0} (p : Predicates) (words : List (List ℕ)) (given : RunGiven) (old new : World O N) (s : Status) → IsNoKeys s
    → HasFront p words given old new → (due : Due) → IsOutcome p words given due → due.refusal ≡ Some s
    → Adds old.outputs.out.written new.outputs.out.written (text_due p words due)
unkeyed_refused p words given old new s none front due d e =
    adds_refused p words given due s old.outputs.out.written new.outputs.out.written none d e (front_in p words given old new front due d)

-- what keys come to stands at a statement
at_statement : (why : RemoteFault) → IsComing why → phase_of (remote_status why) ≡ AtStatement
at_statement (refusal.Read at) h = absurd h
at_statement (refusal.TooLong at) h = refl
at_statement (refusal.BadFile at why) h = refl
at_statement (refusal.TooManyKeys number) h = refl
at_statement (refusal.TooManyRows number) h = refl
at_statement refusal.Memory h = absurd h

phase_apart : (P : Phase → Type 0) (s : Status) → P (phase_of s) → (P AtStatement → ⊥) → IsNoKeys s
phase_apart P s h none why comes e = none (subst P (sym (ap phase_of e) ∙ at_statement why comes) h)

pub memory_no_keys : IsNoKeys status.Memory
memory_no_keys = phase_apart IsNotWriting status.Memory tt (λ (h : ⊥). h)

usage_no_keys : IsNoKeys status.Usage
usage_no_keys = phase_apart IsNotWriting status.Usage tt (λ (h : ⊥). h)

-- and no failed read is
pub read_no_keys : (f : FileOf) → IsNoKeys (status.Read f)
read_no_keys f (refusal.Read at) h e = h
read_no_keys f (refusal.TooLong at) h e = cc
read_no_keys f (refusal.BadFile at why) h e = cc
read_no_keys f (refusal.TooManyKeys number) h e = cc
read_no_keys f (refusal.TooManyRows number) h e = cc
read_no_keys f refusal.Memory h e = h

late_no_keys : (s : Status) → IsLate s → IsNoKeys s
late_no_keys s late = phase_apart IsWriting s late (λ (h : ⊥). h)

early_no_keys : (s : Status) → IsBetween s → IsNoKeys s
early_no_keys status.Usage h = absurd h
early_no_keys s h = phase_apart IsNotWriting s h (λ (h : ⊥). h)

-- ---- by its answers

-- a run of these statements ends by their answers
pub ended_answered : {O N : Type 0} (p : Predicates) (words : List (List ℕ)) (given : RunGiven) (due : Due) (old new : World O N) (fault : Type 0) (s : Status)
    → IsOutcome p words given due → IsTextDue due → (s ≡ status.Done → due.refusal ≡ None) → new.folder.holds ≡ old.folder.holds
    → new.folder.faults ≡ old.folder.faults → Answered old.outputs.out new.outputs.out fault (text_due p words due) s
    → Ended p words given old new fault s
ended_answered p words given due old new fault s is_due some whole keeps kept put = record {
  keeps = keeps;
  folder_counts = omega (arith, kept);
  out_counts = put.counts;
  ends = MayEnd-late _ _ (IsOutcome p words given) due s is_due some whole put.late put.write;
  done = λ is. (due, is_due, whole is, put.done is);
  front = front;
  kept = holds_anyway s _ kept;
  read = λ f is. absurd (late_not s (status.Read f) put.late is (file_not_late f));
  write = put.write;
  not_found = λ f is. absurd (late_not s (status.NotFound f) put.late is (file_not_late f));
  nothing = λ silent. absurd (late_not_before s put.late silent);
  out_kept = put.kept;
  placed = placed s put.late;
  named = named s put.late;
  usage_only = λ is. absurd (late_not s status.Usage put.late is (λ x. x));
  refused = unkeyed_refused p words given old new s (late_no_keys s put.late) front;
  unread = λ at is. absurd (late_not s (status.Read (file.Key at)) put.late is (λ x. x));
}
  where
    front : HasFront p words given old new
    front = inr (due, is_due, put.front)

    placed : (s : Status) → IsLate s → IsPlaced s
    placed status.Done h = tt
    placed status.Write h = tt
    placed status.Memory h = tt
    placed (status.NotFound f) h = tt
    placed (status.Read f) h = tt
    placed (status.Limit (limit.File f)) h = tt
    placed _ h = absurd h

    named : {known : Counts} (s : Status) → IsLate s → IsNamed known s
    named status.Done h = record { file = tt; access = tt; remote = tt }
    named status.Write h = record { file = tt; access = tt; remote = tt }
    named status.Memory h = record { file = tt; access = tt; remote = tt }
    named (status.NotFound f) h = absurd (file_not_late f h)
    named (status.Read f) h = absurd (file_not_late f h)
    named (status.Limit (limit.File f)) h = absurd (file_not_late f h)
    named _ h = absurd h

-- what a status names of what was asked for
pub named_asked : (words : List (List ℕ)) (a : Request) (s : Status) → asked words ≡ Some a
    → IsNamed (counts_in a.task) s → IsNamed (counts_asked words) s
named_asked words a s e h =
    subst (λ (o : Option Request). IsNamed (option_map_or (λ (r : Request). counts_in r.task) o zero_counts) s) (sym e) h

-- a run whose plan was refused ends by that, by what was given of the files of its words
pub ended_stopped : {O N : Type 0} (p : Predicates) (words : List (List ℕ)) (a : Request) (old new : World O N) (fault : Type 0) (s : Status) → asked words ≡ Some a
    → new.outputs.out ≡ old.outputs.out
    → (r : Stopped (counts_in a.task) old.folder new.folder (AreTaskFiles a.task) (λ files. IsRequested p a files (Err s)) (ReachedFor a.task) s)
    → Ended p words (unkeyed a.task old.folder.holds r.given) old new fault s
ended_stopped p words a old new fault s e same r = record {
  keeps = r.keeps;
  folder_counts = r.counts;
  out_counts = omega (arith, same_faults old.outputs.out new.outputs.out same);
  ends = MayEnd-early (λ f. RoseOrFull old.folder.faults new.folder.faults × ReachedFor a.task r.given f)
      (λ f. RoseOrFull old.folder.faults new.folder.faults × ReachedBy p words given f) _ (IsSome old.folder.holds) _
      (IsOutcome p words given) s r.early (λ h. (due_as [] (Some s), outcome_unplanned p words given a s e h, refl))
      (λ f k. (k.0, reached f k.1)) reads;
  done = λ is. absurd (early_not_done _ s r.early is);
  front = front;
  kept = r.kept;
  read = r.read;
  write = λ is. absurd (early_not_write _ s r.early is);
  not_found = λ f is. early_not_found _ s f r.early is;
  nothing = λ silent. same;
  out_kept = λ is. absurd (early_not_done _ s r.early is);
  placed = r.early.placed;
  named = named_asked words a s e r.early.named;
  usage_only = λ is. absurd (early_not_usage _ s r.early is);
  refused = unkeyed_refused p words given old new s (early_no_keys s r.early.between) front;
  unread = λ at is. absurd (subst IsBetween is r.early.between);
}
  where
    given : RunGiven
    given = unkeyed a.task old.folder.holds r.given

    front : HasFront p words given old new
    front = inl (same_written old.outputs.out new.outputs.out same)

    reads : MayRefuse (λ f. RoseOrFull old.folder.faults new.folder.faults × ReachedFor a.task r.given f) (IsRequested p a r.given (Err s)) s
    reads = MayRefuse-read (ReachedFor a.task r.given) (RoseOrFull old.folder.faults new.folder.faults) _ s r.read r.refused

    no_key : (t : Task) (at : RemoteKey) → ReachedFor t r.given (file.Key at) → ⊥
    no_key (task.Query q) at h = h
    no_key (task.Demo rows) at h = h

    reached : (f : FileOf) → ReachedFor a.task r.given f → ReachedBy p words given f
    reached (file.Key at) h = absurd (no_key a.task at h)
    reached file.Script h = record { request = a; in_form = e; reached = h }
    reached (file.Table number) h = record { request = a; in_form = e; reached = h }
    reached (file.Heading number) h = record { request = a; in_form = e; reached = h }

-- the same where a fault has another reason, and of a world that differs by its notes
pub ended_by_other : {O N : Type 0} (p : Predicates) (words : List (List ℕ)) (given : RunGiven) (old new : World O N) (notes : Sink N) (fault other : Type 0) (s : Status) → (fault → other)
    → Ended p words given old new fault s → Ended p words given old (record new { outputs = record new.outputs { notes = notes } }) other s
ended_by_other p words given old new notes fault other s f h = record {
  keeps = h.keeps;
  folder_counts = h.folder_counts;
  out_counts = h.out_counts;
  ends = MayEnd-other _ fault other (IsOutcome p words given) s f h.ends;
  done = h.done;
  front = h.front;
  kept = h.kept;
  read = h.read;
  write = λ is. f (h.write is);
  not_found = h.not_found;
  nothing = h.nothing;
  out_kept = h.out_kept;
  placed = h.placed;
  named = h.named;
  usage_only = h.usage_only;
  refused = h.refused;
  unread = h.unread;
}

-- want of memory may come where a run would end by any status
pub ended_memory : {O N : Type 0} (p : Predicates) (words : List (List ℕ)) (given : RunGiven) (old new : World O N) (fault : Type 0) (s : Status)
    → Ended p words given old new fault s → Ended p words given old new fault status.Memory
ended_memory p words given old new fault s h = record {
  keeps = h.keeps;
  folder_counts = h.folder_counts;
  out_counts = h.out_counts;
  ends = tt;
  done = λ is. absurd cc;
  front = h.front;
  kept = tt;
  read = λ f is. absurd cc;
  write = λ is. absurd cc;
  not_found = λ f is. absurd cc;
  nothing = λ (silent : ⊥). absurd silent;
  out_kept = λ is. absurd cc;
  placed = tt;
  named = record { file = tt; access = tt; remote = tt };
  usage_only = λ is. absurd cc;
  refused = unkeyed_refused p words given old new status.Memory memory_no_keys h.front;
  unread = λ at is. absurd cc;
}

-- a run that touched nothing ends by its words, or for want of memory
pub ended_usage : {O N : Type 0} (p : Predicates) (words : List (List ℕ)) (given : RunGiven) (old : World O N) (fault : Type 0) → asked words ≡ None
    → Ended p words given old old fault status.Usage
ended_usage p words given old fault e = record {
  keeps = refl;
  folder_counts = omega arith;
  out_counts = omega arith;
  ends = (due_as [] (Some status.Usage), outcome_usage p words given e, refl);
  done = λ is. absurd cc;
  front = inl refl;
  kept = refl;
  read = λ f is. absurd cc;
  write = λ is. absurd cc;
  not_found = λ f is. absurd cc;
  nothing = λ silent. refl;
  out_kept = λ is. absurd cc;
  placed = tt;
  named = record { file = tt; access = tt; remote = tt };
  usage_only = λ is. e;
  refused = unkeyed_refused p words given old old status.Usage usage_no_keys (inl refl);
  unread = λ at is. absurd cc;
}

pub ended_early : {O N : Type 0} (p : Predicates) (words : List (List ℕ)) (given : RunGiven) (old : World O N) (fault : Type 0) → Ended p words given old old fault status.Memory
ended_early p words given old fault = record {
  keeps = refl;
  folder_counts = omega arith;
  out_counts = omega arith;
  ends = tt;
  done = λ is. absurd cc;
  front = inl refl;
  kept = tt;
  read = λ f is. absurd cc;
  write = λ is. absurd cc;
  not_found = λ f is. absurd cc;
  nothing = λ (silent : ⊥). absurd silent;
  out_kept = λ is. absurd cc;
  placed = tt;
  named = record { file = tt; access = tt; remote = tt };
  usage_only = λ is. absurd cc;
  refused = unkeyed_refused p words given old old status.Memory memory_no_keys (inl refl);
  unread = λ at is. absurd cc;
}

-- how a run ended by the answers of these statements
pub ended_by_answers : {O N : Type 0} (p : Predicates) (words : List (List ℕ)) (a : Request) (given : RunGiven) (due : Due) (old new : World O N) (e : End)
    → asked words ≡ Some a → IsOutcome p words given due → IsTextDue due → (e ≡ end.By status.Done → due.refusal ≡ None)
    → new.folder.holds ≡ old.folder.holds → new.folder.faults ≡ old.folder.faults
    → AnsweredBy a.settings.tally old.outputs new.outputs (text_due p words due) e → EndedBy p words given old new e
ended_by_answers p words a given due old new (end.By s) is d some whole keeps kept put =
    ended_answered p words given due old new (RoseOrFull old.outputs.out.faults new.outputs.out.faults) s d some (λ f. whole (ap end.By f)) keeps kept put
ended_by_answers p words a given due old new end.ByNotes is d some whole keeps kept put =
    let tally : is_tallied words ≡ a.settings.tally = rw is refl in
    let rose : Type 0 = RoseOrFull old.outputs.notes.faults new.outputs.notes.faults in
    ended_by_other p words given old new new.outputs.notes ((a.settings.tally ≡ true) × rose) ((is_tallied words ≡ true) × rose) status.Write
    (λ k. (tally ∙ k.0, k.1))
    (ended_answered p words given due old new ((a.settings.tally ≡ true) × rose) status.Write d some (λ f. absurd cc) keeps kept put)

-- ---- beside the one outcome

pub complete_of : {O N : Type 0} (p : Predicates) (words : List (List ℕ)) (given : RunGiven) (old new : World O N) (fault : Type 0) (s : Status)
    → Ended p words given old new fault s → ¬ (RoseOrFull old.folder.faults new.folder.faults) → ¬ fault
    → (due : Due) → IsOutcome p words given due → (s ≡ status_of due) ⊎ (s ≡ status.Memory)
complete_of p words given old new fault s h calm quiet due d =
    ends_by_outcome (λ f. RoseOrFull old.folder.faults new.folder.faults × ReachedBy p words given f) fault (IsOutcome p words given) s h.ends
    (λ f k. calm k.0) quiet (same_outcome p words given) due d

pub front_of : {O N : Type 0} (p : Predicates) (words : List (List ℕ)) (given : RunGiven) (old new : World O N) (fault : Type 0) (s : Status)
    → Ended p words given old new fault s → (due : Due) → IsOutcome p words given due
    → AddsFront old.outputs.out.written new.outputs.out.written (text_due p words due)
front_of p words given old new fault s h due d = front_in p words given old new h.front due d
