-- How a run ends on the notes: its lines of counts, and the line of a refusal.
use Rattle.std.proofs.Common.{◌≡◌, ◌≢◌, ℕ, Bool, true, List, [], ◌++◌, Option, Some, None, Result, Ok, Err, refl, sym, ◌∙◌, ap, subst, ◌⊎◌, inl, inr, arith}
use Rattle.outside.specs.Faults.{NeverFalls, RoseOrFull}
use Rattle.outside.specs.Told.{Adds}
use Rattle.outside.proofs.Laws.{Adds-nothing, Adds-twice, RoseOrFull-earlier}
use Rattle.command_line.specs.declared.command.RemoteWord.{RemoteWord}
use Rattle.command_line.specs.declared.command.TableWord.{TableWord}
use Rattle.command_line.specs.declared.command.Task.{Task}
use Rattle.sq_value.specs.declared.value.Value.{Value}
use Rattle.sq_value.specs.declared.value.Truth.{Truth}
use Rattle.run_base.specs.Items.{Item}
use Rattle.run_base.specs.Seen.{Folder, Sink, Outputs, World}
use Rattle.run_plan.specs.Prepared.{Predicates}
use Rattle.run_plan.specs.Naming.{Counts}
use Rattle.run_plan.specs.Refusal.{IsEarly}
use Rattle.run_plan.specs.declared.status.Status.{Status}
use Rattle.run_plan.specs.declared.status.Status.TheVariants as status
use Rattle.run_plan.specs.declared.status.Stage.{Stage}
use Rattle.run_plan.specs.declared.status.Stage.TheVariants as stage
use Rattle.run_plan.specs.Stage.{stage_of}
use Rattle.run_plan.proofs.StageLemmas.{early_not_done}
use Rattle.run_notes.specs.Note.{Names, IsNoted, NotesOf, line_of, names_of}
use Rattle.run_answers.specs.Answering.{Answers, Tallied, LinesPut, EndsSo}
use Rattle.run_answers.specs.Together.{IsBundleTally, in_bundles, bundles_of}
use Rattle.run_answers.specs.declared.stopping.Stop.{Stop}
use Rattle.run_answers.specs.declared.stopping.Stop.TheVariants as stop
use Rattle.run_answers.proofs.AnswerLemmas.{same_written, same_faults}
use Rattle.run_answers.proofs.BundleLemmas.{bundles_whole}
use Rattle.run_answers.proofs.ProgressLemmas.{tallied_output}
use Rattle.whole_run.specs.Asked.{asked, names_asked, names_in, no_names, tables_in, remotes_in, is_tallied}
use Rattle.whole_run.specs.Ending.{AnsweredBy, Ended, EndedBy, LinedBy, NotedLines, Ran, Finished, end_with, stop_at, stop_of}
use Rattle.whole_run.specs.Lines.{SomeLines, RunOf, Progress, IsNotedBehind, MayFail}
use Rattle.whole_run.specs.Outcome.{Due, IsGivenTo, IsOutcome, IsTextDue, RunGiven, task_text}
use Rattle.whole_run.specs.declared.asking.Request.{Request}
use Rattle.whole_run.specs.declared.run.End.{End}
use Rattle.whole_run.specs.declared.run.End.TheVariants as end
use Rattle.whole_run.proofs.EndedLemmas.{answered_done, answered_write, answered_notes, answered_memory, ended_by_other, ended_memory, ended_usage, ended_early}
use Rattle.whole_run.proofs.PlanLemmas.{some_given}
use Rattle.whole_run.proofs.StageLemmas.{Done-only}

-- ---- the lines of counts

-- how the answers of a plan ended
pub plan_ended : {A O N : Type 0} (tally : Bool) (IsRight : ℕ → A → List ℕ → Type 0) (all : List A) (text : List A → List ℕ)
    (old new : Outputs O N) (r : Result (Unit {0}) Stop) → Answers tally IsRight 1 all text old new r
    → AnsweredBy tally old new (text all) (end_with r)
    × Tallied tally IsRight 1 all text old new (stop_of (end_with r))
plan_ended tally IsRight all text old new (Ok x) b = (answered_done tally old new (text all) b.out, b.notes)
plan_ended tally IsRight all text old new (Err stop.Output) b = (
  answered_write tally old new (text all) b.out,
  tallied_output tally IsRight 1 all text old new b.notes,
)
plan_ended tally IsRight all text old new (Err stop.Notes) b =
    (answered_notes tally old new (text all) b.out b.notes.end'.1 b.notes.end'.0.rose, b.notes)
plan_ended tally IsRight all text old new (Err stop.Memory) b = (answered_memory tally old new (text all) b.out, b.notes)

-- the text of all bundles is that of all statements
pub answered_whole : {O N : Type 0} (tally shared : Bool) (t : Task) (gives : ℕ → Value → Value → Truth) (items : List Item) (old new : Outputs O N) (e : End)
    → AnsweredBy tally old new (task_text t gives (in_bundles (bundles_of shared items))) e → AnsweredBy tally old new (task_text t gives items) e
answered_whole tally shared t gives items old new e h =
    subst (λ (z : List ℕ). AnsweredBy tally old new z e) (ap (task_text t gives) (bundles_whole shared items)) h

-- the lines of statements that were run
pub lines_answered : {O N : Type 0} (p : Predicates) (words : List (List ℕ)) (a : Request) (given : RunGiven) (due : Due) (before now : Outputs O N) (e : End)
    → asked words ≡ Some a → IsOutcome p words given due → IsTextDue due
    → Tallied a.settings.tally (IsBundleTally a.settings.shared a.settings.cache p.gives) 1 (bundles_of a.settings.shared due.items)
    (λ bundles. task_text a.task p.gives (in_bundles bundles)) before now (stop_of e)
    → NotedLines p words given before now e
lines_answered p words a given due before now e is d some h =
    record { end' = by (stop_of e) h.end'; quiet = λ q. h.quiet (sym tally ∙ q) }
  where
    tally : is_tallied words ≡ a.settings.tally
    tally = rw is refl

    of : RunOf p words given
    of = record { request = a; in_form = is; items = due.items; due = (due, d, some, refl) }

    text : List (List Item) → List ℕ
    text = λ bundles. task_text a.task p.gives (in_bundles bundles)

    progress : LinesPut text h.finished h.left h.lines before now → Progress p words given before.out now.out h.lines
    progress k = record { of = of; finished = h.finished; left = h.left; split = h.split; are = h.are; took = k.took }

    by : (r : Result (Unit {0}) Stop)
        → EndsSo a.settings.tally (IsBundleTally a.settings.shared a.settings.cache p.gives) 1 text h.finished h.left h.lines before now r
        → LinedBy p words given before now r
    by (Ok x) k = (h.lines, (progress k.0, k.1), k.0.put, k.2)
    by (Err stop.Notes) k = record {
      of = of;
      finished = h.finished;
      next = k.0.next;
      left = k.0.rest;
      split = h.split ∙ ap (λ (l : List (List Item)). h.finished ++ l) k.0.is;
      text = k.0.whole;
      kept = k.0.kept;
      lines = h.lines;
      are = h.are;
      line = k.0.line;
      right = k.0.right;
      wanted = k.1;
      front = k.0.front;
      rose = k.0.rose;
    }
    by (Err stop.Output) k = (h.lines, inr (progress k), k.put, k.counts)
    by (Err stop.Memory) k = (h.lines, inr (progress k), k.put, k.counts)

-- no line was put, and the run isn't done
pub lines_unput : {O N : Type 0} {known : Counts} (p : Predicates) (words : List (List ℕ)) (given : RunGiven) (told : Type 0) (before : Outputs O N) (s : Status)
    → IsEarly known told s
    → NotedLines p words given before before (end.By s)
lines_unput p words given told before s early = record { end' = by (stage_of s) refl; quiet = λ q. refl }
  where
    none : (lines : List ℕ) × SomeLines p words given before.out before.out lines × Adds before.notes.written before.notes.written lines
        × NeverFalls before.notes.faults before.notes.faults
    none = ([], inl (refl, refl), Adds-nothing before.notes.written, omega arith)

    by : (st : Stage) → stage_of s ≡ st → LinedBy p words given before before (stop_at st)
    by stage.Run e = absurd (early_not_done told s early (Done-only s e))
    by _ e = none

-- ---- the notes

by_either : (P : Status → Type 0) (s ended : Status) → (ended ≡ s) ⊎ (ended ≡ status.Memory) → P s → P status.Memory → P ended
by_either P s ended (inl e) h k = subst P (sym e) h
by_either P s ended (inr e) h k = subst P (sym e) k

-- lines that were put, whether or not the run was done
lines_any : {O N : Type 0} (p : Predicates) (words : List (List ℕ)) (given : RunGiven) (before now : Outputs O N) (st : Stage)
    → LinedBy p words given before now (stop_at st)
    → (lines : List ℕ) × SomeLines p words given before.out now.out lines × Adds before.notes.written now.notes.written lines
    × NeverFalls before.notes.faults now.notes.faults
lines_any p words given before now stage.Run k = (k.0, inr k.1.0, k.2, omega (arith, k.3))
lines_any p words given before now _ k = k

-- a note behind lines
noted_behind : {S : Type 0} (old mid new : Sink S) (lines line : List ℕ) → Adds old.written mid.written lines → NeverFalls old.faults mid.faults
    → IsNoted mid new line → IsNotedBehind old new lines line
noted_behind old mid new lines line put counts (inl h) = inl (Adds-twice old.written mid.written new.written lines line put h)
noted_behind old mid new lines line put counts (inr h) = inr (
  RoseOrFull-earlier old.faults mid.faults new.faults counts h.0,
  (h.1.0, h.1.1, h.1.2, Adds-twice old.written mid.written new.written lines h.1.0 put h.1.3),
)

-- the world where just the notes are others
abbrev with_notes : {O N : Type 0} → World O N → Sink N → World O N
with_notes w notes = record w { outputs = record w.outputs { notes = notes } }

-- a run of what the words ask for, and its line
finished_noted : {O N : Type 0} (p : Predicates) (words : List (List ℕ)) (a : Request) (given : RunGiven) (old new : World O N) (said : Sink N) (s ended : Status)
    → asked words ≡ Some a → IsGivenTo words old.folder.holds given → EndedBy p words given old new (end.By s) → NotedLines p words given old.outputs new.outputs (end.By s)
    → NotesOf (names_in a.task) new.outputs.notes said s ended → Finished p words old (with_notes new said) ended
finished_noted p words a given old new said s ended is to h l n = record {
  given = given;
  is_given = to;
  ended = done_so;
  usage = λ none. absurd (never (sym none ∙ is));
  tallied = λ e.
      let k = on_done e l.end' in
      (k.0, k.1, subst (λ (x : Option (List ℕ)). Adds old.outputs.notes.written x k.0) (sym (same_written new.outputs.notes said (n.silent e))) k.2);
  kept = λ e. same_faults new.outputs.notes said (n.silent e) ∙ (on_done e l.end').3;
  silent = λ e q. n.silent e ∙ l.quiet q;
  noted_lines = λ other. inl (
    put.0,
    put.1,
    subst (λ (names : Names). IsNotedBehind old.outputs.notes said put.0 (line_of names ended)) (sym names)
        (noted_behind old.outputs.notes new.outputs.notes said put.0 (line_of (names_in a.task) ended) put.2 put.3 (n.noted other)),
  );
  cut = λ e calm. absurd (calm (h.write (written e n.either)));
}
  where
    rose : Type 0
    rose = RoseOrFull old.outputs.out.faults new.outputs.out.faults

    done_so : Ended p words given old (with_notes new said) (MayFail words old.outputs (with_notes new said).outputs) ended
    done_so = ended_by_other p words given old new said rose (MayFail words old.outputs (with_notes new said).outputs) ended (λ r. inl r)
        (by_either (λ (t : Status). Ended p words given old new rose t) s ended n.either h (ended_memory p words given old new rose s h))

    put : (lines : List ℕ) × SomeLines p words given old.outputs.out new.outputs.out lines
        × Adds old.outputs.notes.written new.outputs.notes.written lines × NeverFalls old.outputs.notes.faults new.outputs.notes.faults
    put = lines_any p words given old.outputs new.outputs (stage_of s) l.end'

    never : ◌≡◌ {A = Option Request} None (Some a) → ⊥
    never f = cc

    names : names_asked words ≡ names_in a.task
    names = rw is refl

    done : (t : Status) → t ≡ status.Done → (t ≡ s) ⊎ (t ≡ status.Memory) → s ≡ status.Done
    done t e (inl f) = sym f ∙ e
    done t e (inr f) = let wrong : status.Memory ≡ status.Done = sym f ∙ e in absurd cc

    written : ended ≡ status.Write → (ended ≡ s) ⊎ (ended ≡ status.Memory) → s ≡ status.Write
    written e (inl f) = sym f ∙ e
    written e (inr f) = let wrong : status.Memory ≡ status.Write = sym f ∙ e in absurd cc

    on_done : ended ≡ status.Done → LinedBy p words given old.outputs new.outputs (stop_at (stage_of s))
        → LinedBy p words given old.outputs new.outputs (Ok tt)
    on_done e k = subst (λ (t : Status). LinedBy p words given old.outputs new.outputs (stop_at (stage_of t))) (done ended e n.either) k

-- a run that the notes stopped at a line of counts: nothing more is put to them
finished_cut : {O N : Type 0} (p : Predicates) (words : List (List ℕ)) (a : Request) (given : RunGiven) (old new : World O N) → asked words ≡ Some a
    → IsGivenTo words old.folder.holds given → EndedBy p words given old new end.ByNotes → NotedLines p words given old.outputs new.outputs end.ByNotes
    → Finished p words old new status.Write
finished_cut p words a given old new is to h l = record {
  given = given;
  is_given = to;
  ended = done_so;
  usage = λ none. absurd (never (sym none ∙ is));
  tallied = λ e. absurd cc;
  kept = λ e. absurd cc;
  silent = λ e. absurd cc;
  noted_lines = λ other. inr (refl, l.end');
  cut = λ e calm. l.end';
}
  where
    done_so : Ended p words given old new (MayFail words old.outputs new.outputs) status.Write
    done_so = ended_by_other p words given old new new.outputs.notes
        ((is_tallied words ≡ true) × RoseOrFull old.outputs.notes.faults new.outputs.notes.faults)
        (MayFail words old.outputs new.outputs) status.Write (λ k. inr k) h

    never : ◌≡◌ {A = Option Request} None (Some a) → ⊥
    never f = cc

-- the world whose notes are exchanged for those of one that shows the same else
abbrev world_of : {O N : Type 0} → Folder → Sink O → Sink N → World O N
world_of folder out notes = record { folder = folder; outputs = record { out = out; notes = notes } }

same_world : {O N : Type 0} (mid new : World O N) → new.folder ≡ mid.folder → new.outputs.out ≡ mid.outputs.out → with_notes mid new.outputs.notes ≡ new
same_world {O} {N} mid new e f =
    subst (λ (x : Folder). world_of x mid.outputs.out new.outputs.notes ≡ new) e
    (subst (λ (x : Sink O). world_of new.folder x new.outputs.notes ≡ new) f refl)

-- the same by an equal end, and of an equal world
pub finished_by : {O N : Type 0} (p : Predicates) (words : List (List ℕ)) (a : Request) (old mid new : World O N) (e : End) (s ended : Status)
    (tables : List TableWord) (remotes : List RemoteWord) → e ≡ end.By s → asked words ≡ Some a → Ran p words old mid e → tables ≡ tables_in a.task → remotes ≡ remotes_in a.task
    → new.folder ≡ mid.folder → new.outputs.out ≡ mid.outputs.out
    → NotesOf (names_of tables remotes) mid.outputs.notes new.outputs.notes s ended
    → Finished p words old new ended
finished_by {O} {N} p words a old mid new e s ended tables remotes f is ran same alike place out n =
    subst (λ (w : World O N). Finished p words old w ended) (same_world mid new place out)
    (finished_noted p words a ran.given old mid new.outputs.notes s ended is ran.is_given
    (subst (λ (x : End). EndedBy p words ran.given old mid x) f ran.ended)
    (subst (λ (x : End). NotedLines p words ran.given old.outputs mid.outputs x) f ran.lines)
    (subst (λ (rs : List RemoteWord). NotesOf (names_of (tables_in a.task) rs) mid.outputs.notes new.outputs.notes s ended) alike
    (subst (λ (ts : List TableWord). NotesOf (names_of ts remotes) mid.outputs.notes new.outputs.notes s ended) same n)))

pub finished_by_notes : {O N : Type 0} (p : Predicates) (words : List (List ℕ)) (a : Request) (old new : World O N) (e : End)
    → e ≡ end.ByNotes → asked words ≡ Some a → Ran p words old new e → Finished p words old new status.Write
finished_by_notes p words a old new e f is ran =
    finished_cut p words a ran.given old new is ran.is_given (subst (λ (x : End). EndedBy p words ran.given old new x) f ran.ended)
    (subst (λ (x : End). NotedLines p words ran.given old.outputs new.outputs x) f ran.lines)

-- words out of form, or want of memory for them, and its line
same_line : (names : Names) (s : Status) → (s ≡ status.Usage) ⊎ (s ≡ status.Memory) → line_of no_names s ≡ line_of names s
unfolding line_of
same_line names s (inl e) = rw e refl
same_line names s (inr e) = rw e refl

usage_noted : {O N : Type 0} (p : Predicates) (words : List (List ℕ)) (old : World O N) (said : Sink N) (s ended : Status)
    → (s ≡ status.Memory) ⊎ ((s ≡ status.Usage) × (asked words ≡ None)) → NotesOf no_names old.outputs.notes said s ended
    → Finished p words old (with_notes old said) ended
usage_noted p words old said s ended why n = record {
  given = given;
  is_given = some.1;
  ended = ends why;
  usage = λ none. which why;
  tallied = λ e. absurd (not_done e (which why));
  kept = λ e. absurd (not_done e (which why));
  silent = λ e. absurd (not_done e (which why));
  noted_lines = λ other. inl (
    [],
    inl (refl, refl),
    subst (λ (line : List ℕ). IsNoted old.outputs.notes said line) (same_line (names_asked words) ended (which why)) (n.noted other),
  );
  cut = λ e calm. absurd (not_write e (which why));
}
  where
    some : (g : RunGiven) × IsGivenTo words old.folder.holds g
    some = some_given words old.folder.holds

    given : RunGiven
    given = some.0

    fault : Type 0
    fault = MayFail words old.outputs (with_notes old said).outputs

    early : Ended p words given old old fault status.Memory
    early = ended_early p words given old fault

    ends : (s ≡ status.Memory) ⊎ ((s ≡ status.Usage) × (asked words ≡ None)) → Ended p words given old (with_notes old said) fault ended
    ends (inl e) = ended_by_other p words given old old said fault fault ended (λ k. k)
        (by_either (λ (t : Status). Ended p words given old old fault t) s ended n.either
        (subst (λ (t : Status). Ended p words given old old fault t) (sym e) early) early)
    ends (inr h) = ended_by_other p words given old old said fault fault ended (λ k. k)
        (by_either (λ (t : Status). Ended p words given old old fault t) s ended n.either
        (subst (λ (t : Status). Ended p words given old old fault t) (sym h.0) (ended_usage p words given old fault h.1)) early)

    which : (s ≡ status.Memory) ⊎ ((s ≡ status.Usage) × (asked words ≡ None)) → (ended ≡ status.Usage) ⊎ (ended ≡ status.Memory)
    which (inl e) = elim n.either [ inl f ↦ inr (f ∙ e) | inr f ↦ inr f ]
    which (inr h) = elim n.either [ inl f ↦ inl (f ∙ h.0) | inr f ↦ inr f ]

    not_done : ended ≡ status.Done → (ended ≡ status.Usage) ⊎ (ended ≡ status.Memory) → ⊥
    not_done e (inl f) = let wrong : status.Usage ≡ status.Done = sym f ∙ e in cc
    not_done e (inr f) = let wrong : status.Memory ≡ status.Done = sym f ∙ e in cc

    not_write : ended ≡ status.Write → (ended ≡ status.Usage) ⊎ (ended ≡ status.Memory) → ⊥
    not_write e (inl f) = let wrong : status.Usage ≡ status.Write = sym f ∙ e in cc
    not_write e (inr f) = let wrong : status.Memory ≡ status.Write = sym f ∙ e in cc

pub finished_usage : {O N : Type 0} (p : Predicates) (words : List (List ℕ)) (folder : Folder) (old new : Outputs O N) (s ended : Status)
    → (s ≡ status.Memory) ⊎ ((s ≡ status.Usage) × (asked words ≡ None)) → new.out ≡ old.out → NotesOf no_names old.notes new.notes s ended
    → Finished p words (record { folder = folder; outputs = old }) (record { folder = folder; outputs = new }) ended
finished_usage {O} {N} p words folder old new s ended why same n =
    let was : World O N = record { folder = folder; outputs = old } in
    subst (λ (out : Sink O). Finished p words was (record { folder = folder; outputs = record { out = out; notes = new.notes } }) ended) (sym same)
    (usage_noted p words was new.notes s ended why n)

-- ---- before anything was put

pub same_out : {O N : Type 0} (old new : Outputs O N) → new ≡ old → new.out ≡ old.out
same_out {O} {N} old new same = ap (λ (o : Outputs O N). o.out) same

pub same_notes : {O N : Type 0} (old mid : Outputs O N) (said : Sink N) (s ended : Status) → mid ≡ old
    → NotesOf no_names mid.notes said s ended → NotesOf no_names old.notes said s ended
same_notes {O} {N} old mid said s ended same n = subst (λ (o : Outputs O N). NotesOf no_names o.notes said s ended) same n
