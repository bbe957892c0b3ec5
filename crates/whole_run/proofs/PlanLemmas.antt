-- The outcome of words, by the plan of what they ask for, and its text.
use Rattle.std.proofs.Common.{◌≡◌, ◌≢◌, ℕ, List, [], ◌∷◌, ◌++◌, length, Option, Some, None, Result, Ok, Err, refl, sym, ◌∙◌, ap, subst, arith}
use Rattle.std.specs.Prelude.{⊤, option_map}
use Rattle.std.specs.Option.{option_map_or}
use Rattle.sq_value.specs.declared.value.Value.{Value}
use Rattle.sq_value.specs.declared.value.Truth.{Truth}
use Rattle.outside.specs.Files.{File}
use Rattle.outside.specs.Told.{Adds, AddsFront}
use Rattle.command_line.specs.declared.command.Query.{Query}
use Rattle.command_line.specs.declared.command.Task.{Task}
use Rattle.command_line.specs.declared.command.Task.TheVariants as task
use Rattle.remote_lookup.specs.KeyFiles.{KeyBytes}
use Rattle.remote_lookup.specs.declared.remote.Remote.{Remote}
use Rattle.remote_lookup.specs.declared.remote.RemoteFault.{RemoteFault}
use Rattle.remote_answers.specs.Statements.{Course, RunsTo}
use Rattle.remote_answers.proofs.CourseLemmas.{IsComing, coming_course}
use Rattle.run_base.specs.Items.{Item}
use Rattle.run_base.specs.Seen.{Folder}
use Rattle.run_plan.specs.Doing.{Went, Stopped, Refuses}
use Rattle.run_plan.specs.Faults.{remote_status}
use Rattle.run_plan.specs.Given.{Given, IsGiven}
use Rattle.run_plan.specs.Naming.{word_counts, zero_counts}
use Rattle.run_plan.specs.Prepared.{Predicates, IsPlan, IsDemoPlan, Reached}
use Rattle.run_plan.proofs.DoingLemmas.{stopped_pure}
use Rattle.run_plan.proofs.GivenLemmas.{found_at, is_found}
use Rattle.run_plan.proofs.PlanLemmas.{unread_of, given_script}
use Rattle.run_plan.specs.Steps.{or_refuse}
use Rattle.run_plan.specs.declared.plan.Plan.{Plan}
use Rattle.run_plan.specs.declared.status.Status.{Status}
use Rattle.run_plan.specs.declared.status.Status.TheVariants as status
use Rattle.run_answers.specs.Text.{text_of}
use Rattle.whole_run.specs.Asked.{asked, counts_in, remotes_in}
use Rattle.whole_run.specs.Outcome.{AreTaskFiles, Due, IsDueBy, IsDueOver, IsGivenFor, IsGivenTo, IsOutcome, ReachedFor, IsTaskPlan, IsRequested, RunGiven, due_as, items_of, over_of, task_text, text_before, text_till, text_due}
use Rattle.whole_run.specs.declared.asking.Request.{Request}
use Rattle.whole_run.proofs.RemoteLemmas.{some_keys}

-- ---- what is given

-- no file
abbrev pub nothing_given : Given
nothing_given = record { script = None; tables = []; headings = [] }

-- the files of a plan, and the files of keys
abbrev pub run_given : Given → (ℕ → KeyBytes) → RunGiven
run_given files keys = record { files = files; keys = keys }

-- what may be given of the files of a task, whatever was loaded
files_for : (t : Task) (holds : Option (List File)) → (files : Given) × AreTaskFiles t holds files
files_for (task.Query q) holds =
    let script : Option (List ℕ) = found_at holds q.script None in
    (unread_of q holds script, given_script q holds q.script script refl (is_found holds q.script None))
files_for (task.Demo rows) holds = (nothing_given, tt)

-- the same of all that is given, where no key's file was loaded
abbrev pub unkeyed : Task → Option (List File) → Given → RunGiven
unkeyed t holds files = run_given files (λ statement. (some_keys (remotes_in t) holds).0)

pub given_unkeyed : (t : Task) (holds : Option (List File)) (files : Given) → AreTaskFiles t holds files → IsGivenFor t holds (unkeyed t holds files)
given_unkeyed t holds files h = record { files = h; keys = λ statement. (some_keys (remotes_in t) holds).1 }

given_for : (t : Task) (holds : Option (List File)) → (given : RunGiven) × IsGivenFor t holds given
given_for t holds = let files = files_for t holds in (unkeyed t holds files.0, given_unkeyed t holds files.0 files.1)

no_request : (a : Request) → ◌≡◌ {A = Option Request} None (Some a) → ⊥
no_request a e = cc

same_request : (a b : Request) → ◌≡◌ {A = Option Request} (Some a) (Some b) → a ≡ b
same_request a b e = cc

pub some_given : (words : List (List ℕ)) (holds : Option (List File)) → (given : RunGiven) × IsGivenTo words holds given
some_given words holds = by (asked words) refl
  where
    by : (o : Option Request) → asked words ≡ o → (given : RunGiven) × IsGivenTo words holds given
    by None e = (run_given nothing_given (λ statement remote key. None), λ a is. absurd (no_request a (sym e ∙ is)))
    by (Some a) e =
        let given = given_for a.task holds in
        (given.0, λ b is. subst (λ (x : Request). IsGivenFor x.task holds given.0) (same_request a b (sym e ∙ is)) given.1)

-- the same of words that ask for this
pub given_to : (words : List (List ℕ)) (a : Request) (holds : Option (List File)) (given : RunGiven) → asked words ≡ Some a
    → IsGivenFor a.task holds given → IsGivenTo words holds given
given_to words a holds given e h b is = subst (λ (x : Request). IsGivenFor x.task holds given) (same_request a b (sym e ∙ is)) h

-- a plan, and a refusal, of a task
pub went_query : (t : Task) (q : Query) (p : Predicates) (seed : ℕ) (old new : Folder) (plan : Plan) → t ≡ task.Query q
    → Went old new (IsGiven q) (λ given. IsPlan p q given (Ok plan))
    → Went old new (AreTaskFiles t) (λ given. IsTaskPlan p t seed given (Ok plan))
went_query t q p seed old new plan e w =
    subst (λ (x : Task). Went old new (AreTaskFiles x) (λ given. IsTaskPlan p x seed given (Ok plan))) (sym e) w

pub went_demo : (t : Task) (rows : ℕ) (p : Predicates) (seed : ℕ) (old : Folder) (plan : Plan) → t ≡ task.Demo rows
    → IsDemoPlan p rows seed (Ok plan) → Went old old (AreTaskFiles t) (λ given. IsTaskPlan p t seed given (Ok plan))
went_demo t rows p seed old plan e h =
    subst (λ (x : Task). Went old old (AreTaskFiles x) (λ given. IsTaskPlan p x seed given (Ok plan))) (sym e)
    (record { keeps = refl; kept = refl; given = nothing_given; agrees = tt; tells = h })

pub stopped_query : (t : Task) (q : Query) (p : Predicates) (seed : ℕ) (old new : Folder) (s : Status) → t ≡ task.Query q
    → Stopped (word_counts q) old new (IsGiven q) (λ given. IsPlan p q given (Err s)) (Reached q) s
    → Stopped (counts_in t) old new (AreTaskFiles t) (λ given. IsTaskPlan p t seed given (Err s)) (ReachedFor t) s
stopped_query t q p seed old new s e r =
    subst (λ (x : Task). Stopped (counts_in x) old new (AreTaskFiles x) (λ given. IsTaskPlan p x seed given (Err s))
    (ReachedFor x) s) (sym e) r

pub stopped_demo : (t : Task) (rows : ℕ) (p : Predicates) (seed : ℕ) (old : Folder) (s : Status) → t ≡ task.Demo rows
    → Refuses zero_counts (IsDemoPlan p rows seed (Err s)) s
    → Stopped (counts_in t) old old (AreTaskFiles t) (λ given. IsTaskPlan p t seed given (Err s)) (ReachedFor t) s
stopped_demo t rows p seed old s e r =
    subst (λ (x : Task). Stopped (counts_in x) old old (AreTaskFiles x) (λ given. IsTaskPlan p x seed given (Err s))
    (ReachedFor x) s) (sym e)
    (stopped_pure old old (λ holds given. ⊤) (λ given. ⊤) (λ given. IsDemoPlan p rows seed (Err s)) (λ given f. ⊥) (IsDemoPlan p rows seed (Err s)) s
    (record { keeps = refl; kept = refl; given = nothing_given; agrees = tt; tells = tt }) (λ h. h) r (record { tables = omega arith; accesses = omega arith; remotes = omega arith }))

-- ---- the outcome

pub outcome_unplanned : (p : Predicates) (words : List (List ℕ)) (given : RunGiven) (a : Request) (s : Status) → asked words ≡ Some a
    → IsRequested p a given.files (Err s) → IsOutcome p words given (due_as [] (Some s))
outcome_unplanned p words given a s e h = (Err s, (Ok a, sym (ap (or_refuse status.Usage) e), h), refl)

-- of a plan without remotes
pub outcome_planned : (p : Predicates) (words : List (List ℕ)) (given : RunGiven) (a : Request) (plan : Plan) → asked words ≡ Some a → plan.remotes ≡ []
    → IsRequested p a given.files (Ok plan) → IsOutcome p words given (due_as (items_of plan) None)
outcome_planned p words given a plan e none h = (
  Ok plan,
  (Ok a, sym (ap (or_refuse status.Usage) e), h),
  subst (λ (rs : List Remote). IsDueOver p given plan rs (due_as (items_of plan) None)) (sym none) refl,
)

-- and of one with remotes
abbrev pub due_of : Course → Due
due_of c = due_as c.items (option_map remote_status c.refusal)

pub outcome_run : (p : Predicates) (words : List (List ℕ)) (given : RunGiven) (a : Request) (plan : Plan) (c : Course) → asked words ≡ Some a
    → plan.remotes ≢ [] → IsRequested p a given.files (Ok plan) → RunsTo (over_of p given plan) 1 plan.statements c
    → IsOutcome p words given (due_of c)
outcome_run p words given a plan c e some h k = (Ok plan, (Ok a, sym (ap (or_refuse status.Usage) e), h), by plan.remotes some)
  where
    by : (rs : List Remote) → rs ≢ [] → IsDueOver p given plan rs (due_of c)
    by [] n = absurd (n refl)
    by (r ∷ rs) n = (c, k, refl)

pub outcome_usage : (p : Predicates) (words : List (List ℕ)) (given : RunGiven) → asked words ≡ None
    → IsOutcome p words given (due_as [] (Some status.Usage))
outcome_usage p words given e = (Err status.Usage, (Err status.Usage, sym (ap (or_refuse status.Usage) e), refl), refl)

-- ---- its text

-- the text of statements that nothing refuses, and of a query's
pub text_planned : (p : Predicates) (words : List (List ℕ)) (a : Request) (items : List Item) → asked words ≡ Some a
    → text_due p words (due_as items None) ≡ task_text a.task p.gives items
text_planned p words a items e = rw e refl

pub text_run : (p : Predicates) (words : List (List ℕ)) (a : Request) (q : Query) (items : List Item) (refusal : Option Status) → asked words ≡ Some a
    → a.task ≡ task.Query q → text_due p words (due_as items refusal) ≡ text_of p.gives items
text_run p words a q items refusal e is =
    ap (λ (o : Option Request). option_map_or (λ (b : Request). text_till refusal b.task p.gives items) o []) e
    ∙ ap (λ (t : Task). text_till refusal t p.gives items) is ∙ by refusal
  where
    by : (o : Option Status) → text_till o (task.Query q) p.gives items ≡ text_of p.gives items
    by None = refl
    by (Some s) = refl

-- no text is due where no statement is answered
before_none : (t : Task) (gives : ℕ → Value → Value → Truth) → text_before t gives [] ≡ []
unfolding text_of
before_none (task.Query q) gives = refl
before_none (task.Demo rows) gives = refl

pub text_refused : (p : Predicates) (words : List (List ℕ)) (s : Status) → text_due p words (due_as [] (Some s)) ≡ []
text_refused p words s = by (asked words)
  where
    by : (o : Option Request) → option_map_or (λ (a : Request). text_till (Some s) a.task p.gives []) o [] ≡ []
    by None = refl
    by (Some a) = before_none a.task p.gives

-- a front of no text is none
adds_none : (before now : Option (List ℕ)) → AddsFront before now [] → Adds before now []
adds_none before now ([], rest, split, adds) = adds
adds_none before now (x ∷ front, rest, split, adds) = absurd cc

-- a status is that of no refusal that a statement's keys come to
abbrev pub IsNoKeys : Status → Type 0
IsNoKeys s = (why : RemoteFault) → IsComing why → remote_status why ≢ s

-- where something refuses before any statement is answered, a front of the text that is due is that text
pub adds_refused : (p : Predicates) (words : List (List ℕ)) (given : RunGiven) (due : Due) (s : Status) (before now : Option (List ℕ)) → IsNoKeys s
    → IsOutcome p words given due → due.refusal ≡ Some s → AddsFront before now (text_due p words due) → Adds before now (text_due p words due)
adds_refused p words given due s before now apart d e front = by d.0 d.2
  where
    never : ◌≡◌ {A = Option Status} None (Some s) → ⊥
    never f = cc

    keyed : (o : Option RemoteFault) → ((why : RemoteFault) → o ≡ Some why → IsComing why) → option_map remote_status o ≡ Some s → ⊥
    keyed None comes f = never f
    keyed (Some why) comes f = apart why (comes why refl) (some_same f)
      where
        some_same : {x y : Status} → ◌≡◌ {A = Option Status} (Some x) (Some y) → x ≡ y
        some_same g = cc

    planned : (plan : Plan) (rs : List Remote) → IsDueOver p given plan rs due → ⊥
    planned plan [] is = never (sym (ap (λ (x : Due). x.refusal) is) ∙ e)
    planned plan (r ∷ rs) is =
        keyed is.0.refusal (λ why f. coming_course (over_of p given plan) 1 plan.statements is.0 why is.1 f)
        (sym (ap (λ (x : Due). x.refusal) is.2) ∙ e)

    by : (plan : Result Plan Status) → IsDueBy p given plan due → Adds before now (text_due p words due)
    by (Ok plan) is = absurd (planned plan plan.remotes is)
    by (Err t) is =
        let none : text_due p words due ≡ [] = ap (text_due p words) is ∙ text_refused p words t in
        subst (λ (x : List ℕ). Adds before now x) (sym none) (adds_none before now (subst (λ (x : List ℕ). AddsFront before now x) none front))
