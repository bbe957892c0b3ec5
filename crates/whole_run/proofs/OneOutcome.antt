-- Words over what is given have one outcome.
use Rattle.std.proofs.Common.{◌≡◌, ℕ, ◌+◌, ◌%◌, ◌<◌, Bool, true, false, List, [], ◌∷◌, length, get_or, Option, Some, None, Result, Ok, Err, refl, sym, ◌∙◌, ap, subst, ◌⊎◌, inl, inr}
use Rattle.std.specs.Prelude.{All, option_map}
use Rattle.std.proofs.lemmas.List.Elements.{All-head, All-tail, Contains-get_or}
use Rattle.sq_parse.specs.Fault.{ReadsAs}
use Rattle.sq_parse.specs.Shaped.{is_shaped}
use Rattle.sq_parse.specs.declared.parser.ParseFault.{ParseFault}
use Rattle.sq_parse.proofs.OneReading.{one_reading}
use Rattle.sq_parse.specs.declared.tree.Script.{Script}
use Rattle.sq_parse.specs.declared.tree.Statement.{Statement}
use Rattle.sq_expr.specs.declared.block.Block.{Block}
use Rattle.sq_bind.specs.Answer as binding
use Rattle.sq_bind.specs.Given.{over}
use Rattle.sq_bind.specs.Statement.{Scope}
use Rattle.sq_bind.proofs.AnswerLemmas.{some_answer, some_shape}
use Rattle.sq_bind.proofs.ParsedLemmas.{parsed_sound}
use Rattle.sq_bind.specs.declared.fault.BindFault.{BindFault}
use Rattle.sq_bind.specs.declared.shaped.Shaped.{Shaped}
use Rattle.command_line.specs.declared.command.AccessWord.{AccessWord}
use Rattle.command_line.specs.declared.command.Query.{Query}
use Rattle.command_line.specs.declared.command.Task.{Task}
use Rattle.command_line.specs.declared.command.Task.TheVariants as task
use Rattle.demo_tables.specs.Demo.{demo}
use Rattle.remote_lookup.specs.declared.remote.Remote.{Remote}
use Rattle.remote_answers.specs.Statements.{Course}
use Rattle.remote_answers.proofs.CourseLemmas.{one_course, some_course}
use Rattle.run_plan.specs.DemoScript.{demo_script}
use Rattle.run_plan.specs.Accesses.{accesses_read}
use Rattle.run_plan.specs.Given.{Given}
use Rattle.run_plan.specs.Faults.{bind_status, remote_status, script_status}
use Rattle.run_plan.specs.Files.{file_read}
use Rattle.run_plan.specs.Headings.{Opened, opened_as}
use Rattle.run_plan.specs.Prepared.{IsSpelled, IsScript, IsBoundTo, AreBoundTo, IsBoundPlan, IsPlan, IsDemoPlan, Predicates, plan_opened, all_read}
use Rattle.run_plan.specs.Steps.{Behind, AndThen, ComesTo, or_refuse, or_fault}
use Rattle.run_plan.specs.declared.plan.Plan.{Plan}
use Rattle.run_plan.specs.declared.status.FileOf.TheVariants as file
use Rattle.run_plan.specs.declared.status.Status.{Status}
use Rattle.run_plan.specs.declared.status.Status.TheVariants as status
use Rattle.run_plan.proofs.OnePlan.{IsOne, one_given, one_then, one_plan, one_demo}
use Rattle.whole_run.specs.Asked.{asked}
use Rattle.whole_run.specs.Outcome.{Due, IsDueBy, IsDueOver, IsTaskPlan, IsRequested, IsPlanned, IsOutcome, OneOutcome, RunGiven, due_as, items_of, over_of}

one_requested : (p : Predicates) (t : Task) (seed : ℕ) (given : Given) → IsOne (IsTaskPlan p t seed given)
one_requested p (task.Query q) seed given = one_plan p q given
one_requested p (task.Demo rows) seed given = one_demo p rows seed

one_planned : (p : Predicates) (words : List (List ℕ)) (given : RunGiven) → IsOne (IsPlanned p words given)
one_planned p words given =
    one_then (ComesTo (or_refuse status.Usage (asked words))) (λ a. IsRequested p a given.files) (one_given (or_refuse status.Usage (asked words)))
    (λ a. one_requested p a.task a.settings.seed given.files)

-- what is due by a plan is one thing
one_over : (p : Predicates) (given : RunGiven) (plan : Plan) (remotes : List Remote) (x y : Due) → IsDueOver p given plan remotes x
    → IsDueOver p given plan remotes y → x ≡ y
one_over p given plan [] x y h k = h ∙ sym k
one_over p given plan (r ∷ rs) x y h k =
    h.2 ∙ ap (λ (c : Course). due_as c.items (option_map remote_status c.refusal)) (one_course (over_of p given plan) 1 plan.statements h.0 k.0 h.1 k.1)
    ∙ sym k.2

one_due : (p : Predicates) (given : RunGiven) (plan : Result Plan Status) (x y : Due) → IsDueBy p given plan x → IsDueBy p given plan y → x ≡ y
one_due p given (Ok plan) x y h k = one_over p given plan plan.remotes x y h k
one_due p given (Err s) x y h k = h ∙ sym k

pub same_outcome : (p : Predicates) (words : List (List ℕ)) (given : RunGiven) (x y : Due) → IsOutcome p words given x → IsOutcome p words given y → x ≡ y
same_outcome p words given x y h k =
    one_due p given k.0 x y (subst (λ (plan : Result Plan Status). IsDueBy p given plan x) (one_planned p words given h.0 k.0 h.1 k.1) h.2) k.2

-- ---- there is one

-- a step comes to something
abbrev pub Comes : {A : Type 0} → (Result A Status → Type 0) → Type 0
Comes {A = A} step = (r : Result A Status) × step r

some_then : {A B : Type 0} (first : Result A Status → Type 0) (more : A → Result B Status → Type 0) → Comes first → ((a : A) → first (Ok a) → Comes (more a))
    → Comes (AndThen first more)
some_then {A = A} {B = B} first more f each = by f.0 f.1
  where
    by : (r : Result A Status) → first r → Comes (AndThen first more)
    by (Err s) h = (Err s, (Err s, h, refl))
    by (Ok a) h = let k = each a h in (k.0, (Ok a, h, k.1))

some_given : {A : Type 0} (r : Result A Status) → Comes (ComesTo r)
some_given r = (r, refl)

some_spelled : (text : List ℕ) → Comes (IsSpelled text)
some_spelled text = let r = one_reading text in (or_fault script_status r.0, (r.0, r.1, refl))

some_script : (found : Option (List ℕ)) → Comes (IsScript found)
some_script found =
    some_then (ComesTo (file_read file.Script found)) IsSpelled (some_given (file_read file.Script found)) (λ text h. some_spelled text)

some_block : (scope : Scope) (number : ℕ) (s : Statement) → 0 < length s.sources → Comes (IsBoundTo scope number s)
some_block scope number s some = by (is_shaped s) refl
  where
    plain : is_shaped s ≡ false → ((block : Block) × binding.IsBound scope s block) ⊎ ((x : BindFault) × binding.IsBindFault scope s x)
        → Comes (IsBoundTo scope number s)
    plain e (inl h) = (Ok (record { block = h.0; shape = None }), (e, h.1))
    plain e (inr h) = (Err (bind_status number h.0), (h.0, h.1, refl))

    shaped : is_shaped s ≡ true → ((t : Shaped) × binding.IsBoundShape scope s t) ⊎ ((x : BindFault) × binding.IsBindFault scope s x)
        → Comes (IsBoundTo scope number s)
    shaped e (inl h) = (Ok (record { block = h.0.block; shape = Some h.0.shape }), (e, h.1))
    shaped e (inr h) = (Err (bind_status number h.0), (h.0, h.1, refl))

    by : (b : Bool) → is_shaped s ≡ b → Comes (IsBoundTo scope number s)
    by true e = shaped e (some_shape scope s some)
    by false e = plain e (some_answer scope s some)

-- a statement has sources
abbrev pub HasSource : Statement → Type 0
HasSource s = 0 < length s.sources

some_blocks : (scope : Scope) (number : ℕ) (ss : List Statement) → All HasSource ss → Comes (AreBoundTo scope number ss)
unfolding AreBoundTo
some_blocks scope number [] all = (Ok [], refl)
some_blocks scope number (s ∷ more) all =
    let rest = some_blocks scope (number + 1) more (All-tail HasSource s more all) in
    some_then (IsBoundTo scope number s) (λ block. AndThen (AreBoundTo scope (number + 1) more) (λ blocks. ComesTo (Ok (block ∷ blocks))))
    (some_block scope number s (All-head HasSource s more all))
    (λ block h. some_then (AreBoundTo scope (number + 1) more) (λ blocks. ComesTo (Ok (block ∷ blocks))) rest (λ blocks k. some_given (Ok (block ∷ blocks))))

-- the statements of a script that was read have sources
sources_read : (text : List ℕ) (script : Script) (read : Result Script ParseFault) → ReadsAs text read → ◌≡◌ {A = Result Script Status} (Ok script) (or_fault script_status read)
    → All HasSource script.statements
sources_read text script (Err f) h e = absurd cc
sources_read text script (Ok found) h e =
    let same : script ≡ found = cc in
    subst (λ (x : Script). All HasSource x.statements) (sym same)
    (λ k d within. (parsed_sound (get_or found.statements k d)
    (record { text = text; script = found; spelled = h.1; among = Contains-get_or found.statements k d within })).some_source)

sources_of : (found : Option (List ℕ)) (script : Script) → IsScript found (Ok script) → All HasSource script.statements
sources_of found script h = by h.0 h.2
  where
    by : (r : Result (List ℕ) Status) → Behind IsSpelled r (Ok script) → All HasSource script.statements
    by (Err s) k = absurd cc
    by (Ok text) k = sources_read text script k.0 k.1 k.2

some_bound_plan : (p : Predicates) (asks : List AccessWord) (script : Script) (o : Opened) → All HasSource script.statements → Comes (IsBoundPlan p asks script o)
some_bound_plan p asks script o all =
    some_then (ComesTo (accesses_read o.catalogue.tables asks o.remotes))
    (λ accesses. AndThen (AreBoundTo (over o.catalogue accesses p.calls) 1 script.statements) (λ blocks. ComesTo (Ok (plan_opened o blocks))))
    (some_given (accesses_read o.catalogue.tables asks o.remotes))
    (λ accesses h. some_then (AreBoundTo (over o.catalogue accesses p.calls) 1 script.statements) (λ blocks. ComesTo (Ok (plan_opened o blocks)))
    (some_blocks (over o.catalogue accesses p.calls) 1 script.statements all) (λ blocks k. some_given (Ok (plan_opened o blocks))))

some_plan : (p : Predicates) (q : Query) (given : Given) → Comes (IsPlan p q given)
unfolding IsPlan
some_plan p q given =
    some_then (IsScript given.script) (λ script. AndThen (ComesTo (all_read given q)) (λ o. IsBoundPlan p q.accesses script o))
    (some_script given.script)
    (λ script h. some_then (ComesTo (all_read given q)) (λ o. IsBoundPlan p q.accesses script o)
    (some_given (all_read given q)) (λ o k. some_bound_plan p q.accesses script o (sources_of given.script script h)))

some_demo : (p : Predicates) (rows seed : ℕ) → Comes (IsDemoPlan p rows seed)
unfolding IsDemoPlan
some_demo p rows seed =
    some_then (IsSpelled demo_script) (λ script. IsBoundPlan p [] script (opened_as (demo rows (seed % 1000)) [])) (some_spelled demo_script)
    (λ script h. some_bound_plan p [] script (opened_as (demo rows (seed % 1000)) []) (sources_read demo_script script h.0 h.1 h.2))

some_requested : (p : Predicates) (t : Task) (seed : ℕ) (given : Given) → Comes (IsTaskPlan p t seed given)
some_requested p (task.Query q) seed given = some_plan p q given
some_requested p (task.Demo rows) seed given = some_demo p rows seed

-- something is due by a plan
some_over : (p : Predicates) (given : RunGiven) (plan : Plan) (remotes : List Remote) → (due : Due) × IsDueOver p given plan remotes due
some_over p given plan [] = (due_as (items_of plan) None, refl)
some_over p given plan (r ∷ rs) =
    let c = some_course (over_of p given plan) 1 plan.statements in
    (due_as c.0.items (option_map remote_status c.0.refusal), (c.0, c.1, refl))

some_due : (p : Predicates) (given : RunGiven) (plan : Result Plan Status) → (due : Due) × IsDueBy p given plan due
some_due p given (Ok plan) = some_over p given plan plan.remotes
some_due p given (Err s) = (due_as [] (Some s), refl)

some_outcome : (p : Predicates) (words : List (List ℕ)) (given : RunGiven) → (due : Due) × IsOutcome p words given due
some_outcome p words given =
    let planned : Comes (IsPlanned p words given) =
    some_then (ComesTo (or_refuse status.Usage (asked words))) (λ a. IsRequested p a given.files) (some_given (or_refuse status.Usage (asked words)))
    (λ a h. some_requested p a.task a.settings.seed given.files) in
    let due = some_due p given planned.0 in
    (due.0, (planned.0, planned.1, due.1))

pub one_outcome : OneOutcome
one_outcome p words given =
    let due = some_outcome p words given in
    (due.0, due.1, λ other d. same_outcome p words given other due.0 d due.1)
