-- What a script, its tables and its accesses come to is one thing; so is what the demo comes to.
use Rattle.std.proofs.Common.{◌≡◌, ℕ, ◌+◌, ◌%◌, true, false, List, [], ◌∷◌, Option, Some, None, Result, Ok, Err, sym, ◌∙◌, ap, subst}
use Rattle.sq_parse.proofs.OneReading.{same_reading}
use Rattle.sq_parse.specs.declared.tree.Script.{Script}
use Rattle.sq_parse.specs.declared.tree.Statement.{Statement}
use Rattle.sq_expr.specs.declared.block.Block.{Block}
use Rattle.sq_expr.specs.declared.shape.Shape.{Shape}
use Rattle.run_base.specs.declared.bound.Bound.{Bound}
use Rattle.sq_bind.specs.Answer as binding
use Rattle.sq_bind.specs.Given.{over}
use Rattle.sq_bind.specs.Statement.{Scope}
use Rattle.sq_bind.proofs.AnswerLemmas.{one_fault, no_fault, no_fault_shape}
use Rattle.sq_bind.specs.declared.fault.BindFault.{BindFault}
use Rattle.sq_bind.specs.declared.shaped.Shaped.{Shaped}
use Rattle.command_line.specs.declared.command.AccessWord.{AccessWord}
use Rattle.command_line.specs.declared.command.Query.{Query}
use Rattle.demo_tables.specs.Demo.{demo}
use Rattle.run_plan.specs.DemoScript.{demo_script}
use Rattle.run_plan.specs.Accesses.{accesses_read}
use Rattle.run_plan.specs.Given.{Given}
use Rattle.run_plan.specs.Faults.{script_status, bind_status}
use Rattle.run_plan.specs.Files.{file_read}
use Rattle.run_plan.specs.Headings.{Opened, opened_as}
use Rattle.run_plan.specs.Prepared.{IsSpelled, IsScript, IsBoundAs, IsBoundTo, AreBoundTo, IsBoundPlan, IsPlan, IsDemoPlan, Predicates, plan_opened, all_read}
use Rattle.run_plan.specs.Steps.{Behind, AndThen, ComesTo, or_fault}
use Rattle.run_plan.specs.declared.status.FileOf.TheVariants as file
use Rattle.run_plan.specs.declared.status.Status.{Status}

-- what a step comes to is one thing
abbrev pub IsOne : {A : Type 0} → (Result A Status → Type 0) → Type 0
IsOne {A = A} step = (x y : Result A Status) → step x → step y → x ≡ y

pub one_given : {A : Type 0} (r : Result A Status) → IsOne (ComesTo r)
one_given r x y h k = h ∙ sym k

one_behind : {A B : Type 0} (more : A → Result B Status → Type 0) → ((a : A) → IsOne (more a)) → (r : Result A Status) → IsOne (Behind more r)
one_behind more each (Err s) x y h k = h ∙ sym k
one_behind more each (Ok a) x y h k = each a x y h k

pub one_then : {A B : Type 0} (first : Result A Status → Type 0) (more : A → Result B Status → Type 0) → IsOne first → ((a : A) → IsOne (more a))
    → IsOne (AndThen first more)
one_then first more one each x y h k =
    one_behind more each k.0 x y (subst (λ r. Behind more r x) (one h.0 k.0 h.1 k.1) h.2) k.2

pub one_spelled : (text : List ℕ) → IsOne (IsSpelled text)
one_spelled text x y h k = h.2 ∙ ap (or_fault script_status) (same_reading text h.0 k.0 h.1 k.1) ∙ sym k.2

-- a bound statement is told by its block and its shape
bound_of : Block → Option Shape → Bound
bound_of block shape = record { block = block; shape = shape }

-- a statement has a shape or none
apart : true ≡ false → ⊥
apart e = cc

-- a statement is bound to one block and one shape, or none
one_as : (scope : Scope) (s : Statement) (x y : Block) (u v : Option Shape) → IsBoundAs scope s x u → IsBoundAs scope s y v
    → bound_of x u ≡ bound_of y v
one_as scope s x y None None h k = ap (λ (b : Block). bound_of b None) (h.1.is ∙ sym k.1.is)
one_as scope s x y None (Some v) h k = absurd (apart (sym k.0 ∙ h.0))
one_as scope s x y (Some u) None h k = absurd (apart (sym h.0 ∙ k.0))
one_as scope s x y (Some u) (Some v) h k = ap (λ (t : Shaped). bound_of t.block (Some t.shape)) (h.1.is ∙ sym k.1.is)

-- and to nothing beside a fault
none_as : (scope : Scope) (s : Statement) (x : Block) (u : Option Shape) (f : BindFault) → IsBoundAs scope s x u → binding.IsBindFault scope s f → ⊥
none_as scope s x None f h k = no_fault scope s x f h.1 k
none_as scope s x (Some u) f h k = no_fault_shape scope s record { block = x; shape = u } f h.1 k

pub one_block : (scope : Scope) (number : ℕ) (s : Statement) → IsOne (IsBoundTo scope number s)
unfolding bound_of
one_block scope number s (Ok b) (Ok c) h k = ap Ok (one_as scope s b.block c.block b.shape c.shape h k)
one_block scope number s (Ok b) (Err r) h k = absurd (none_as scope s b.block b.shape k.0 h k.1)
one_block scope number s (Err r) (Ok c) h k = absurd (none_as scope s c.block c.shape h.0 k h.1)
one_block scope number s (Err r) (Err t) h k = ap Err (h.2 ∙ ap (bind_status number) (one_fault scope s h.0 k.0 h.1 k.1) ∙ sym k.2)

one_blocks : (scope : Scope) (number : ℕ) (ss : List Statement) → IsOne (AreBoundTo scope number ss)
unfolding AreBoundTo
one_blocks scope number [] x y h k = h ∙ sym k
one_blocks scope number (s ∷ more) x y h k =
    one_then (IsBoundTo scope number s) (λ block. AndThen (AreBoundTo scope (number + 1) more) (λ blocks. ComesTo (Ok (block ∷ blocks))))
    (one_block scope number s)
    (λ block. one_then (AreBoundTo scope (number + 1) more) (λ blocks. ComesTo (Ok (block ∷ blocks))) (one_blocks scope (number + 1) more)
    (λ blocks. one_given (Ok (block ∷ blocks)))) x y h k

-- ---- all of a run

one_script : (found : Option (List ℕ)) → IsOne (IsScript found)
one_script found = one_then (ComesTo (file_read file.Script found)) IsSpelled (one_given (file_read file.Script found)) one_spelled

one_bound_plan : (p : Predicates) (asks : List AccessWord) (script : Script) (o : Opened) → IsOne (IsBoundPlan p asks script o)
one_bound_plan p asks script o =
    one_then (ComesTo (accesses_read o.catalogue.tables asks o.remotes))
    (λ accesses. AndThen (AreBoundTo (over o.catalogue accesses p.calls) 1 script.statements) (λ blocks. ComesTo (Ok (plan_opened o blocks))))
    (one_given (accesses_read o.catalogue.tables asks o.remotes))
    (λ accesses. one_then (AreBoundTo (over o.catalogue accesses p.calls) 1 script.statements) (λ blocks. ComesTo (Ok (plan_opened o blocks)))
    (one_blocks (over o.catalogue accesses p.calls) 1 script.statements) (λ blocks. one_given (Ok (plan_opened o blocks))))

pub one_plan : (p : Predicates) (q : Query) (given : Given) → IsOne (IsPlan p q given)
unfolding IsPlan
one_plan p q given =
    one_then (IsScript given.script) (λ script. AndThen (ComesTo (all_read given q)) (λ o. IsBoundPlan p q.accesses script o))
    (one_script given.script)
    (λ script. one_then (ComesTo (all_read given q)) (λ o. IsBoundPlan p q.accesses script o)
    (one_given (all_read given q)) (one_bound_plan p q.accesses script))

pub one_demo : (p : Predicates) (rows seed : ℕ) → IsOne (IsDemoPlan p rows seed)
unfolding IsDemoPlan
one_demo p rows seed =
    one_then (IsSpelled demo_script) (λ script. IsBoundPlan p [] script (opened_as (demo rows (seed % 1000)) [])) (one_spelled demo_script)
    (λ script. one_bound_plan p [] script (opened_as (demo rows (seed % 1000)) []))
