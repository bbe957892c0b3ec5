-- Scripts and statements: what they read as and are bound to.
use Rattle.std.proofs.Common.{◌≡◌, ◌≢◌, ℕ, suc, ◌+◌, ◌<◌, List, [], ◌∷◌, ◌++◌, length, take, drop, get_or, Result, Ok, Err, refl, sym, ◌∙◌, ap, subst, arith}
use Rattle.std.specs.Prelude.{Contains}
use Rattle.std.proofs.lemmas.List.{drop_more, take_more, take-append-drop, length-take-le}
use Rattle.std.proofs.lemmas.List.Elements.{Contains-get_or}
use Rattle.sq_parse.specs.Fault.{IsFault as IsScriptFault}
use Rattle.sq_parse.specs.declared.parser.ParseFault.{ParseFault}
use Rattle.sq_parse.specs.declared.parser.ParseFault.TheVariants as parse
use Rattle.sq_parse.specs.declared.tree.Script.{Script}
use Rattle.sq_parse.specs.declared.tree.Statement.{Statement}
use Rattle.run_base.specs.declared.bound.Bound.{Bound}
use Rattle.sq_bind.specs.Answer as binding
use Rattle.sq_bind.specs.Given.{IsParsed}
use Rattle.sq_bind.specs.Statement.{Scope}
use Rattle.sq_bind.specs.declared.fault.BindFault.{BindFault}
use Rattle.sq_bind.specs.declared.fault.BindFault.TheVariants as bind
use Rattle.run_plan.specs.Doing.{Refuses, IsParsedScript}
use Rattle.run_plan.specs.Naming.{zero_counts}
use Rattle.run_plan.specs.Faults.{Sort, Plain, PastLimit, NoMemory, parse_sort, bind_sort, by_sort, script_status, bind_status}
use Rattle.run_plan.specs.Prepared.{IsSpelled, IsBoundTo, AreBoundTo}
use Rattle.run_plan.specs.Steps.{Behind, AndThen, ComesTo}
use Rattle.run_plan.specs.declared.status.Status.{Status}
use Rattle.run_plan.specs.declared.status.Status.TheVariants as status
use Rattle.run_plan.specs.declared.status.LimitOf.TheVariants as limit
use Rattle.run_plan.proofs.DoingLemmas.{refuses_memory}

apart_plain : Plain ≡ NoMemory → ⊥
apart_plain e = cc

apart_limit : PastLimit ≡ NoMemory → ⊥
apart_limit e = cc

-- the refusal of a script's fault
pub refuses_script : (text : List ℕ) (fault : ParseFault) → (fault ≢ parse.Memory → IsScriptFault text fault)
    → Refuses zero_counts (IsSpelled text (Err (script_status fault))) (script_status fault)
refuses_script text fault h = by (parse_sort fault) refl
  where
    due : parse_sort fault ≢ NoMemory → IsSpelled text (Err (script_status fault))
    due f = (Err fault, h (λ (e : fault ≡ parse.Memory). f (ap parse_sort e)), refl)

    by : (s : Sort) → parse_sort fault ≡ s → Refuses zero_counts (IsSpelled text (Err (script_status fault))) (by_sort s (status.Script fault) (status.Limit (limit.Parse fault)))
    by Plain e = record {
      may = due (λ (x : parse_sort fault ≡ NoMemory). apart_plain (sym e ∙ x));
      early = record { between = tt; founded = tt; placed = e; named = record { file = tt; access = tt; remote = tt } };
    }
    by PastLimit e = record {
      may = due (λ (x : parse_sort fault ≡ NoMemory). apart_limit (sym e ∙ x));
      early = record { between = tt; founded = tt; placed = e; named = record { file = tt; access = tt; remote = tt } };
    }
    by NoMemory e = refuses_memory _

-- the refusal of a statement's fault
pub refuses_statement : (scope : Scope) (number : ℕ) (s : Statement) (fault : BindFault) → (fault ≢ bind.Memory → binding.IsBindFault scope s fault)
    → Refuses zero_counts (IsBoundTo scope number s (Err (bind_status number fault))) (bind_status number fault)
refuses_statement scope number s fault h = by (bind_sort fault) refl
  where
    due : bind_sort fault ≢ NoMemory → IsBoundTo scope number s (Err (bind_status number fault))
    due f = (fault, h (λ (e : fault ≡ bind.Memory). f (ap bind_sort e)), refl)

    by : (x : Sort) → bind_sort fault ≡ x
        → Refuses zero_counts (IsBoundTo scope number s (Err (bind_status number fault))) (by_sort x (status.Bind number fault) (status.Limit (limit.Bind number fault)))
    by Plain e = record {
      may = due (λ (x : bind_sort fault ≡ NoMemory). apart_plain (sym e ∙ x));
      early = record { between = tt; founded = tt; placed = e; named = record { file = tt; access = tt; remote = tt } };
    }
    by PastLimit e = record {
      may = due (λ (x : bind_sort fault ≡ NoMemory). apart_limit (sym e ∙ x));
      early = record { between = tt; founded = tt; placed = e; named = record { file = tt; access = tt; remote = tt } };
    }
    by NoMemory e = refuses_memory _

-- ---- statements, in order

-- blocks in front of what more statements come to
behind : List Bound → Result (List Bound) Status → Result (List Bound) Status
behind blocks (Ok more) = Ok (blocks ++ more)
behind blocks (Err s) = Err s

one_more : (scope : Scope) (number : ℕ) (s : Statement) (more : List Statement) (b : Bound) (bs : List Bound) (due : Result (List Bound) Status)
    → IsBoundTo scope number s (Ok b) → AreBoundTo scope (number + 1) more (behind bs due) → AreBoundTo scope number (s ∷ more) (behind (b ∷ bs) due)
unfolding AreBoundTo behind
one_more scope number s more b bs (Ok cs) h k = (Ok b, h, (Ok (bs ++ cs), k, refl))
one_more scope number s more b bs (Err e) h k = (Ok b, h, (Err e, k, refl))

ok_same : {x y : List Bound} → ◌≡◌ {A = Result (List Bound) Status} (Ok x) (Ok y) → x ≡ y
ok_same e = cc

never_ok : {x : List Bound} {s : Status} → ◌≡◌ {A = Result (List Bound) Status} (Ok x) (Err s) → ⊥
never_ok e = cc

-- what more statements come to, behind the blocks of some
blocks_behind : (scope : Scope) (number : ℕ) (first more : List Statement) (blocks : List Bound) (due : Result (List Bound) Status)
    → AreBoundTo scope number first (Ok blocks) → AreBoundTo scope (number + length first) more due
    → AreBoundTo scope number (first ++ more) (behind blocks due)
unfolding AreBoundTo behind
blocks_behind scope number [] more blocks due h k =
    subst (λ (bs : List Bound). AreBoundTo scope number more (behind bs due)) (sym (ok_same h))
    (nothing due (subst (λ (n : ℕ). AreBoundTo scope n more due) here k))
  where
    here : number + 0 ≡ number
    here = omega arith

    nothing : (d : Result (List Bound) Status) → AreBoundTo scope number more d → AreBoundTo scope number more (behind [] d)
    nothing (Ok cs) r = r
    nothing (Err e) r = r
blocks_behind scope number (s ∷ first) more blocks due h k =
    by (λ bs f. blocks_behind scope (number + 1) first more bs due f (subst (λ (n : ℕ). AreBoundTo scope n more due) here k)) h.0 h.1 h.2
  where
    here : number + suc (length first) ≡ (number + 1) + length first
    here = omega arith

    all : ((bs : List Bound) → AreBoundTo scope (number + 1) first (Ok bs) → AreBoundTo scope (number + 1) (first ++ more) (behind bs due))
        → (b : Bound) → IsBoundTo scope number s (Ok b) → (r : Result (List Bound) Status) → AreBoundTo scope (number + 1) first r
        → Behind (λ blocks'. ComesTo (Ok (b ∷ blocks'))) r (Ok blocks) → AreBoundTo scope number ((s ∷ first) ++ more) (behind blocks due)
    all rest b is (Err e) f g = absurd (never_ok g)
    all rest b is (Ok bs) f g =
        subst (λ (xs : List Bound). AreBoundTo scope number ((s ∷ first) ++ more) (behind xs due)) (sym (ok_same g))
        (one_more scope number s (first ++ more) b bs due is (rest bs f))

    by : ((bs : List Bound) → AreBoundTo scope (number + 1) first (Ok bs) → AreBoundTo scope (number + 1) (first ++ more) (behind bs due))
        → (r : Result Bound Status) → IsBoundTo scope number s r
        → Behind (λ b. AndThen (AreBoundTo scope (number + 1) first) (λ bs. ComesTo (Ok (b ∷ bs)))) r (Ok blocks)
        → AreBoundTo scope number ((s ∷ first) ++ more) (behind blocks due)
    by rest (Err e) f g = absurd (never_ok g)
    by rest (Ok b) f g = all rest b f g.0 g.1 g.2

pub blocks_none : (scope : Scope) (number : ℕ) → AreBoundTo scope number [] (Ok [])
unfolding AreBoundTo
blocks_none scope number = refl

-- the next statement is bound
pub blocks_next : (scope : Scope) (all : List Statement) (i : ℕ) (x : Statement) (blocks : List Bound) (b : Bound) → i < length all → x ≡ get_or all i x
    → AreBoundTo scope 1 (take i all) (Ok blocks) → IsBoundTo scope (i + 1) x (Ok b) → AreBoundTo scope 1 (take (i + 1) all) (Ok (blocks ++ b ∷ []))
unfolding AreBoundTo behind
blocks_next scope all i x blocks b h is bound k =
    let place : i + 1 ≡ 1 + length (take i all) = omega (arith, length-take-le i all (omega arith)) in
    let more : take i all ++ (x ∷ []) ≡ take (i + 1) all = ap (λ (y : Statement). take i all ++ (y ∷ [])) is ∙ sym (take_more all i x h) in
    subst (λ (ss : List Statement). AreBoundTo scope 1 ss (Ok (blocks ++ b ∷ []))) more
    (blocks_behind scope 1 (take i all) (x ∷ []) blocks (Ok (b ∷ [])) bound
    (Ok b, subst (λ (n : ℕ). IsBoundTo scope n x (Ok b)) place k, (Ok [], refl, refl)))

-- the next statement is refused
pub blocks_refused : (scope : Scope) (all : List Statement) (i : ℕ) (x : Statement) (blocks : List Bound) (s : Status) → i < length all → x ≡ get_or all i x
    → AreBoundTo scope 1 (take i all) (Ok blocks) → IsBoundTo scope (i + 1) x (Err s) → AreBoundTo scope 1 all (Err s)
unfolding AreBoundTo behind
blocks_refused scope all i x blocks s h is bound k =
    let place : i + 1 ≡ 1 + length (take i all) = omega (arith, length-take-le i all (omega arith)) in
    let split : take i all ++ (x ∷ drop (i + 1) all) ≡ all =
    ap (λ (y : Statement). take i all ++ (y ∷ drop (i + 1) all)) is
    ∙ sym (ap (λ (z : List Statement). take i all ++ z) (drop_more all i x h)) ∙ take-append-drop i all in
    subst (λ (ss : List Statement). AreBoundTo scope 1 ss (Err s)) split
    (blocks_behind scope 1 (take i all) (x ∷ drop (i + 1) all) blocks (Err s) bound
    (Err s, subst (λ (n : ℕ). IsBoundTo scope n x (Err s)) place k, refl))

-- a statement of a script that was parsed
pub parsed_at : (script : Script) (i : ℕ) (s : Statement) → IsParsedScript script → i < length script.statements → s ≡ get_or script.statements i s → IsParsed s
parsed_at script i s h within is = record {
  text = h.0;
  script = script;
  spelled = h.1;
  among = subst (Contains script.statements) (sym is) (Contains-get_or script.statements i s within);
}

-- the same of equal lists
pub blocks_of : (scope : Scope) (number : ℕ) (ss ts : List Statement) (due : Result (List Bound) Status) → ss ≡ ts → AreBoundTo scope number ss due
    → AreBoundTo scope number ts due
blocks_of scope number ss ts due e h = subst (λ (us : List Statement). AreBoundTo scope number us due) e h

pub blocks_are : (scope : Scope) (number : ℕ) (ss : List Statement) (bs cs : List Bound) → bs ≡ cs → AreBoundTo scope number ss (Ok bs)
    → AreBoundTo scope number ss (Ok cs)
blocks_are scope number ss bs cs e h = subst (λ (us : List Bound). AreBoundTo scope number ss (Ok us)) e h
