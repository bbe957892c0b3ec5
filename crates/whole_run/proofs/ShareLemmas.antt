-- For the proofs: the statements of a plan to which nothing is reached but by scans can run together.
use Rattle.std.proofs.Common.{◌≡◌, ℕ, zero, suc, ◌+◌, ◌%◌, ◌<◌, ◌≤◌, Bool, true, List, [], ◌∷◌, ◌++◌, length, map, filter, get_or, slice_get, Option, Some, None, Result, Ok, Err, refl, sym, ◌∙◌, ap, subst, arith}
use Rattle.std.specs.Prelude.{All, option_map}
use Rattle.std.specs.List.{count_by, find, range_with_len}
use Rattle.std.proofs.lemmas.List.{length-map}
use Rattle.std.proofs.lemmas.List.Elements.{All-nil, All-cons}
use Rattle.std.proofs.lemmas.List.Sums.{count_by-le-length, length-filter}
use Rattle.std.proofs.lemmas.List.FromFn.{length-range_with_len}
use Rattle.std.proofs.lemmas.Option.{slice_get-map}
use Rattle.sq_value.specs.Relation.{Relation}
use Rattle.sq_parse.specs.Fault.{ReadsAs}
use Rattle.sq_parse.specs.Spelling.{Spelled}
use Rattle.sq_parse.specs.declared.parser.ParseFault.{ParseFault}
use Rattle.sq_parse.specs.declared.tree.Script.{Script}
use Rattle.sq_parse.specs.declared.tree.Source.{Source}
use Rattle.sq_parse.specs.declared.tree.Statement.{Statement}
use Rattle.sq_expr.specs.declared.block.Access.{Access}
use Rattle.sq_expr.specs.declared.block.AliasUse.{AliasUse}
use Rattle.sq_expr.specs.declared.block.Block.{Block}
use Rattle.sq_expr.specs.declared.shape.Shape.{Shape}
use Rattle.sq_bind.specs.Answer as binding
use Rattle.sq_bind.specs.Given.{over}
use Rattle.sq_bind.specs.Statement.{Scope, matches_of, block_of, plain_block, scanned, table_number, use_of}
use Rattle.sq_bind.specs.declared.shaped.Shaped.{Shaped}
use Rattle.catalogue.specs.Named.{NamedTables}
use Rattle.command_line.specs.Within.{HasScansAlone, IsTask}
use Rattle.command_line.specs.declared.command.AccessWord.{AccessWord}
use Rattle.command_line.specs.declared.command.Query.{Query}
use Rattle.command_line.specs.declared.command.RemoteWord.{RemoteWord}
use Rattle.command_line.specs.declared.command.TableWord.{TableWord}
use Rattle.command_line.specs.declared.command.Task.{Task}
use Rattle.command_line.specs.declared.command.Task.TheVariants as task
use Rattle.outside.specs.Files.{File}
use Rattle.run_base.specs.declared.bound.Bound.{Bound}
use Rattle.run_plan.specs.Accesses.{accesses_read, accesses_to, first_lacking, reach_to}
use Rattle.run_plan.specs.DemoScript.{demo_script}
use Rattle.run_plan.specs.Faults.{script_status}
use Rattle.run_plan.specs.Files.{catalogue_of, catalogue_read, table_read, tables_read}
use Rattle.run_plan.specs.Given.{Given}
use Rattle.run_plan.specs.Headings.{Opened, opened_as, remotes_opened}
use Rattle.run_plan.specs.Prepared.{Predicates, AreBoundTo, IsBoundAs, IsBoundPlan, IsBoundTo, IsDemoPlan, IsPlan, IsScript, IsSpelled, all_read, opened_over, plan_opened}
use Rattle.run_plan.specs.Steps.{AndThen, Behind, ComesTo, or_fault, ◌>>=◌}
use Rattle.run_plan.specs.declared.plan.Plan.{Plan}
use Rattle.run_plan.specs.declared.status.Status.{Status}
use Rattle.run_answers.specs.Together.{blocks_in}
use Rattle.demo_tables.specs.Demo.{demo}
use Rattle.shared_eddy.specs.Sharing.{CanShare}
use Rattle.shared_meaning.specs.Numbers.{is_used, used_among}
use Rattle.shared_meaning.specs.Settled.{IsScannedAlone}
use Rattle.whole_run.specs.Outcome.{AreTaskFiles, IsTaskPlan}

-- ---- how tables are reached

-- each of these accesses is a scan, and so is the one past their end
AreScans : List Access → Type 0
AreScans accesses = (table : ℕ) → get_or accesses table scanned ≡ scanned

all_scanned : (tables : List Relation) (numbers : List ℕ) → (table : ℕ) → get_or (map (reach_to tables [] []) numbers) table scanned ≡ scanned
all_scanned tables [] table = refl
all_scanned tables (n ∷ ns) zero = refl
all_scanned tables (n ∷ ns) (suc table) = all_scanned tables ns table

-- so it is where no access is asked for, and there is no remote
scans_read : (tables : List Relation) (accesses : List Access) → Ok accesses ≡ accesses_read tables [] [] → AreScans accesses
unfolding AreScans accesses_read first_lacking
scans_read tables accesses e =
    let same : accesses ≡ accesses_to tables [] [] = same_ok accesses (accesses_to tables [] []) e in
    subst (λ (l : List Access). (table : ℕ) → get_or l table scanned ≡ scanned) (sym same) (all_scanned tables (range_with_len 0 (length tables)))
  where
    same_ok : (x y : List Access) → ◌≡◌ {A = Result (List Access) Status} (Ok x) (Ok y) → x ≡ y
    same_ok x y f = cc

-- ---- statements that are bound

-- an option's value
same_some : {X : Type 0} (x y : X) → ◌≡◌ {A = Option X} (Some x) (Some y) → x ≡ y
same_some x y e = cc

scanned_in : (scope : Scope) → AreScans scope.accesses → (sources : List Source) (alias : ℕ) (u : AliasUse)
    → slice_get (map (use_of scope) sources) alias ≡ Some u → (u.access.scan ≡ true) × (u.access.look_up ≡ None)
unfolding AreScans
scanned_in scope scans sources alias u e =
    by (slice_get sources alias) (sym (slice_get-map (use_of scope) sources alias) ∙ e)
  where
    by : (o : Option Source) → option_map (use_of scope) o ≡ Some u → (u.access.scan ≡ true) × (u.access.look_up ≡ None)
    by None g = absurd cc
    by (Some s) g =
        let access : u.access ≡ scanned =
        ap (λ (x : AliasUse). x.access) (sym (same_some (use_of scope s) u g)) ∙ scans (table_number scope s) in
        (ap (λ (x : Access). x.scan) access, ap (λ (x : Access). x.look_up) access)

matches_scanned : (scope : Scope) → AreScans scope.accesses → (s : Statement) → IsScannedAlone (matches_of scope s)
unfolding matches_of
matches_scanned scope scans s alias u e = scanned_in scope scans s.sources alias u e

block_scanned : (scope : Scope) → AreScans scope.accesses → (s : Statement) → IsScannedAlone (block_of scope s)
unfolding plain_block
block_scanned scope scans s alias u e = matches_scanned scope scans s alias u e

bound_scanned : (scope : Scope) → AreScans scope.accesses → (s : Statement) (block : Block) (shape : Option Shape) → IsBoundAs scope s block shape
    → IsScannedAlone block
bound_scanned scope scans s block None h = subst IsScannedAlone (sym h.1.is) (block_scanned scope scans s)
bound_scanned scope scans s block (Some shape) h =
    subst IsScannedAlone (sym (ap (λ (x : Shaped). x.block) h.1.is)) (matches_scanned scope scans s)

-- bound statements are as many as there are statements, and have scans alone
AreScanned : List Statement → List Bound → Type 0
AreScanned statements bounds = (length bounds ≡ length statements) × All IsScannedAlone (blocks_in bounds)

one_more : (s : Statement) (more : List Statement) (bound : Bound) (rest : List Bound) → IsScannedAlone bound.block → AreScanned more rest
    → AreScanned (s ∷ more) (bound ∷ rest)
unfolding AreScanned
one_more s more bound rest here h = let long = h.0 in (omega (arith, long), All-cons IsScannedAlone bound.block (blocks_in rest) here h.1)

all_bound : (scope : Scope) → AreScans scope.accesses → (number : ℕ) (statements : List Statement) (bounds : List Bound)
    → AreBoundTo scope number statements (Ok bounds) → AreScanned statements bounds
unfolding AreBoundTo AreScanned
all_bound scope scans number [] bounds e =
    let none : [] ≡ bounds = cc in
    subst (λ (l : List Bound). (length l ≡ 0) × All IsScannedAlone (blocks_in l)) none (refl, All-nil IsScannedAlone)
all_bound scope scans number (s ∷ more) bounds h = by (λ rest k. all_bound scope scans (number + 1) more rest k) h.0 h.1 h.2
  where
    made : (bound : Bound) (rest : List Bound) → ◌≡◌ {A = Result (List Bound) Status} (Ok bounds) (Ok (bound ∷ rest)) → bound ∷ rest ≡ bounds
    made bound rest e = cc

    behind : ((rest : List Bound) → AreBoundTo scope (number + 1) more (Ok rest) → AreScanned more rest)
        → (bound : Bound) → IsBoundAs scope s bound.block bound.shape → (r : Result (List Bound) Status) → AreBoundTo scope (number + 1) more r
        → Behind (λ bounds. ComesTo (Ok (bound ∷ bounds))) r (Ok bounds) → AreScanned (s ∷ more) bounds
    behind again bound b (Err refusal) k e = absurd cc
    behind again bound b (Ok rest) k e =
        subst (AreScanned (s ∷ more)) (made bound rest e)
        (one_more s more bound rest (bound_scanned scope scans s bound.block bound.shape b) (again rest k))

    by : ((rest : List Bound) → AreBoundTo scope (number + 1) more (Ok rest) → AreScanned more rest)
        → (r : Result Bound Status) → IsBoundTo scope number s r
        → Behind (λ bound. AndThen (AreBoundTo scope (number + 1) more) (λ bounds. ComesTo (Ok (bound ∷ bounds)))) r (Ok bounds)
        → AreScanned (s ∷ more) bounds
    by again (Err refusal) b e = absurd cc
    by again (Ok bound) b k = behind again bound b k.0 k.1 k.2

-- ---- the script and the tables

spelled_by : (text : List ℕ) (script : Script) → IsSpelled text (Ok script) → Spelled text script
spelled_by text script h = by h.0 h.1 h.2
  where
    by : (r : Result Script ParseFault) → ReadsAs text r → Ok script ≡ or_fault script_status r → Spelled text script
    by (Err f) reads e = absurd cc
    by (Ok s) reads e = let same : s ≡ script = cc in subst (Spelled text) same reads.1

script_given : (found : Option (List ℕ)) (script : Script) → IsScript found (Ok script) → (text : List ℕ) × Spelled text script
script_given found script h = by h.0 h.2
  where
    by : (r : Result (List ℕ) Status) → Behind IsSpelled r (Ok script) → (text : List ℕ) × Spelled text script
    by (Err s) e = absurd cc
    by (Ok text) k = (text, spelled_by text script k)

some_statements : (text : List ℕ) (script : Script) → Spelled text script → 0 < length script.statements
some_statements text script h = subst (λ (s : Script). 0 < length s.statements) h.0.2 (omega arith)

read_long : (number : ℕ) (founds : List (Option (List ℕ))) (tables : List Relation) → tables_read number founds ≡ Ok tables → length tables ≡ length founds
unfolding tables_read
read_long number [] tables e = let none : [] ≡ tables = cc in sym (ap length none)
read_long number (x ∷ xs) tables e =
    by (λ ts f. read_long (number + 1) xs ts f) (table_read number x) (tables_read (number + 1) xs) refl e
  where
    by : ((ts : List Relation) → tables_read (number + 1) xs ≡ Ok ts → length ts ≡ length xs)
        → (a : Result Relation Status) (b : Result (List Relation) Status) → tables_read (number + 1) xs ≡ b
        → (a >>= (λ t. b >>= (λ ts. Ok (t ∷ ts)))) ≡ Ok tables → length tables ≡ suc (length xs)
    by again (Err s) b f g = absurd cc
    by again (Ok t) (Err s) f g = absurd cc
    by again (Ok t) (Ok ts) f g =
        let made : t ∷ ts ≡ tables = cc in
        let long = again ts f in sym (ap length made) ∙ omega (arith, long)

tables_long : (founds : List (Option (List ℕ))) (words : List TableWord) (catalogue : NamedTables) → Ok catalogue ≡ catalogue_read founds words
    → length catalogue.tables ≡ length founds
unfolding catalogue_read
tables_long founds words catalogue e = by (tables_read 0 founds) refl (sym e)
  where
    by : (a : Result (List Relation) Status) → tables_read 0 founds ≡ a → (a >>= (λ tables. Ok (catalogue_of words tables))) ≡ Ok catalogue
        → length catalogue.tables ≡ length founds
    by (Err s) f g = absurd cc
    by (Ok tables) f g =
        let made : catalogue_of words tables ≡ catalogue = cc in
        sym (ap (λ (c : NamedTables). length c.tables) made) ∙ read_long 0 founds tables f

few_used : (blocks : List Block) (many : ℕ) → many ≤ 16 → length (used_among blocks many) ≤ 16
few_used blocks many h =
    let kept = length-filter (is_used blocks) (range_with_len 0 many) in
    let less = count_by-le-length (is_used blocks) (range_with_len 0 many) in
    let long = length-range_with_len 0 many in omega (arith, kept, less, long, h)

-- ---- the plan

shared_plan : (p : Predicates) (script : Script) (catalogue : NamedTables) (plan : Plan) → IsBoundPlan p [] script (opened_as catalogue []) (Ok plan)
    → 0 < length script.statements → length script.statements ≤ 64 → length catalogue.tables ≤ 16
    → CanShare (blocks_in plan.statements) plan.catalogue.tables
unfolding AreScanned
shared_plan p script catalogue plan h some few tables = by h.0 h.1 h.2
  where
    can : (bounds : List Bound) → AreScanned script.statements bounds → CanShare (blocks_in bounds) catalogue.tables
    can bounds k =
        let long = k.0 in
        let blocks = length-map bounds (λ (b : Bound). b.block) in
        record {
          some = omega (arith, some, long, blocks);
          few = omega (arith, few, long, blocks);
          scans = k.1;
          used = few_used (blocks_in bounds) (length catalogue.tables) tables;
        }

    made : (accesses : List Access) → AreScans accesses → (r : Result (List Bound) Status)
        → AreBoundTo (over catalogue accesses p.calls) 1 script.statements r
        → Behind (λ bounds. ComesTo (Ok (plan_opened (opened_as catalogue []) bounds))) r (Ok plan)
        → CanShare (blocks_in plan.statements) plan.catalogue.tables
    made accesses scans (Err s) b e = absurd cc
    made accesses scans (Ok bounds) b e =
        let is : plan_opened (opened_as catalogue []) bounds ≡ plan = cc in
        subst (λ (q : Plan). CanShare (blocks_in q.statements) q.catalogue.tables) is
        (can bounds (all_bound (over catalogue accesses p.calls) scans 1 script.statements bounds b))

    by : (r : Result (List Access) Status) → r ≡ accesses_read catalogue.tables [] []
        → Behind (λ accesses. AndThen (AreBoundTo (over catalogue accesses p.calls) 1 script.statements)
        (λ bounds. ComesTo (Ok (plan_opened (opened_as catalogue []) bounds)))) r (Ok plan)
        → CanShare (blocks_in plan.statements) plan.catalogue.tables
    by (Err s) e k = absurd cc
    by (Ok accesses) e k = made accesses (scans_read catalogue.tables accesses e) k.0 k.1 k.2

-- where no remote is opened, the catalogue is that of the tables
none_opened : (founds : List (Option (List ℕ))) (words : List TableWord) (o : Opened) (headings : List (Option (List ℕ))) (remotes : List RemoteWord)
    → remotes ≡ []
    → Ok o ≡ (catalogue_read founds words >>= (λ catalogue. opened_over headings catalogue remotes))
    → (catalogue : NamedTables) × (Ok catalogue ≡ catalogue_read founds words) × (opened_as catalogue [] ≡ o)
unfolding remotes_opened
none_opened founds words o headings remotes none e =
    by (catalogue_read founds words) refl
    (e ∙ ap (λ (rs : List RemoteWord). catalogue_read founds words >>= (λ catalogue. opened_over headings catalogue rs)) none)
  where
    by : (r : Result NamedTables Status) → r ≡ catalogue_read founds words
        → Ok o ≡ (r >>= (λ catalogue. opened_over headings catalogue [])) → (catalogue : NamedTables) × (Ok catalogue ≡ catalogue_read founds words)
        × (opened_as catalogue [] ≡ o)
    by (Err s) f k = absurd cc
    by (Ok catalogue) f k = let is : opened_as catalogue [] ≡ o = cc in (catalogue, f, is)

shared_query : (p : Predicates) (q : Query) (given : Given) (plan : Plan) → q.accesses ≡ [] → q.remotes ≡ [] → length given.tables ≤ 16
    → IsPlan p q given (Ok plan) → CanShare (blocks_in plan.statements) plan.catalogue.tables
unfolding IsPlan
shared_query p q given plan alone none few h = by h.0 h.1 h.2
  where
    behind : (script : Script) (text : List ℕ) → Spelled text script → (r : Result Opened Status) → r ≡ all_read given q
        → Behind (λ o. IsBoundPlan p q.accesses script o) r (Ok plan) → CanShare (blocks_in plan.statements) plan.catalogue.tables
    behind script text s (Err refusal) e k = absurd cc
    behind script text s (Ok o) e k =
        let is = none_opened given.tables q.tables o given.headings q.remotes none e in
        let long = tables_long given.tables q.tables is.0 is.1 in
        let bound = subst (λ (x : Opened). IsBoundPlan p q.accesses script x (Ok plan)) (sym is.2) k in
        shared_plan p script is.0 plan (subst (λ (asked : List AccessWord). IsBoundPlan p asked script (opened_as is.0 []) (Ok plan)) alone bound)
        (some_statements text script s) s.1 (omega (arith, long, few))

    by : (r : Result Script Status) → IsScript given.script r
        → Behind (λ script. AndThen (ComesTo (all_read given q)) (λ o. IsBoundPlan p q.accesses script o)) r (Ok plan)
        → CanShare (blocks_in plan.statements) plan.catalogue.tables
    by (Err refusal) s e = absurd cc
    by (Ok script) s k = let spelled = script_given given.script script s in behind script spelled.0 spelled.1 k.0 k.1 k.2

shared_demo : (p : Predicates) (rows seed : ℕ) (plan : Plan) → IsDemoPlan p rows seed (Ok plan) → CanShare (blocks_in plan.statements) plan.catalogue.tables
unfolding IsDemoPlan
shared_demo p rows seed plan h = by h.0 h.1 h.2
  where
    by : (r : Result Script Status) → IsSpelled demo_script r → Behind (λ script. IsBoundPlan p [] script (opened_as (demo rows (seed % 1000)) [])) r (Ok plan)
        → CanShare (blocks_in plan.statements) plan.catalogue.tables
    by (Err refusal) s e = absurd cc
    by (Ok script) s k =
        let spelled = spelled_by demo_script script s in
        shared_plan p script (demo rows (seed % 1000)) plan k (some_statements demo_script script spelled) spelled.1 (omega arith)

-- a plan of what the words ask for, where they reach tables by scans alone
pub can_share : (p : Predicates) (t : Task) (seed : ℕ) (holds : Option (List File)) (given : Given) (plan : Plan) → IsTask t → HasScansAlone t
    → AreTaskFiles t holds given → IsTaskPlan p t seed given (Ok plan) → CanShare (blocks_in plan.statements) plan.catalogue.tables
can_share p (task.Query q) seed holds given plan within alone agrees h =
    let count = agrees.opened.tables.count in
    let few = within.few in shared_query p q given plan alone.0 alone.1 (omega (arith, count, few)) h
can_share p (task.Demo rows) seed holds given plan within alone agrees h = shared_demo p rows seed plan h
