-- The remotes of a plan are those of the words, and what is given of their keys' files.
use Rattle.std.proofs.Common.{◌≡◌, ℕ, ◌+◌, ◌%◌, List, [], ◌∷◌, ◌++◌, length, map, Option, Some, None, Result, Ok, Err, refl, sym, ◌∙◌, ap, subst, arith, append-nil, append_assoc}
use Rattle.std.specs.Prelude.{ℤ, option_map, slice_get}
use Rattle.std.proofs.lemmas.List.{length-map, map-append}
use Rattle.std.proofs.lemmas.Option.{slice_get-map}
use Rattle.outside.specs.Files.{File, lookup}
use Rattle.sq_parse.specs.declared.tree.Script.{Script}
use Rattle.sq_expr.specs.declared.block.Access.{Access}
use Rattle.sq_bind.specs.Given.{over}
use Rattle.catalogue.specs.Named.{NamedTables}
use Rattle.command_line.specs.declared.command.AccessWord.{AccessWord}
use Rattle.command_line.specs.declared.command.Query.{Query}
use Rattle.command_line.specs.declared.command.RemoteWord.{RemoteWord}
use Rattle.command_line.specs.declared.command.Task.{Task}
use Rattle.command_line.specs.declared.command.Task.TheVariants as task
use Rattle.demo_tables.specs.Demo.{demo}
use Rattle.remote_lookup.specs.KeyFiles.{AreKeysGiven, KeyBytes, key_name}
use Rattle.remote_lookup.specs.declared.remote.Remote.{Remote}
use Rattle.run_base.specs.declared.bound.Bound.{Bound}
use Rattle.run_plan.specs.Accesses.{accesses_read}
use Rattle.run_plan.specs.Files.{catalogue_read}
use Rattle.run_plan.specs.Given.{Given}
use Rattle.run_plan.specs.Headings.{Opened, heading_read, opened_as, remotes_opened, with_remote}
use Rattle.run_plan.specs.Prepared.{Predicates, AreBoundTo, IsBoundPlan, IsDemoPlan, IsPlan, IsScript, IsSpelled, all_read, opened_over, plan_opened}
use Rattle.run_plan.specs.Steps.{AndThen, Behind, ComesTo, ◌>>=◌}
use Rattle.run_plan.specs.declared.opening.Heading.{Heading}
use Rattle.run_plan.specs.declared.plan.Plan.{Plan}
use Rattle.run_plan.specs.declared.status.Status.{Status}
use Rattle.whole_run.specs.Asked.{remotes_in}
use Rattle.whole_run.specs.Outcome.{AreKeyFiles, AreTaskFiles, IsTaskPlan}

-- ---- the prefixes

-- what the names of files begin with, of remotes and of words
abbrev pub prefixes : List Remote → List (List ℕ)
prefixes remotes = map (λ (r : Remote). r.prefix) remotes

abbrev pub word_prefixes : List RemoteWord → List (List ℕ)
word_prefixes words = map (λ (w : RemoteWord). w.prefix) words

opened_prefixes : (number : ℕ) (founds : List (Option (List ℕ))) (o : Opened) (words : List RemoteWord) (to : Opened) → length founds ≡ length words
    → remotes_opened number founds o words ≡ Ok to → prefixes to.remotes ≡ prefixes o.remotes ++ word_prefixes words
unfolding remotes_opened
opened_prefixes number founds o [] to e h =
    let same : o ≡ to = cc in
    ap (λ (x : Opened). prefixes x.remotes) (sym same) ∙ sym (append-nil (prefixes o.remotes))
opened_prefixes number [] o (w ∷ ws) to e h = absurd (omega (arith, e))
opened_prefixes number (f ∷ fs) o (w ∷ ws) to e h =
    by (λ heading k. opened_prefixes (number + 1) fs (with_remote o w heading) ws to (omega (arith, e)) k) (heading_read number f w) h
  where
    by : ((heading : Heading) → remotes_opened (number + 1) fs (with_remote o w heading) ws ≡ Ok to
        → prefixes to.remotes ≡ prefixes (with_remote o w heading).remotes ++ word_prefixes ws)
        → (r : Result Heading Status) → (r >>= (λ heading. remotes_opened (number + 1) fs (with_remote o w heading) ws)) ≡ Ok to
        → prefixes to.remotes ≡ prefixes o.remotes ++ word_prefixes (w ∷ ws)
    by again (Err s) k = absurd cc
    by again (Ok heading) k =
        let r : Remote = record { table = length o.catalogue.tables; column = heading.column; prefix = w.prefix } in
        again heading k
        ∙ ap (λ (l : List (List ℕ)). l ++ word_prefixes ws) (map-append (λ (x : Remote). x.prefix) o.remotes (r ∷ []))
        ∙ append_assoc (prefixes o.remotes) (w.prefix ∷ []) (word_prefixes ws)

all_prefixes : (given : Given) (q : Query) (to : Opened) → length given.headings ≡ length q.remotes → Ok to ≡ all_read given q
    → prefixes to.remotes ≡ word_prefixes q.remotes
all_prefixes given q to e h = by (catalogue_read given.tables q.tables) (sym h)
  where
    by : (r : Result NamedTables Status) → (r >>= (λ catalogue. opened_over given.headings catalogue q.remotes)) ≡ Ok to
        → prefixes to.remotes ≡ word_prefixes q.remotes
    by (Err s) k = absurd cc
    by (Ok catalogue) k = opened_prefixes 0 given.headings (opened_as catalogue []) q.remotes to e k

bound_remotes : (p : Predicates) (asks : List AccessWord) (script : Script) (o : Opened) (plan : Plan) → IsBoundPlan p asks script o (Ok plan)
    → plan.remotes ≡ o.remotes
bound_remotes p asks script o plan h = by h.0 h.2
  where
    made : (r : Result (List Bound) Status) → Behind (λ bounds. ComesTo (Ok (plan_opened o bounds))) r (Ok plan) → plan.remotes ≡ o.remotes
    made (Err s) e = absurd cc
    made (Ok bounds) e = let is : plan_opened o bounds ≡ plan = cc in sym (ap (λ (x : Plan). x.remotes) is)

    by : (r : Result (List Access) Status)
        → Behind (λ accesses. AndThen (AreBoundTo (over o.catalogue accesses p.calls) 1 script.statements)
        (λ bounds. ComesTo (Ok (plan_opened o bounds)))) r (Ok plan) → plan.remotes ≡ o.remotes
    by (Err s) k = absurd cc
    by (Ok accesses) k = made k.0 k.2

query_prefixes : (p : Predicates) (q : Query) (given : Given) (plan : Plan) → length given.headings ≡ length q.remotes → IsPlan p q given (Ok plan)
    → prefixes plan.remotes ≡ word_prefixes q.remotes
unfolding IsPlan
query_prefixes p q given plan e h = by h.0 h.2
  where
    behind : (script : Script) (r : Result Opened Status) → r ≡ all_read given q → Behind (λ o. IsBoundPlan p q.accesses script o) r (Ok plan)
        → prefixes plan.remotes ≡ word_prefixes q.remotes
    behind script (Err s) f k = absurd cc
    behind script (Ok o) f k = ap prefixes (bound_remotes p q.accesses script o plan k) ∙ all_prefixes given q o e f

    by : (r : Result Script Status)
        → Behind (λ script. AndThen (ComesTo (all_read given q)) (λ o. IsBoundPlan p q.accesses script o)) r (Ok plan)
        → prefixes plan.remotes ≡ word_prefixes q.remotes
    by (Err s) k = absurd cc
    by (Ok script) k = behind script k.0 k.1 k.2

demo_prefixes : (p : Predicates) (rows seed : ℕ) (plan : Plan) → IsDemoPlan p rows seed (Ok plan) → prefixes plan.remotes ≡ []
unfolding IsDemoPlan
demo_prefixes p rows seed plan h = by h.0 h.2
  where
    by : (r : Result Script Status) → Behind (λ script. IsBoundPlan p [] script (opened_as (demo rows (seed % 1000)) [])) r (Ok plan)
        → prefixes plan.remotes ≡ []
    by (Err s) k = absurd cc
    by (Ok script) k = ap prefixes (bound_remotes p [] script (opened_as (demo rows (seed % 1000)) []) plan k)

pub task_prefixes : (p : Predicates) (t : Task) (seed : ℕ) (holds : Option (List File)) (given : Given) (plan : Plan) → AreTaskFiles t holds given
    → IsTaskPlan p t seed given (Ok plan) → prefixes plan.remotes ≡ word_prefixes (remotes_in t)
task_prefixes p (task.Query q) seed holds given plan g h = query_prefixes p q given plan g.opened.headings.count h
task_prefixes p (task.Demo rows) seed holds given plan g h = demo_prefixes p rows seed plan h

-- there are as many
pub task_remotes : (p : Predicates) (t : Task) (seed : ℕ) (holds : Option (List File)) (given : Given) (plan : Plan) → AreTaskFiles t holds given
    → IsTaskPlan p t seed given (Ok plan) → length plan.remotes ≡ length (remotes_in t)
task_remotes p t seed holds given plan g h =
    sym (length-map plan.remotes (λ (r : Remote). r.prefix))
    ∙ ap (λ (l : List (List ℕ)). length l) (task_prefixes p t seed holds given plan g h)
    ∙ length-map (remotes_in t) (λ (w : RemoteWord). w.prefix)

-- ---- what is given of keys

-- what a folder holds of the key of a word's remote
abbrev key_held : List File → ℤ → Option RemoteWord → Option (List ℕ)
key_held files key None = None
key_held files key (Some w) = lookup files (key_name w.prefix key)

pub some_keys : (words : List RemoteWord) (holds : Option (List File)) → (found : KeyBytes) × AreKeyFiles words holds found
some_keys words None = ((λ remote key. None), λ files e. absurd cc)
some_keys words (Some files) = (
  (λ remote key. key_held files key (slice_get words remote)),
  λ given e remote key w is.
      let same : files ≡ given = cc in
      ap (key_held files key) is ∙ ap (λ (fs : List File). lookup fs (key_name w.prefix key)) same,
)

same_some : {X : Type 0} {x y : X} → ◌≡◌ {A = Option X} (Some x) (Some y) → x ≡ y
same_some e = cc

-- what is given of the keys of a plan's remotes is given of those of the words
pub words_given : (remotes : List Remote) (words : List RemoteWord) (holds : Option (List File)) (found : KeyBytes) → prefixes remotes ≡ word_prefixes words
    → AreKeysGiven remotes holds found → AreKeyFiles words holds found
words_given remotes words holds found e h files is remote key w at = by (slice_get remotes remote) refl there
  where
    there : option_map (λ (r : Remote). r.prefix) (slice_get remotes remote) ≡ Some w.prefix
    there =
        sym (slice_get-map (λ (r : Remote). r.prefix) remotes remote)
        ∙ ap (λ (l : List (List ℕ)). slice_get l remote) e
        ∙ slice_get-map (λ (x : RemoteWord). x.prefix) words remote
        ∙ ap (option_map (λ (x : RemoteWord). x.prefix)) at

    by : (o : Option Remote) → slice_get remotes remote ≡ o → option_map (λ (r : Remote). r.prefix) o ≡ Some w.prefix
        → found remote key ≡ lookup files (key_name w.prefix key)
    by None f g = absurd cc
    by (Some r) f g =
        h files is remote key r f ∙ ap (λ (name : List ℕ). lookup files (key_name name key)) (same_some g)
