-- What a script, its tables and its accesses come to.
use Rattle.std.proofs.Common.{◌≡◌, ◌∙◌, ℕ, ◌%◌, List, [], Option, None, Result, Ok, Err, refl, sym, ap, subst}
use Rattle.outside.specs.Files.{File}
use Rattle.command_line.specs.declared.command.Query.{Query}
use Rattle.command_line.specs.declared.command.RemoteWord.{RemoteWord}
use Rattle.command_line.specs.declared.command.TableWord.{TableWord}
use Rattle.demo_tables.specs.Demo.{demo}
use Rattle.sq_parse.specs.declared.tree.Script.{Script}
use Rattle.catalogue.specs.Named.{NamedTables}
use Rattle.run_base.specs.Seen.{Folder}
use Rattle.run_plan.specs.Doing.{Went}
use Rattle.run_plan.specs.Given.{Given, IsFileGiven, AreFilesGiven, AreHeadingsGiven, AreOpenedGiven, IsGiven, heading_file, table_file}
use Rattle.run_plan.specs.DemoScript.{demo_script}
use Rattle.run_plan.specs.Files.{catalogue_read}
use Rattle.run_plan.specs.Headings.{Opened, opened_as, remotes_opened}
use Rattle.run_plan.specs.Prepared.{IsPlan, IsDemoPlan, IsScript, IsSpelled, IsBoundPlan, Predicates, Reached, ReachedTable, ReachedTables, ReachedHeading, all_read, opened_over}
use Rattle.run_plan.specs.Steps.{◌>>=◌, ComesTo}
use Rattle.run_plan.specs.declared.plan.Plan.{Plan}
use Rattle.run_plan.specs.declared.status.FileOf.{FileOf}
use Rattle.run_plan.specs.declared.status.FileOf.TheVariants as file
use Rattle.run_plan.specs.declared.status.Status.{Status}
use Rattle.run_plan.proofs.GivenLemmas.{Found, unread, unread_found, found_all}

-- ---- the tables and the headings

-- tables that were refused, remotes behind tables, and what all come to
pub all_untabled : (given : Given) (q : Query) (s : Status) → ComesTo (catalogue_read given.tables q.tables) (Err s) → ComesTo (all_read given q) (Err s)
all_untabled given q s e = ap (λ (r : Result NamedTables Status). r >>= (λ c. opened_over given.headings c q.remotes)) e

pub all_over : (given : Given) (q : Query) (catalogue : NamedTables) (r : Result Opened Status) → ComesTo (catalogue_read given.tables q.tables) (Ok catalogue)
    → ComesTo (opened_over given.headings catalogue q.remotes) r → ComesTo (all_read given q) r
all_over given q catalogue r e f = f ∙ ap (λ (x : Result NamedTables Status). x >>= (λ c. opened_over given.headings c q.remotes)) e

-- ---- what is given

-- the tables' files alone were loaded, and the script's alone
abbrev pub unopened_of : Query → Option (List File) → List Found → Given
unopened_of q held tables = record { script = None; tables = tables; headings = unread heading_file held q.remotes }

abbrev pub unread_of : Query → Option (List File) → Found → Given
unread_of q held script = record { script = script; tables = unread table_file held q.tables; headings = unread heading_file held q.remotes }

pub given_script : (q : Query) (held : Option (List File)) (name : List ℕ) (script : Found) → name ≡ q.script → IsFileGiven name held script
    → IsGiven q held (unread_of q held script)
given_script q held name script e h = record {
  script = subst (λ (n : List ℕ). IsFileGiven n held script) e h;
  opened = record { tables = unread_found table_file held q.tables; headings = unread_found heading_file held q.remotes };
}

pub given_tables : (q : Query) (held : Option (List File)) (words : List TableWord) (tables : List Found) → words ≡ q.tables → AreFilesGiven words held tables
    → AreOpenedGiven q held (unopened_of q held tables)
given_tables q held words tables e h = record {
  tables = subst (λ (ts : List TableWord). AreFilesGiven ts held tables) e h;
  headings = unread_found heading_file held q.remotes;
}

-- the tables and the headings
abbrev pub opened_given : List Found → List Found → Given
opened_given tables headings = record { script = None; tables = tables; headings = headings }

pub given_opened : (q : Query) (old mid : Option (List File)) (words : List TableWord) (remotes : List RemoteWord) (tables headings : List Found)
    → words ≡ q.tables → remotes ≡ q.remotes → mid ≡ old → AreFilesGiven words old tables → AreHeadingsGiven remotes mid headings
    → AreOpenedGiven q old (opened_given tables headings)
given_opened q old mid words remotes tables headings e f same h k = record {
  tables = subst (λ (ts : List TableWord). AreFilesGiven ts old tables) e h;
  headings = subst (λ (rs : List RemoteWord). AreHeadingsGiven rs old headings) f (found_all heading_file remotes old mid headings same k);
}

pub went_opened : (q : Query) (old mid new : Folder) (words : List TableWord) (remotes : List RemoteWord) (catalogue : NamedTables) (o : Opened)
    → words ≡ q.tables → remotes ≡ q.remotes → Went old mid (AreFilesGiven words) (λ founds. ComesTo (catalogue_read founds words) (Ok catalogue))
    → Went mid new (AreHeadingsGiven remotes) (λ founds. ComesTo (remotes_opened 0 founds (opened_as catalogue []) remotes) (Ok o))
    → Went old new (AreOpenedGiven q) (λ given. ComesTo (all_read given q) (Ok o))
went_opened q old mid new words remotes catalogue o e f w v = record {
  keeps = v.keeps ∙ w.keeps;
  kept = v.kept ∙ w.kept;
  given = opened_given w.given v.given;
  agrees = given_opened q old.holds mid.holds words remotes w.given v.given e f w.keeps w.agrees v.agrees;
  tells = all_over (opened_given w.given v.given) q catalogue (Ok o)
      (subst (λ (ts : List TableWord). ComesTo (catalogue_read w.given ts) (Ok catalogue)) e w.tells)
      (subst (λ (rs : List RemoteWord). ComesTo (remotes_opened 0 v.given (opened_as catalogue []) rs) (Ok o)) f v.tells);
}

-- the script before them
abbrev pub with_script : Given → Found → Given
with_script given script = record given { script = script }

pub given_both : (q : Query) (old mid : Option (List File)) (name : List ℕ) (script : Found) (given : Given) → name ≡ q.script → mid ≡ old
    → IsFileGiven name old script → AreOpenedGiven q mid given → IsGiven q old (with_script given script)
given_both q old mid name script given e same h k = record {
  script = subst (λ (n : List ℕ). IsFileGiven n old script) e h;
  opened = record {
    tables = found_all table_file q.tables old mid given.tables same k.tables;
    headings = found_all heading_file q.remotes old mid given.headings same k.headings;
  };
}

pub went_both : (q : Query) (old mid new : Folder) (name : List ℕ) (script : Script) (o : Opened) → name ≡ q.script
    → Went old mid (IsFileGiven name) (λ found. IsScript found (Ok script)) → Went mid new (AreOpenedGiven q) (λ given. ComesTo (all_read given q) (Ok o))
    → Went old new (IsGiven q) (λ given. IsScript given.script (Ok script) × ComesTo (all_read given q) (Ok o))
went_both q old mid new name script o e w v = record {
  keeps = v.keeps ∙ w.keeps;
  kept = v.kept ∙ w.kept;
  given = with_script v.given w.given;
  agrees = given_both q old.holds mid.holds name w.given v.given e w.keeps w.agrees v.agrees;
  tells = (w.tells, v.tells);
}

-- ---- what it comes to

-- a script that was refused
pub plan_unscripted : (p : Predicates) (q : Query) (given : Given) (s : Status) → IsScript given.script (Err s) → IsPlan p q given (Err s)
unfolding IsPlan
plan_unscripted p q given s h = (Err s, h, refl)

-- tables or headings that were refused behind a script
pub plan_untabled : (p : Predicates) (q : Query) (given : Given) (script : Script) (s : Status) → IsScript given.script (Ok script)
    → ComesTo (all_read given q) (Err s) → IsPlan p q given (Err s)
unfolding IsPlan
plan_untabled p q given script s h k = (Ok script, h, (Err s, k, refl))

-- what a script over a catalogue and its remotes comes to
pub plan_over : (p : Predicates) (q : Query) (given : Given) (script : Script) (o : Opened) (due : Result Plan Status)
    → IsScript given.script (Ok script) → ComesTo (all_read given q) (Ok o) → IsBoundPlan p q.accesses script o due → IsPlan p q given due
unfolding IsPlan
plan_over p q given script o due h k g = (Ok script, h, (Ok o, k, g))

-- files that are reached
pub tables_reached : (given : Given) (q : Query) (f : FileOf) → ReachedTable given.tables f → ReachedTables q given f
tables_reached given q file.Script h = h
tables_reached given q (file.Table n) h = h
tables_reached given q (file.Heading n) h = absurd h
tables_reached given q (file.Key at) h = h

pub headings_reached : (given : Given) (q : Query) (catalogue : NamedTables) (f : FileOf) → ComesTo (catalogue_read given.tables q.tables) (Ok catalogue)
    → ReachedHeading given.headings (opened_as catalogue []) q.remotes f → ReachedTables q given f
headings_reached given q catalogue file.Script k h = h
headings_reached given q catalogue (file.Table n) k h = absurd h
headings_reached given q catalogue (file.Heading n) k h = (catalogue, k, h)
headings_reached given q catalogue (file.Key at) k h = h

pub reached_tables : (q : Query) (given : Given) (script : Script) (f : FileOf) → IsScript given.script (Ok script) → ReachedTables q given f → Reached q given f
reached_tables q given script file.Script h k = absurd k
reached_tables q given script (file.Table n) h k = ((script, h), k)
reached_tables q given script (file.Heading n) h k = ((script, h), k)
reached_tables q given script (file.Key at) h k = k

pub reached_script : (q : Query) (given : Given) (f : FileOf) → f ≡ file.Script → Reached q given f
reached_script q given f e = subst (Reached q given) (sym e) tt

-- a script that was refused, and what a script over the demo's tables comes to
pub demo_unscripted : (p : Predicates) (rows seed : ℕ) (text : List ℕ) (s : Status) → text ≡ demo_script → IsSpelled text (Err s) → IsDemoPlan p rows seed (Err s)
unfolding IsDemoPlan
demo_unscripted p rows seed text s e h = (Err s, subst (λ (t : List ℕ). IsSpelled t (Err s)) e h, refl)

pub demo_over : (p : Predicates) (rows seed : ℕ) (text : List ℕ) (script : Script) (due : Result Plan Status) → text ≡ demo_script → IsSpelled text (Ok script)
    → IsBoundPlan p [] script (opened_as (demo rows (seed % 1000)) []) due → IsDemoPlan p rows seed due
unfolding IsDemoPlan
demo_over p rows seed text script due e h k = (Ok script, subst (λ (t : List ℕ). IsSpelled t (Ok script)) e h, k)
