-- What holds of every command.
use Rattle.std.proofs.Common.{◌≡◌, ◌∙◌, ℕ, ◌+◌, ◌≤◌, ◌<◌, ◌&&◌, Bool, cond, true, false, List, [], ◌∷◌, ◌++◌, length, Option, Some, None, refl, sym, ap, subst, arith}
use Rattle.std.specs.Prelude.{◌==◌, nat_lt, nat_le, map, is_none, All, position, option_map, codes}
use Rattle.std.specs.List.{list_all, slice_split}
use Rattle.std.specs.Result.{is_ok}
use Rattle.std.specs.Str.Parse.{digits_value}
use Rattle.std.proofs.lemmas.Bool.{leb-true, ltb-true, eqb-true, false≢true}
use Rattle.std.proofs.lemmas.List.Quantifiers.{position-Some}
use Rattle.std.proofs.lemmas.List.Elements.{All-append, All-cons, All-nil}
use Rattle.clap.specs.Walk.{Row, Text, first_of, is_empty}
use Rattle.clap.specs.Simple.{matches_of}
use Rattle.clap.specs.Takes.{takes}
use Rattle.clap.proofs.WalkLemmas.{both}
use Rattle.route_policy.specs.ScriptReading.{script_of}
use Rattle.command_line.specs.Steps.{◌>>=◌}
use Rattle.command_line.specs.Program.{program}
use Rattle.command_line.specs.Tables.{is_named_file, names_differ, table_of_word, tables_of, has_name}
use Rattle.command_line.specs.Accesses.{access_of, access_with, accesses_of, accesses_of_items, items_in, is_comma, is_dot, if_differ, tables_differ}
use Rattle.command_line.specs.Remotes.{is_remote, remotes_differ, remotes_of, remote_of_item, if_in_form}
use Rattle.command_line.specs.Settings.{is_number, number_between, workers_of, seed_of, cache_of, policy_of, route_of, is_flag_given}
use Rattle.command_line.specs.Form.{command, command_of, asked_by, may_share, shared_of, shared_in, task_in, task_of, query_of, demo_of, other_words_of}
use Rattle.command_line.specs.Within.{IsAccess, IsQuery, IsDemo, IsTask, HasScansAlone, IsWithin}
use Rattle.command_line.specs.declared.command.TableWord.{TableWord}
use Rattle.command_line.specs.declared.command.AccessWord.{AccessWord}
use Rattle.command_line.specs.declared.command.RemoteWord.{RemoteWord}
use Rattle.command_line.specs.declared.command.Command.{Command}
use Rattle.command_line.specs.declared.command.Query.{Query as QueryWords}
use Rattle.command_line.specs.declared.command.Task.{Task}
use Rattle.command_line.specs.declared.command.Task.TheVariants.{Query, Demo}
use Rattle.std.specs.List.{before_first, after_first}

-- what a step gave, where something came behind it
step_given : {A B : Type 0} (o : Option A) (more : A → Option B) (y : B) → (o >>= more) ≡ Some y → (x : A) × (o ≡ Some x) × (more x ≡ Some y)
step_given None more y e = absurd cc
step_given (Some x) more y e = (x, refl, e)

-- what a test let through
let_through : {A : Type 0} (b : Bool) (x y : A) → cond b (Some x) None ≡ Some y → (b ≡ true) × (x ≡ y)
let_through true x y e = (refl, same x y e)
  where
    same : {A : Type 0} (x y : A) → Some x ≡ Some y → x ≡ y
    same x y f = cc
let_through false x y e = absurd cc

in_range : (least most : ℕ) (text : List ℕ) (n : ℕ) → number_between least most text ≡ Some n → (least ≤ n) × (n ≤ most)
in_range least most text n e =
    let v = digits_value 10 text in
    let through = let_through (is_number text && nat_le least v && nat_le v most) v n e in
    let parts = both (is_number text && nat_le least v) (nat_le v most) through.0 in
    let low : least ≤ v = leb-true least v (both (is_number text) (nat_le least v) parts.0).1 in
    let high : v ≤ most = leb-true v most parts.1 in
    (subst (λ k. least ≤ k) through.1 low, subst (λ k. k ≤ most) through.1 high)

workers_in : (o : Option (List ℕ)) (n : ℕ) → workers_of o ≡ Some n → (1 ≤ n) × (n ≤ 16)
workers_in None n e =
    let same : 1 ≡ n = given e in
    (omega (arith, same), omega (arith, same))
  where
    given : Some 1 ≡ Some n → 1 ≡ n
    given f = cc
workers_in (Some text) n e = in_range 1 16 text n e

cache_in : (o : Option (List ℕ)) (n : ℕ) → cache_of o ≡ Some n → n ≤ 4096
cache_in None n e = let same : 0 ≡ n = given e in omega (arith, same)
  where
    given : Some 0 ≡ Some n → 0 ≡ n
    given f = cc
cache_in (Some text) n e = (in_range 0 4096 text n e).1

route_in : (o : Option (List ℕ)) (text : List ℕ) → route_of o ≡ Some text → is_ok (script_of text) ≡ true
route_in None text e = subst (λ (t : List ℕ). is_ok (script_of t) ≡ true) (given e) refl
  where
    given : Some [] ≡ Some text → [] ≡ text
    given f = cc
route_in (Some given) text e =
    let through = let_through (is_ok (script_of given)) given text e in
    subst (λ (t : List ℕ). is_ok (script_of t) ≡ true) through.1 through.0

all_named : (ts : List TableWord) → list_all is_named_file ts ≡ true → All (λ t. is_named_file t ≡ true) ts
all_named [] e = All-nil _
all_named (t ∷ ts) e = let parts = both (is_named_file t) (list_all is_named_file ts) e in All-cons (λ (u : TableWord). is_named_file u ≡ true) t ts parts.0 (all_named ts parts.1)

access_in : (tables : List TableWord) (scan : Bool) (item : List ℕ) (a : AccessWord) → access_of tables scan item ≡ Some a → IsAccess (length tables) a
access_in tables scan item a e =
    let named = has_name (before_first is_dot item) in
    let column = after_first is_dot item in
    let step = step_given (position named tables) (access_with scan column) a e in
    let through = let_through (nat_lt 0 (length column)) (record { table = step.0; column = column; scan = scan }) a step.2 in
    subst (IsAccess (length tables)) through.1 (record {
      table = (position_in named tables step.0 step.1);
      column = omega (arith, ltb-true 0 (length column) through.0);
    })
  where
    position_in : (p : TableWord → Bool) (ts : List TableWord) (k : ℕ) → position p ts ≡ Some k → k < length ts
    position_in p ts k f = (position-Some p ts k (record { name = []; file = [] }) f).0

accesses_in : (tables : List TableWord) (scan : Bool) (items : List (List ℕ)) (accesses : List AccessWord) → accesses_of_items tables scan items ≡ Some accesses
    → All (IsAccess (length tables)) accesses
unfolding accesses_of_items
accesses_in tables scan [] accesses e = subst (All (IsAccess (length tables))) (given e) (All-nil (IsAccess (length tables)))
  where
    given : Some [] ≡ Some accesses → [] ≡ accesses
    given f = cc
accesses_in tables scan (item ∷ items) accesses e =
    let first = step_given (access_of tables scan item) (λ a. accesses_of_items tables scan items >>= (λ more. Some (a ∷ more))) accesses e in
    let rest = step_given (accesses_of_items tables scan items) (λ more. Some (first.0 ∷ more)) accesses first.2 in
    subst (All (IsAccess (length tables))) (given (first.0 ∷ rest.0) rest.2)
    (All-cons (IsAccess (length tables)) first.0 rest.0 (access_in tables scan item first.0 first.1) (accesses_in tables scan items rest.0 rest.1))
  where
    given : (xs : List AccessWord) → Some xs ≡ Some accesses → xs ≡ accesses
    given xs f = cc

-- tables that pass, and accesses of them, are those of a query
tables_pass : (ts tables : List TableWord)
    → cond (nat_lt 0 (length ts) && nat_le (length ts) 16 && list_all is_named_file ts && names_differ ts) (Some ts) None ≡ Some tables
    → (1 ≤ length tables) × (length tables ≤ 16) × All (λ t. is_named_file t ≡ true) tables × (names_differ tables ≡ true)
tables_pass ts tables e =
    let through = let_through (nat_lt 0 (length ts) && nat_le (length ts) 16 && list_all is_named_file ts && names_differ ts) ts tables e in
    let three = both (nat_lt 0 (length ts) && nat_le (length ts) 16 && list_all is_named_file ts) (names_differ ts) through.0 in
    let two = both (nat_lt 0 (length ts) && nat_le (length ts) 16) (list_all is_named_file ts) three.0 in
    let one = both (nat_lt 0 (length ts)) (nat_le (length ts) 16) two.0 in
    let some : 1 ≤ length ts = omega (arith, ltb-true 0 (length ts) one.0) in
    let few : length ts ≤ 16 = leb-true (length ts) 16 one.1 in
    subst (λ (xs : List TableWord). (1 ≤ length xs) × (length xs ≤ 16) × All (λ t. is_named_file t ≡ true) xs × (names_differ xs ≡ true))
    through.1 (some, few, all_named ts two.1, three.1)

accesses_pass : (tables : List TableWord) (index lookup : Option Text) (accesses : List AccessWord) → accesses_of tables index lookup ≡ Some accesses
    → All (IsAccess (length tables)) accesses × (tables_differ accesses ≡ true)
accesses_pass tables index lookup accesses e =
    let first = step_given (accesses_of_items tables true (items_in index))
    (λ xs. accesses_of_items tables false (items_in lookup) >>= (λ ys. if_differ (xs ++ ys))) accesses e in
    let second = step_given (accesses_of_items tables false (items_in lookup)) (λ ys. if_differ (first.0 ++ ys)) accesses first.2 in
    both_pass first.0 second.0 (accesses_in tables true (items_in index) first.0 first.1) (accesses_in tables false (items_in lookup) second.0 second.1) second.2
  where
    both_pass : (xs ys : List AccessWord) → All (IsAccess (length tables)) xs → All (IsAccess (length tables)) ys → if_differ (xs ++ ys) ≡ Some accesses
        → All (IsAccess (length tables)) accesses × (tables_differ accesses ≡ true)
    both_pass xs ys p q f =
        let differ = let_through (tables_differ (xs ++ ys)) (xs ++ ys) accesses f in
        subst (λ (zs : List AccessWord). All (IsAccess (length tables)) zs × (tables_differ zs ≡ true)) differ.1
        (All-append (IsAccess (length tables)) xs ys p q, differ.0)

all_remotes : (rs : List RemoteWord) → list_all is_remote rs ≡ true → All (λ r. is_remote r ≡ true) rs
all_remotes [] e = All-nil _
all_remotes (r ∷ rs) e = let parts = both (is_remote r) (list_all is_remote rs) e in All-cons (λ (s : RemoteWord). is_remote s ≡ true) r rs parts.0 (all_remotes rs parts.1)

-- what remotes are that pass
record AreRemotes (tables : List TableWord) (remotes : List RemoteWord) : Type 0 where
  pub few : length remotes ≤ 4
  pub together : length tables + length remotes ≤ 16
  pub each : All (λ r. is_remote r ≡ true) remotes
  pub apart : remotes_differ tables remotes ≡ true

remotes_pass : (tables : List TableWord) (text : Option Text) (remotes : List RemoteWord) → length tables ≤ 16 → remotes_of tables text ≡ Some remotes
    → AreRemotes tables remotes
unfolding remotes_differ
remotes_pass tables None remotes fits e =
    subst (AreRemotes tables) (given e) (record {
      few = omega arith;
      together = omega (arith, fits);
      each = All-nil _;
      apart = refl;
    })
  where
    given : Some [] ≡ Some remotes → [] ≡ remotes
    given f = cc
remotes_pass tables (Some text) remotes fits e = by (map remote_of_item (slice_split is_comma text)) e
  where
    by : (rs : List RemoteWord) → if_in_form tables rs ≡ Some remotes → AreRemotes tables remotes
    by rs f =
        let few = nat_le (length rs) 4 in
        let together = nat_le (length tables + length rs) 16 in
        let each = list_all is_remote rs in
        let through = let_through (few && together && each && remotes_differ tables rs) rs remotes f in
        let three = both (few && together && each) (remotes_differ tables rs) through.0 in
        let two = both (few && together) each three.0 in
        let one = both few together two.0 in
        subst (AreRemotes tables) through.1 (record {
          few = leb-true (length rs) 4 one.0;
          together = leb-true (length tables + length rs) 16 one.1;
          each = all_remotes rs two.1;
          apart = three.1;
        })

query_in : (words : List Text) (index lookup remote : Option Text) (q : QueryWords) → query_of words index lookup remote ≡ Some q → IsQuery q
query_in [] index lookup remote q e = absurd cc
query_in (script ∷ words) index lookup remote q e =
    let first = step_given (tables_of words)
    (λ tables. accesses_of tables index lookup >>= (λ accesses. remotes_of tables remote >>= (λ remotes. Some (query tables accesses remotes)))) q e in
    let second = step_given (accesses_of first.0 index lookup) (λ accesses. remotes_of first.0 remote >>= (λ remotes. Some (query first.0 accesses remotes))) q first.2 in
    let third = step_given (remotes_of first.0 remote) (λ remotes. Some (query first.0 second.0 remotes)) q second.2 in
    let tables = tables_pass (map table_of_word words) first.0 first.1 in
    made first.0 second.0 third.0 tables (accesses_pass first.0 index lookup second.0 second.1) (remotes_pass first.0 remote third.0 tables.1 third.1) third.2
  where
    query : List TableWord → List AccessWord → List RemoteWord → QueryWords
    query tables accesses remotes = record { script = script; tables = tables; accesses = accesses; remotes = remotes }

    made : (tables : List TableWord) (accesses : List AccessWord) (remotes : List RemoteWord)
        → (1 ≤ length tables) × (length tables ≤ 16) × All (λ t. is_named_file t ≡ true) tables × (names_differ tables ≡ true)
        → All (IsAccess (length tables)) accesses × (tables_differ accesses ≡ true) → AreRemotes tables remotes → Some (query tables accesses remotes) ≡ Some q → IsQuery q
    made tables accesses remotes ts xs rs e = subst IsQuery (given e) (record {
      some = ts.0;
      few = ts.1;
      named = ts.2;
      names = ts.3;
      accesses = xs.0;
      tables = xs.1;
      remotes = rs.few;
      together = rs.together;
      prefixed = rs.each;
      apart = rs.apart;
    })
      where
        given : Some (query tables accesses remotes) ≡ Some q → query tables accesses remotes ≡ q
        given f = cc

mapped : {A B : Type 0} (f : A → B) (o : Option A) (y : B) → option_map f o ≡ Some y → (x : A) × (o ≡ Some x) × (f x ≡ y)
mapped f None y e = absurd cc
mapped f (Some x) y e = (x, refl, same (f x) y e)
  where
    same : {B : Type 0} (x y : B) → Some x ≡ Some y → x ≡ y
    same x y g = cc

task_within : (demo : Option Text) (words : List Text) (index lookup remote : Option Text) (t : Task) → task_of demo words index lookup remote ≡ Some t → IsTask t
task_within None words index lookup remote t e =
    let got = mapped Query (query_of words index lookup remote) t e in
    subst IsTask got.2 (query_in words index lookup remote got.0 got.1)
task_within (Some rows) words index lookup remote t e =
    let got = mapped Demo (demo_of rows words index lookup remote) t e in
    subst IsTask got.2 (demo_in (is_empty words && is_none index && is_none lookup && is_none remote) got.0 got.1)
  where
    demo_in : (b : Bool) (n : ℕ) → cond b (number_between 1 100000 rows) None ≡ Some n → IsDemo n
    demo_in true n f = let range = in_range 1 100000 rows n f in record { some = range.0; few = range.1 }
    demo_in false n f = absurd cc

-- a query without accesses and remotes reaches its tables by scans alone
scanned_query : (words : List Text) (q : QueryWords) → query_of words None None None ≡ Some q → (q.accesses ≡ []) × (q.remotes ≡ [])
unfolding accesses_of_items tables_differ
scanned_query [] q e = absurd cc
scanned_query (script ∷ words) q e = by (tables_of words) e
  where
    of : List TableWord → QueryWords
    of tables = record { script = script; tables = tables; accesses = []; remotes = [] }

    given : (tables : List TableWord) → Some (of tables) ≡ Some q → of tables ≡ q
    given tables f = cc

    by : (o : Option (List TableWord)) → (o >>= (λ tables. accesses_of tables None None >>= (λ accesses. remotes_of tables None >>= (λ remotes. Some (record { script = script; tables = tables; accesses = accesses; remotes = remotes }))))) ≡ Some q
        → (q.accesses ≡ []) × (q.remotes ≡ [])
    by None f = absurd cc
    by (Some tables) f = subst (λ (r : QueryWords). (r.accesses ≡ []) × (r.remotes ≡ [])) (given tables f) (refl, refl)

scanned_task : (demo : Option Text) (words : List Text) (index lookup remote : Option Text) (t : Task) → task_of demo words index lookup remote ≡ Some t
    → is_none index ≡ true → is_none lookup ≡ true → is_none remote ≡ true → HasScansAlone t
scanned_task (Some rows) words index lookup remote t e i l r =
    let got = mapped Demo (demo_of rows words index lookup remote) t e in subst HasScansAlone got.2 tt
scanned_task None words None None None t e i l r =
    let got = mapped Query (query_of words None None None) t e in subst HasScansAlone got.2 (scanned_query words got.0 got.1)
scanned_task None words (Some x) lookup remote t e i l r = absurd (false≢true i)
scanned_task None words None (Some x) remote t e i l r = absurd (false≢true l)
scanned_task None words None None (Some x) t e i l r = absurd (false≢true r)

-- what goes with the flag
may_go : (b : Bool) (index lookup remote : Option Text) (cache : ℕ) (s : Bool) → shared_of b index lookup remote cache ≡ Some s → s ≡ true
    → (is_none index ≡ true) × (is_none lookup ≡ true) × (is_none remote ≡ true) × (cache ≡ 0)
may_go false index lookup remote cache s e is = absurd (false≢true (given e ∙ is))
  where
    given : Some false ≡ Some s → false ≡ s
    given f = cc
may_go true index lookup remote cache s e is =
    let through = let_through (may_share index lookup remote cache) true s e in
    let three = both (is_none index && is_none lookup && is_none remote) (cache == 0) through.0 in
    let two = both (is_none index && is_none lookup) (is_none remote) three.0 in
    let one = both (is_none index) (is_none lookup) two.0 in
    (one.0, one.1, two.1, eqb-true cache 0 three.1)

asked_within : (rows : List Row) (c : Command) → asked_by rows ≡ Some c → IsWithin c
asked_within rows c e =
    let workers = step_given (workers_of (first_of (codes "workers") rows)) _ c e in
    let policy = step_given (policy_of (first_of (codes "policy") rows)) _ c workers.2 in
    let seed = step_given (seed_of (first_of (codes "seed") rows)) _ c policy.2 in
    let route = step_given (route_of (first_of (codes "route") rows)) _ c seed.2 in
    let cache = step_given (cache_of (first_of (codes "cache") rows)) _ c route.2 in
    let shared = step_given (shared_in rows cache.0) _ c cache.2 in
    let task = step_given (task_in rows) _ c shared.2 in
    let range = workers_in (first_of (codes "workers") rows) workers.0 workers.1 in
    subst IsWithin (given (command_of workers.0 policy.0 seed.0 route.0 cache.0 (is_flag_given (first_of (codes "tally") rows)) shared.0 task.0) task.2) (record {
      some = range.0;
      few = range.1;
      route = route_in (first_of (codes "route") rows) route.0 route.1;
      cache = cache_in (first_of (codes "cache") rows) cache.0 cache.1;
      task = task_within (first_of (codes "demo") rows) (other_words_of rows) (first_of (codes "index") rows) (first_of (codes "lookup") rows) (first_of (codes "remote") rows) task.0 task.1;
      shared = λ is.
          let go = may_go (is_flag_given (first_of (codes "shared") rows)) (first_of (codes "index") rows) (first_of (codes "lookup") rows) (first_of (codes "remote") rows) cache.0 shared.0 shared.1 is in
          (go.3, scanned_task (first_of (codes "demo") rows) (other_words_of rows) (first_of (codes "index") rows) (first_of (codes "lookup") rows) (first_of (codes "remote") rows) task.0 task.1 go.0 go.1 go.2);
    })
  where
    given : (x : Command) → Some x ≡ Some c → x ≡ c
    given x f = cc

pub command_within : (words : List Text) (c : Command) → command words ≡ Some c → IsWithin c
unfolding command
command_within words c e = by (takes program words) e
  where
    by : (b : Bool) → cond b (asked_by (matches_of program words)) None ≡ Some c → IsWithin c
    by true f = asked_within (matches_of program words) c f
    by false f = absurd cc

-- the command of words that clap takes, and of words that it doesn't
pub command_taken : (words : List Text) (rows : List Row) → takes program words ≡ true → rows ≡ matches_of program words → command words ≡ asked_by rows
unfolding command
command_taken words rows e f = ap (λ b. cond b (asked_by (matches_of program words)) None) e ∙ ap asked_by (sym f)

pub command_refused : (words : List Text) → takes program words ≡ false → command words ≡ None
unfolding command
command_refused words e = ap (λ b. cond b (asked_by (matches_of program words)) None) e
