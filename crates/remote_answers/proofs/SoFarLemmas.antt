-- Statements over remotes, one behind another: how far a run came, and how it ended.
use Rattle.std.proofs.Common.{◌≡◌, ◌≢◌, ℕ, suc, ◌+◌, ℤ, Bool, true, false, cond, List, [], ◌∷◌, ◌++◌, length, take, drop, Option, Some, None, Result, Ok, Err, refl, sym, ◌∙◌, ap, subst, arith, append-nil}
use Rattle.std.specs.List.{flat_map}
use Rattle.std.specs.Prelude.{◌==◌, slice_get}
use Rattle.std.specs.Result.{IsErrAnd}
use Rattle.std.proofs.lemmas.List.{length-take-le, take-append-drop}
use Rattle.std.proofs.lemmas.Option.{slice_get_within}
use Rattle.std.proofs.lemmas.Result.{err_from_is_err_and}
use Rattle.remote_lookup.proofs.GrowthLemmas.{take_next}
use Rattle.remote_answers.proofs.PlaceLemmas.{drop_next}
use Rattle.std.proofs.lemmas.Bool.{eq-eqb, ne_eqb}
use Rattle.outside.specs.Files.{File, lookup}
use Rattle.sq_value.specs.Relation.{Relation}
use Rattle.sq_value.specs.declared.value.Value.{Value}
use Rattle.sq_value.specs.declared.value.Truth.{Truth}
use Rattle.remote_lookup.specs.KeyFiles.{AreKeysGiven, KeyBytes, key_name}
use Rattle.remote_lookup.specs.Loaded.{MayRefuse, UnlessReadOrMemory}
use Rattle.remote_lookup.specs.declared.remote.Remote.{Remote}
use Rattle.remote_lookup.specs.declared.remote.RemoteKey.{RemoteKey}
use Rattle.remote_lookup.specs.declared.remote.RemoteFault.{RemoteFault}
use Rattle.remote_lookup.specs.declared.remote.RemoteFault.TheVariants as fault
use Rattle.run_base.specs.Items.{Item}
use Rattle.run_base.specs.Seen.{Folder, Outputs}
use Rattle.run_base.specs.declared.bound.Bound.{Bound}
use Rattle.run_answers.specs.Answering.{Answers, AnswersOne}
use Rattle.run_answers.specs.Tally.{IsTally}
use Rattle.run_answers.specs.Text.{behind_line, numbered_text, text_of}
use Rattle.run_answers.specs.declared.settings.Settings.{Settings}
use Rattle.run_answers.specs.declared.stopping.Stop.{Stop}
use Rattle.run_answers.specs.declared.stopping.Stop.TheVariants as stop
use Rattle.run_answers.proofs.ProgressLemmas.{answers_after, answers_halted, answers_of, answers_single}
use Rattle.run_answers.proofs.TextLemmas.{answers_none}
use Rattle.remote_answers.specs.Answered.{AnsweredTo, ArePut, Counted, CountsBy, EndsOne, IsRefusal, Ran, RefusedTo, StatementTo, over, put_by}
use Rattle.remote_answers.specs.Statements.{Course, KeysComeTo, MayRefuseAfter, Over, RunsTo, course, item_for}
use Rattle.remote_answers.specs.declared.halting.Halt.{Halt}
use Rattle.remote_answers.specs.declared.halting.Halt.TheVariants as halt
use Rattle.remote_answers.proofs.CourseLemmas.{behind, length-answered, runs_answered, runs_append, runs_none, runs_refused, runs_with, some_course}
use Rattle.remote_answers.proofs.UnputLemmas.{answers_cut, numbered_text-some, one_unput, rest_law, rest_more, rest_none, rest_one, rest_text}

-- an equal error
through : {T E : Type 0} (r : Result T E) (y : E) (P : Result T E → Type 0) → IsErrAnd r (λ x. x ≡ y) → P (Err y) → P r
through {T} {E} r y P h p =
    let q = err_from_is_err_and r h in
    subst P (ap (λ (z : E). let x : Result T E = Err z in x) (sym q.2) ∙ sym q.1) p

-- ---- what is given of keys

-- what a folder holds of keys, where it tells that, and else nothing
abbrev key_held : List File → ℤ → Option Remote → Option (List ℕ)
key_held files key None = None
key_held files key (Some r) = lookup files (key_name r.prefix key)

pub some_keys : (remotes : List Remote) (holds : Option (List File)) → (found : KeyBytes) × AreKeysGiven remotes holds found
some_keys remotes None = ((λ remote key. None), λ files e. absurd cc)
some_keys remotes (Some files) = (
  (λ remote key. key_held files key (slice_get remotes remote)),
  λ given e remote key r is.
      let same : files ≡ given = cc in
      ap (key_held files key) is ∙ ap (λ (fs : List File). lookup fs (key_name r.prefix key)) same,
)

-- one statement's keys among those of others
abbrev pub put_in : (ℕ → KeyBytes) → ℕ → KeyBytes → ℕ → KeyBytes
put_in keys number found n = cond (n == number) found (keys n)

put_at : (keys : ℕ → KeyBytes) (number : ℕ) (found : KeyBytes) → put_in keys number found number ≡ found
put_at keys number found = ap (λ (b : Bool). cond b found (keys number)) (eq-eqb number number refl)

put_other : (keys : ℕ → KeyBytes) (number : ℕ) (found : KeyBytes) (n : ℕ) → n ≢ number → keys n ≡ put_in keys number found n
put_other keys number found n ne = ap (λ (b : Bool). cond b found (keys n)) (sym (ne_eqb n number ne))

agrees_in : (remotes : List Remote) (holds : Option (List File)) (keys : ℕ → KeyBytes) (number : ℕ) (found : KeyBytes)
    → ((n : ℕ) → AreKeysGiven remotes holds (keys n)) → AreKeysGiven remotes holds found → (n : ℕ) → AreKeysGiven remotes holds (put_in keys number found n)
agrees_in remotes holds keys number found all one n = by (n == number)
  where
    by : (b : Bool) → AreKeysGiven remotes holds (cond b found (keys n))
    by true = one
    by false = all n

-- ---- items

some_more : (xs : List Item) (y : Item) (ys : List Item) → xs ++ y ∷ ys ≢ []
some_more [] y ys e = absurd cc
some_more (x ∷ xs) y ys e = absurd cc

none_before : (xs ys : List Item) → xs ++ ys ≡ [] → xs ≡ []
none_before [] ys e = refl
none_before (x ∷ xs) ys e = absurd cc

-- ---- how far a run came

-- the statements so far are answered
pub record SoFar {O N : Type 0} (s : Settings) (gives : ℕ → Value → Value → Truth) (tables : List Relation) (remotes : List Remote)
    (holds : Option (List File)) (bounds : List Bound) (old now : Outputs O N) : Type 0 where
  pub keys : ℕ → KeyBytes
  pub agrees : (number : ℕ) → AreKeysGiven remotes holds (keys number)
  pub items : List Item
  pub runs : RunsTo (over gives tables remotes keys) 1 bounds (course items None)
  pub put : ArePut s gives items old now

module _ {O N : Type 0} (s : Settings) (gives : ℕ → Value → Value → Truth) (tables : List Relation) (remotes : List Remote) where
  pub so_far_none : (holds : Option (List File)) (old : Outputs O N) → SoFar s gives tables remotes holds [] old old
  so_far_none holds old =
      let given = some_keys remotes holds in
      record {
        keys = λ n. given.0;
        agrees = λ n. given.1;
        items = [];
        runs = runs_none (over gives tables remotes (λ n. given.0)) 1;
        put = record { put = answers_none {room = s.cache} s.tally gives [] old refl; untouched = λ e. refl };
      }

  module _ (holds : Option (List File)) (first : List Bound) (number : ℕ) (b : Bound) (old mid new : Outputs O N)
      (h : SoFar s gives tables remotes holds first old mid) (place : number ≡ 1 + length first) (found : KeyBytes)
      (given : AreKeysGiven remotes holds found) where
    -- what is given of keys, with this statement's
    abbrev keys : ℕ → KeyBytes
    keys = put_in h.keys number found

    abbrev all : Over
    all = over gives tables remotes keys

    agrees : (n : ℕ) → AreKeysGiven remotes holds (keys n)
    agrees = agrees_in remotes holds h.keys number found h.agrees given

    before : RunsTo all 1 first (course h.items None)
    before =
        runs_with (over gives tables remotes h.keys) keys 1 first (course h.items None)
        (λ n low high. put_other h.keys number found n (λ e. omega (arith, e, high, place))) h.runs

    -- the statement's own keys, as they were given to it
    own_keys : (due : Result (List RemoteKey) RemoteFault) → KeysComeTo (over gives tables remotes (λ n. found)) number b due → KeysComeTo all number b due
    own_keys due k = subst (λ (f : KeyBytes). KeysComeTo (over gives tables remotes (λ n. f)) number b due) (sym (put_at h.keys number found)) k

    same_item : (ks : List RemoteKey) → item_for (over gives tables remotes (λ n. found)) number b ks ≡ item_for all number b ks
    same_item ks = ap (λ (f : KeyBytes). item_for (over gives tables remotes (λ n. f)) number b ks) (sym (put_at h.keys number found))

    count : 1 + length h.items ≡ number
    count = omega (arith, place, length-answered all 1 first h.items before)

    -- a run of the statement, with its number
    run_put : (r : Result (Unit {0}) Stop) → (ran : Ran s (over gives tables remotes (λ n. found)) number b mid new r)
        → AnswersOne s.tally (IsTally s.cache gives) (1 + length h.items) (item_for all number b ran.keys) (numbered_text gives (1 + length h.items) (item_for all number b ran.keys)) mid new r
    run_put r ran =
        subst (λ (n : ℕ). AnswersOne s.tally (IsTally s.cache gives) n (item_for all number b ran.keys) (numbered_text gives n (item_for all number b ran.keys)) mid new r) (sym count)
        (subst (λ (i : Item). AnswersOne s.tally (IsTally s.cache gives) number i (numbered_text gives number i) mid new r) (same_item ran.keys) ran.put)

    runs_behind : (rest : List Bound) (c : Course) → RunsTo all number rest c → RunsTo all 1 (first ++ rest) (behind h.items c)
    runs_behind rest c k = runs_append all 1 first rest h.items c before (subst (λ (n : ℕ). RunsTo all n rest c) place k)

    -- the statement is answered
    pub so_far_more : Ran s (over gives tables remotes (λ n. found)) number b mid new (Ok tt) → SoFar s gives tables remotes holds (first ++ b ∷ []) old new
    so_far_more ran =
        let item = item_for all number b ran.keys in
        record {
          keys = keys;
          agrees = agrees;
          items = h.items ++ item ∷ [];
          runs = runs_behind (b ∷ []) (course (item ∷ []) None) (runs_answered all number b ran.keys (own_keys (Ok ran.keys) ran.come));
          put = record {
            put =
                answers_after s.tally (IsTally s.cache gives) 1 h.items (item ∷ []) (text_of gives) (text_of gives) (rest_text gives h.items) old mid new (Ok tt)
                (rest_law gives h.items) (rest_none gives h.items) h.put.put
                (answers_single s.tally (IsTally s.cache gives) (1 + length h.items) item (rest_text gives h.items) (numbered_text gives (1 + length h.items) item) mid new
                (rest_one gives h.items item) (run_put (Ok tt) ran));
            untouched = λ e. absurd (some_more h.items item [] e);
          };
        }

    -- answers of more statements, of which the first stopped
    put_stopped : (item : Item) (more : List Item) (why : Stop)
        → AnswersOne s.tally (IsTally s.cache gives) (1 + length h.items) item (numbered_text gives (1 + length h.items) item) mid new (Err why)
        → Answers s.tally (IsTally s.cache gives) 1 (h.items ++ item ∷ more) (text_of gives) old new (Err why)
    put_stopped item more why one =
        answers_after s.tally (IsTally s.cache gives) 1 h.items (item ∷ more) (text_of gives) (text_of gives) (rest_text gives h.items) old mid new (Err why)
        (rest_law gives h.items) (rest_none gives h.items) h.put.put
        (answers_halted s.tally (IsTally s.cache gives) (1 + length h.items) item more (rest_text gives h.items) (numbered_text gives (1 + length h.items) item)
        (flat_map (behind_line gives) more) mid new why (rest_one gives h.items item) (rest_more gives h.items item more) one)

    -- it was stopped
    pub ended_stopped : (left : List Bound) (start from to : Folder) (why : Stop) → start.holds ≡ holds → from.faults ≡ start.faults
        → Counted from to (Err (halt.Stopped why)) → Ran s (over gives tables remotes (λ n. found)) number b mid new (Err why)
        → AnsweredTo s gives tables remotes (first ++ b ∷ left) start to old new (Err (halt.Stopped why))
    ended_stopped left start from to why tells kept counted ran =
        let item = item_for all number b ran.keys in
        let rest = some_course all (number + 1) left in
        record {
          keys = keys;
          agrees = λ n. subst (λ (o : Option (List File)). AreKeysGiven remotes o (keys n)) (sym tells) (agrees n);
          course = behind h.items (course (item ∷ rest.0.items) rest.0.refusal);
          runs = runs_behind (b ∷ left) (course (item ∷ rest.0.items) rest.0.refusal) (answered_next rest.0 rest.1);
          told = some_more h.items item rest.0.items;
          counted = counted ∙ kept;
          put = put_stopped item rest.0.items why (run_put (Err why) ran);
          untouched = λ e. absurd (some_more h.items item rest.0.items e);
        }
      where
        answered_next : (c : Course) → RunsTo all (number + 1) left c → RunsTo all number (b ∷ left) (course (item_for all number b ran.keys ∷ c.items) c.refusal)
        answered_next c k = runs_append all number (b ∷ []) left (item_for all number b ran.keys ∷ []) c
            (runs_answered all number b ran.keys (own_keys (Ok ran.keys) ran.come)) k

    -- answers that want of memory cut off before the next statement
    put_cut : (more : List Item) → new ≡ mid → Answers s.tally (IsTally s.cache gives) 1 (h.items ++ more) (text_of gives) old new (Err stop.Memory)
    put_cut [] same =
        answers_of s.tally (IsTally s.cache gives) 1 h.items (h.items ++ []) (text_of gives) old new (Err stop.Memory) (sym (append-nil h.items))
        (subst (λ (o : Outputs O N). Answers s.tally (IsTally s.cache gives) 1 h.items (text_of gives) old o (Err stop.Memory)) (sym same)
        (answers_cut s.tally (IsTally s.cache gives) 1 h.items (text_of gives) old mid h.put.put))
    put_cut (item ∷ more) same =
        put_stopped item more stop.Memory
        (one_unput s.tally (IsTally s.cache gives) (1 + length h.items) item (numbered_text gives (1 + length h.items) item) mid new (numbered_text-some gives (1 + length h.items) item) same)

    -- its keys may be refused so, after those that are answered
    refused_after : (left : List Bound) (why : RemoteFault) → MayRefuse gives b.block tables remotes found why
        → MayRefuseAfter all (first ++ b ∷ left) h.items why
    refused_after left why may = record {
      first = first;
      next = b;
      left = left;
      split = refl;
      runs = before;
      refused = subst (λ (f : KeyBytes). MayRefuse gives b.block tables remotes f why)
          (sym (ap keys (sym place) ∙ put_at h.keys number found)) may;
    }

    -- its keys were refused
    pub ended_refused : (left : List Bound) (start from to : Folder) (why : RemoteFault) → start.holds ≡ holds → from.faults ≡ start.faults
        → Counted from to (Err (halt.Refused why)) → EndsOne s (over gives tables remotes (λ n. found)) number b mid new (Err (halt.Refused why))
        → AnsweredTo s gives tables remotes (first ++ b ∷ left) start to old new (Err (halt.Refused why))
    ended_refused left start from to why tells kept counted (same, is, may) = by why is may counted
      where
        told_agrees : (n : ℕ) → AreKeysGiven remotes start.holds (keys n)
        told_agrees n = subst (λ (o : Option (List File)). AreKeysGiven remotes o (keys n)) (sym tells) (agrees n)

        -- what is told of a refusal
        told : (y : RemoteFault) (c : Course) → IsRefusal (length remotes) y → MayRefuse gives b.block tables remotes found y
            → UnlessReadOrMemory y (c.refusal ≡ Some y) → RefusedTo s all (first ++ b ∷ left) c old new y
        told y c i r k = record {
          items = h.items;
          after = refused_after left y r;
          put = subst (λ (o : Outputs O N). ArePut s gives h.items old o) (sym same) h.put;
          is = i;
          comes = k;
        }

        -- the statements come to something, and none of this one was put
        cut_off : (y : RemoteFault) → put_by y ≡ Err stop.Memory → IsRefusal (length remotes) y → MayRefuse gives b.block tables remotes found y
            → ((c : Course) → UnlessReadOrMemory y (c.refusal ≡ Some y))
            → Counted start to (Err (halt.Refused y)) → AnsweredTo s gives tables remotes (first ++ b ∷ left) start to old new (Err (halt.Refused y))
        cut_off y e i r free k =
            let rest = some_course all number (b ∷ left) in
            record {
              keys = keys;
              agrees = told_agrees;
              course = behind h.items rest.0;
              runs = runs_behind (b ∷ left) rest.0 rest.1;
              told = told y (behind h.items rest.0) i r (free (behind h.items rest.0));
              counted = k;
              put = subst (λ (r : Result (Unit {0}) Stop). Answers s.tally (IsTally s.cache gives) 1 (h.items ++ rest.0.items) (text_of gives) old new r) (sym e) (put_cut rest.0.items same);
              untouched = λ none. same ∙ h.put.untouched (none_before h.items rest.0.items none);
            }

        -- this refusal is what they come to
        refused : (y : RemoteFault) → put_by y ≡ Ok tt → IsRefusal (length remotes) y → MayRefuse gives b.block tables remotes found y
            → KeysComeTo (over gives tables remotes (λ n. found)) number b (Err y)
            → ((c : Course) → c.refusal ≡ Some y → UnlessReadOrMemory y (c.refusal ≡ Some y))
            → Counted start to (Err (halt.Refused y)) → AnsweredTo s gives tables remotes (first ++ b ∷ left) start to old new (Err (halt.Refused y))
        refused y e i r comes free k = record {
          keys = keys;
          agrees = told_agrees;
          course = behind h.items (course [] (Some y));
          runs = runs_behind (b ∷ left) (course [] (Some y)) (runs_refused all number b left y (own_keys (Err y) comes));
          told = told y (behind h.items (course [] (Some y))) i r (free (behind h.items (course [] (Some y))) refl);
          counted = k;
          put = subst (λ (r : Result (Unit {0}) Stop). Answers s.tally (IsTally s.cache gives) 1 (h.items ++ []) (text_of gives) old new r) (sym e)
              (answers_of s.tally (IsTally s.cache gives) 1 h.items (h.items ++ []) (text_of gives) old new (Ok tt) (sym (append-nil h.items))
              (subst (λ (o : Outputs O N). Answers s.tally (IsTally s.cache gives) 1 h.items (text_of gives) old o (Ok tt)) (sym same) h.put.put));
          untouched = λ none. same ∙ h.put.untouched (none_before h.items [] none);
        }

        by : (y : RemoteFault) → IsRefusal (length remotes) y → MayRefuse gives b.block tables remotes found y → Counted from to (Err (halt.Refused y))
            → AnsweredTo s gives tables remotes (first ++ b ∷ left) start to old new (Err (halt.Refused y))
        by (fault.Read at) i r k =
            cut_off (fault.Read at) refl i r (λ c. tt) (subst (λ (n : ℕ). CountsBy (record start { faults = n }) to (fault.Read at)) kept k)
        by fault.Memory i r k = cut_off fault.Memory refl i r (λ c. tt) tt
        by (fault.TooLong at) i r k = refused (fault.TooLong at) refl i r r (λ c e. e) (k ∙ kept)
        by (fault.BadFile at y) i r k = refused (fault.BadFile at y) refl i r r (λ c e. e) (k ∙ kept)
        by (fault.TooManyKeys remote) i r k = refused (fault.TooManyKeys remote) refl i r r (λ c e. e) (k ∙ kept)
        by (fault.TooManyRows remote) i r k = refused (fault.TooManyRows remote) refl i r r (λ c e. e) (k ∙ kept)

  -- all are answered
  pub ended_well : (start to : Folder) (bounds : List Bound) (old new : Outputs O N) → to.faults ≡ start.faults
      → SoFar s gives tables remotes start.holds bounds old new → AnsweredTo s gives tables remotes bounds start to old new (Ok tt)
  ended_well start to bounds old new kept h = record {
    keys = h.keys;
    agrees = h.agrees;
    course = course h.items None;
    runs = h.runs;
    told = refl;
    counted = kept;
    put = h.put.put;
    untouched = h.put.untouched;
  }

  -- ---- one statement more, by how it ended

  -- a statement that is answered leaves the folder's count
  pub one_kept : (number : ℕ) (b : Bound) (from to : Folder) (mid new : Outputs O N) (r : Result (Unit {0}) Halt) (x : Unit {0}) → r ≡ Ok x
      → StatementTo s gives tables remotes number b from to mid new r → to.faults ≡ from.faults
  one_kept number b from to mid new r x e st =
      let ok : StatementTo s gives tables remotes number b from to mid new (Ok x) =
      subst (λ (q : Result (Unit {0}) Halt). StatementTo s gives tables remotes number b from to mid new q) e st in
      ok.counted

  module _ (holds : Option (List File)) (bounds : List Bound) (i number : ℕ) (b : Bound) (old mid new : Outputs O N) (from to : Folder)
      (h : SoFar s gives tables remotes holds (take i bounds) old mid) (place : number ≡ 1 + i) (at : slice_get bounds i ≡ Some b) (told : from.holds ≡ holds) where
    here : number ≡ 1 + length (take i bounds)
    here =
        let low = slice_get_within bounds i b at in
        let long = length-take-le i bounds (omega (arith, low)) in
        omega (arith, place, long)

    pub one_more : (r : Result (Unit {0}) Halt) (x : Unit {0}) → r ≡ Ok x → StatementTo s gives tables remotes number b from to mid new r
        → SoFar s gives tables remotes holds (take (i + 1) bounds) old new
    one_more r x e st =
        let ok : StatementTo s gives tables remotes number b from to mid new (Ok x) =
        subst (λ (q : Result (Unit {0}) Halt). StatementTo s gives tables remotes number b from to mid new q) e st in
        subst (λ (bs : List Bound). SoFar s gives tables remotes holds bs old new) (sym (take_next bounds i b at))
        (so_far_more holds (take i bounds) number b old mid new h here ok.found (subst (λ (o : Option (List File)). AreKeysGiven remotes o ok.found) told ok.agrees) ok.ends)

    split : take i bounds ++ b ∷ drop (suc i) bounds ≡ bounds
    split =
        ap (λ (l : List Bound). take i bounds ++ l) (sym (drop_next bounds i b at))
        ∙ take-append-drop i bounds

    stopped_at : (start : Folder) (y : Halt) → start.holds ≡ holds → from.faults ≡ start.faults → StatementTo s gives tables remotes number b from to mid new (Err y)
        → AnsweredTo s gives tables remotes (take i bounds ++ b ∷ drop (suc i) bounds) start to old new (Err y)
    stopped_at start y tells kept st = by y st.counted st.ends
      where
        given : AreKeysGiven remotes holds st.found
        given = subst (λ (o : Option (List File)). AreKeysGiven remotes o st.found) told st.agrees

        by : (y : Halt) → Counted from to (Err y) → EndsOne s (over gives tables remotes (λ n. st.found)) number b mid new (Err y)
            → AnsweredTo s gives tables remotes (take i bounds ++ b ∷ drop (suc i) bounds) start to old new (Err y)
        by (halt.Refused why) c n =
            ended_refused holds (take i bounds) number b old mid new h here st.found given (drop (suc i) bounds) start from to why tells kept c n
        by (halt.Stopped why) c n =
            ended_stopped holds (take i bounds) number b old mid new h here st.found given (drop (suc i) bounds) start from to why tells kept c n

    pub one_stopped : (start : Folder) (q r : Result (Unit {0}) Halt) (y : Halt) → start.holds ≡ holds → from.faults ≡ start.faults
        → IsErrAnd r (λ x. x ≡ y) → q ≡ Err y → StatementTo s gives tables remotes number b from to mid new q
        → AnsweredTo s gives tables remotes bounds start to old new r
    one_stopped start q r y tells kept same e st =
        let err : StatementTo s gives tables remotes number b from to mid new (Err y) =
        subst (λ (x : Result (Unit {0}) Halt). StatementTo s gives tables remotes number b from to mid new x) e st in
        through r y (AnsweredTo s gives tables remotes bounds start to old new) same
        (subst (λ (bs : List Bound). AnsweredTo s gives tables remotes bs start to old new (Err y)) split (stopped_at start y tells kept err))
