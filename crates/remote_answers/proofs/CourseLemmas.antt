-- What statements over remotes come to: there is one such thing, and statement after statement.
use Rattle.std.proofs.Common.{◌≡◌, ℕ, suc, ◌+◌, ◌<◌, ◌≤◌, Bool, true, false, cond, List, [], ◌∷◌, ◌++◌, length, Option, Some, None, Result, Ok, Err, refl, sym, ◌∙◌, ap, subst, arith}
use Rattle.std.specs.Prelude.{⊤, ℤ, nat_lt}
use Rattle.sq_value.specs.Relation.{Relation}
use Rattle.sq_value.specs.declared.value.Value.{Value}
use Rattle.sq_value.specs.declared.value.Truth.{Truth}
use Rattle.sq_expr.specs.declared.block.Block.{Block}
use Rattle.remote_lookup.specs.Filled.{tables_for}
use Rattle.remote_lookup.specs.KeyFiles.{KeyBytes, key_file_of}
use Rattle.remote_lookup.specs.Rounds.{Bad, Breaks, Cause, Comes, Crowds, Ends, Goes, TooLong, fault_at, first_fault, row_count_of, rows_of_file}
use Rattle.remote_lookup.specs.declared.remote.Remote.{Remote}
use Rattle.remote_lookup.specs.declared.remote.RemoteKey.{RemoteKey}
use Rattle.remote_lookup.specs.declared.remote.RemoteFault.{RemoteFault}
use Rattle.remote_lookup.specs.declared.remote.RemoteFault.TheVariants as fault
use Rattle.remote_lookup.proofs.CountLemmas.{first_found, first_none}
use Rattle.remote_lookup.proofs.RoundLemmas.{one_outcome}
use Rattle.remote_lookup.proofs.ExistLemmas.{outcome}
use Rattle.run_base.specs.Items.{Item, item_over}
use Rattle.run_base.specs.declared.bound.Bound.{Bound}
use Rattle.remote_answers.specs.Statements.{Over, Course, KeysComeTo, RunsOn, RunsTo, course, file_for, item_for}

-- ---- there is one

one_behind : (over : Over) (number : ℕ) (b : Bound) (Rest : Course → Type 0) → ((c d : Course) → Rest c → Rest d → c ≡ d)
    → (due other : Result (List RemoteKey) RemoteFault) → due ≡ other → (c d : Course) → RunsOn over number b Rest due c
    → RunsOn over number b Rest other d → c ≡ d
one_behind over number b Rest one (Ok keys) (Ok others) e c d h k =
    let same : keys ≡ others = cc in
    h.2 ∙ ap (λ (ks : List RemoteKey). course (item_for over number b ks ∷ h.0.items) h.0.refusal) same
    ∙ ap (λ (x : Course). course (item_for over number b others ∷ x.items) x.refusal) (one h.0 k.0 h.1 k.1) ∙ sym k.2
one_behind over number b Rest one (Ok keys) (Err why) e c d h k = absurd cc
one_behind over number b Rest one (Err why) (Ok keys) e c d h k = absurd cc
one_behind over number b Rest one (Err why) (Err other) e c d h k =
    let same : why ≡ other = cc in
    h ∙ ap (λ (x : RemoteFault). course [] (Some x)) same ∙ sym k

pub one_course : (over : Over) (number : ℕ) (bounds : List Bound) (c d : Course) → RunsTo over number bounds c → RunsTo over number bounds d → c ≡ d
unfolding RunsTo
one_course over number [] c d h k = h ∙ sym k
one_course over number (b ∷ more) c d h k =
    one_behind over number b (RunsTo over (number + 1) more) (one_course over (number + 1) more) h.0 k.0
    (one_outcome over.gives b.block over.tables over.remotes (file_for over number) [] h.0 k.0 h.1 k.1) c d h.2 k.2

some_behind : (over : Over) (number : ℕ) (b : Bound) (Rest : Course → Type 0) → (c : Course) × Rest c → (due : Result (List RemoteKey) RemoteFault)
    → (d : Course) × RunsOn over number b Rest due d
some_behind over number b Rest rest (Ok keys) = (course (item_for over number b keys ∷ rest.0.items) rest.0.refusal, (rest.0, rest.1, refl))
some_behind over number b Rest rest (Err why) = (course [] (Some why), refl)

pub some_course : (over : Over) (number : ℕ) (bounds : List Bound) → (c : Course) × RunsTo over number bounds c
unfolding RunsTo
some_course over number [] = (course [] None, refl)
some_course over number (b ∷ more) =
    let keys = outcome over.gives b.block over.tables over.remotes (file_for over number) in
    let behind = some_behind over number b (RunsTo over (number + 1) more) (some_course over (number + 1) more) keys.0 in
    (behind.0, (keys.0, keys.1, behind.1))

-- ---- one statement after another

same_items : {xs ys : List Item} {o p : Option RemoteFault} → course xs o ≡ course ys p → xs ≡ ys
same_items e = ap (λ (c : Course). c.items) e

same_refusal : {xs ys : List Item} {o p : Option RemoteFault} → course xs o ≡ course ys p → o ≡ p
same_refusal e = ap (λ (c : Course). c.refusal) e

never : (why : RemoteFault) → ◌≡◌ {A = Option RemoteFault} None (Some why) → ⊥
never why e = cc

-- the course of statements behind others that were all answered
abbrev pub behind : List Item → Course → Course
behind items c = course (items ++ c.items) c.refusal

pub runs_append : (over : Over) (number : ℕ) (first rest : List Bound) (items : List Item) (c : Course) → RunsTo over number first (course items None)
    → RunsTo over (number + length first) rest c → RunsTo over number (first ++ rest) (behind items c)
unfolding RunsTo
runs_append over number [] rest items c h k =
    let none : [] ≡ items = sym (same_items h) in
    let here : number + 0 ≡ number = omega arith in
    subst (λ (xs : List Item). RunsTo over number rest (behind xs c)) none (subst (λ (n : ℕ). RunsTo over n rest c) here k)
runs_append over number (b ∷ first) rest items c h k =
    let here : number + suc (length first) ≡ (number + 1) + length first = omega arith in
    (h.0, h.1, by (λ xs g. runs_append over (number + 1) first rest xs c g (subst (λ (n : ℕ). RunsTo over n rest c) here k)) h.0 h.2)
  where
    by : ((xs : List Item) → RunsTo over (number + 1) first (course xs None) → RunsTo over (number + 1) (first ++ rest) (behind xs c))
        → (due : Result (List RemoteKey) RemoteFault) → RunsOn over number b (RunsTo over (number + 1) first) due (course items None)
        → RunsOn over number b (RunsTo over (number + 1) (first ++ rest)) due (behind items c)
    by all (Err why) e = absurd (never why (same_refusal e))
    by all (Ok keys) g =
        let none : g.0.refusal ≡ None = sym (same_refusal g.2) in
        let run : RunsTo over (number + 1) first (course g.0.items None) =
        subst (λ (o : Option RemoteFault). RunsTo over (number + 1) first (course g.0.items o)) none g.1 in (
          behind g.0.items c,
          all g.0.items run,
          ap (λ (xs : List Item). course (xs ++ c.items) c.refusal) (same_items g.2),
        )

-- one statement alone: it is answered, or its keys are refused
pub runs_answered : (over : Over) (number : ℕ) (b : Bound) (keys : List RemoteKey) → KeysComeTo over number b (Ok keys)
    → RunsTo over number (b ∷ []) (course (item_for over number b keys ∷ []) None)
unfolding RunsTo
runs_answered over number b keys h = (Ok keys, h, (course [] None, refl, refl))

pub runs_refused : (over : Over) (number : ℕ) (b : Bound) (more : List Bound) (why : RemoteFault) → KeysComeTo over number b (Err why)
    → RunsTo over number (b ∷ more) (course [] (Some why))
unfolding RunsTo
runs_refused over number b more why h = (Err why, h, refl)

pub runs_none : (over : Over) (number : ℕ) → RunsTo over number [] (course [] None)
unfolding RunsTo
runs_none over number = refl

-- as many are answered as there are statements, where none is refused
pub length-answered : (over : Over) (number : ℕ) (bounds : List Bound) (items : List Item) → RunsTo over number bounds (course items None)
    → length items ≡ length bounds
unfolding RunsTo
length-answered over number [] items h = ap (λ (xs : List Item). length xs) (same_items h)
length-answered over number (b ∷ more) items h = by (λ xs g. length-answered over (number + 1) more xs g) h.0 h.2
  where
    by : ((xs : List Item) → RunsTo over (number + 1) more (course xs None) → length xs ≡ length more)
        → (due : Result (List RemoteKey) RemoteFault) → RunsOn over number b (RunsTo over (number + 1) more) due (course items None)
        → length items ≡ length (b ∷ more)
    by all (Err why) e = absurd (never why (same_refusal e))
    by all (Ok keys) g =
        let none : g.0.refusal ≡ None = sym (same_refusal g.2) in
        let rest : length g.0.items ≡ length more =
        all g.0.items (subst (λ (o : Option RemoteFault). RunsTo over (number + 1) more (course g.0.items o)) none g.1) in
        ap (λ (xs : List Item). length xs) (same_items g.2) ∙ ap suc rest

-- ---- what is given of keys to other statements makes no difference

abbrev pub with_keys : Over → (ℕ → KeyBytes) → Over
with_keys over keys = record over { keys = keys }

-- an item, by what is given of its keys
abbrev item_by : Over → Bound → List RemoteKey → KeyBytes → Item
item_by over b keys found = item_over (tables_for over.remotes (λ r k. rows_of_file (key_file_of over.tables over.remotes found r k)) over.tables keys) b

pub runs_with : (over : Over) (keys : ℕ → KeyBytes) (number : ℕ) (bounds : List Bound) (c : Course)
    → ((n : ℕ) → number ≤ n → n < number + length bounds → over.keys n ≡ keys n) → RunsTo over number bounds c → RunsTo (with_keys over keys) number bounds c
unfolding RunsTo
runs_with over keys number [] c same h = h
runs_with over keys number (b ∷ more) c same h = (
  h.0,
  subst (λ (found : KeyBytes). Comes over.gives b.block over.tables over.remotes (key_file_of over.tables over.remotes found) [] h.0) here h.1,
  by (λ d g. runs_with over keys (number + 1) more d (λ n low high. same n (omega (arith, low)) (omega (arith, high))) g) h.0 h.2,
)
  where
    here : over.keys number ≡ keys number
    here = same number (omega arith) (omega arith)

    by : ((d : Course) → RunsTo over (number + 1) more d → RunsTo (with_keys over keys) (number + 1) more d)
        → (due : Result (List RemoteKey) RemoteFault) → RunsOn over number b (RunsTo over (number + 1) more) due c
        → RunsOn (with_keys over keys) number b (RunsTo (with_keys over keys) (number + 1) more) due c
    by all (Err why) e = e
    by all (Ok ks) g = (
      g.0,
      all g.0 g.1,
      g.2 ∙ ap (λ (found : KeyBytes). course (item_by over b ks found ∷ g.0.items) g.0.refusal) here,
    )

-- ---- by what statements are refused

-- neither a failed read nor want of memory is what keys come to
abbrev pub IsComing : RemoteFault → Type 0
IsComing (fault.Read at) = ⊥
IsComing (fault.TooLong at) = ⊤
IsComing (fault.BadFile at why) = ⊤
IsComing (fault.TooManyKeys remote) = ⊤
IsComing (fault.TooManyRows remote) = ⊤
IsComing fault.Memory = ⊥

some_same : {x y : RemoteFault} → ◌≡◌ {A = Option RemoteFault} (Some x) (Some y) → x ≡ y
some_same e = cc

err_same : {x y : RemoteFault} → ◌≡◌ {A = Result (List RemoteKey) RemoteFault} (Err x) (Err y) → x ≡ y
err_same e = cc

coming_at : (file : ℕ → ℤ → Result (List (List Value)) Cause) (loaded : List RemoteKey) (at : RemoteKey) (r : Result (List (List Value)) Cause) (why : RemoteFault)
    → fault_at file loaded at r ≡ Some why → IsComing why
coming_at file loaded at (Err TooLong) why e = subst IsComing (some_same e) tt
coming_at file loaded at (Err (Bad y)) why e = subst IsComing (some_same e) tt
coming_at file loaded at (Ok rows) why e = by (nat_lt 4000000 (row_count_of file loaded at.remote + length rows)) e
  where
    by : (b : Bool) → (let o : Option RemoteFault = cond b (Some (fault.TooManyRows at.remote)) None in o) ≡ Some why → IsComing why
    by true f = subst IsComing (some_same f) tt
    by false f = absurd (never why f)

coming_first : (file : ℕ → ℤ → Result (List (List Value)) Cause) (loaded keys : List RemoteKey) (why : RemoteFault) → first_fault file loaded keys ≡ Some why
    → IsComing why
unfolding first_fault
coming_first file loaded [] why e = absurd (never why e)
coming_first file loaded (k ∷ keys) why e =
    by (λ f. coming_first file (loaded ++ k ∷ []) keys why f) (fault_at file loaded k (file k.remote k.key)) refl
  where
    by : (first_fault file (loaded ++ k ∷ []) keys ≡ Some why → IsComing why)
        → (o : Option RemoteFault) → fault_at file loaded k (file k.remote k.key) ≡ o → IsComing why
    by again (Some f) is = coming_at file loaded k (file k.remote k.key) why (is ∙ sym (first_found file loaded k keys f is) ∙ e)
    by again None is = again (sym (first_none file loaded k keys is) ∙ e)

coming_keys : (gives : ℕ → Value → Value → Truth) (block : Block) (tables : List Relation) (remotes : List Remote)
    (file : ℕ → ℤ → Result (List (List Value)) Cause) (known : List RemoteKey) (due : Result (List RemoteKey) RemoteFault) (why : RemoteFault)
    → Comes gives block tables remotes file known due → due ≡ Err why → IsComing why
coming_keys gives block tables remotes file known due why (Ends known' asked) e = absurd cc
coming_keys gives block tables remotes file known due why (Crowds known' next remote asked more crowd) e = subst IsComing (err_same e) tt
coming_keys gives block tables remotes file known due why (Breaks known' next y asked more crowd first) e =
    subst IsComing (err_same e) (coming_first file known' _ y first)
coming_keys gives block tables remotes file known due why (Goes known' next due' asked more crowd first rest) e =
    coming_keys gives block tables remotes file next due' why rest e

pub coming_course : (over : Over) (number : ℕ) (bounds : List Bound) (c : Course) (why : RemoteFault) → RunsTo over number bounds c → c.refusal ≡ Some why
    → IsComing why
unfolding RunsTo
coming_course over number [] c why h e = absurd (never why (sym (ap (λ (x : Course). x.refusal) h) ∙ e))
coming_course over number (b ∷ more) c why h e =
    by (λ d k f. coming_course over (number + 1) more d why k f) h.0 h.1 h.2
  where
    by : ((d : Course) → RunsTo over (number + 1) more d → d.refusal ≡ Some why → IsComing why)
        → (due : Result (List RemoteKey) RemoteFault) → KeysComeTo over number b due → RunsOn over number b (RunsTo over (number + 1) more) due c → IsComing why
    by again (Ok keys) k g = again g.0 g.1 (sym (ap (λ (x : Course). x.refusal) g.2) ∙ e)
    by again (Err y) k g =
        let same : y ≡ why = some_same (sym (ap (λ (x : Course). x.refusal) g) ∙ e) in
        coming_keys over.gives b.block over.tables over.remotes (file_for over number) [] (Err y) why k (ap (λ (x : RemoteFault). let r : Result (List RemoteKey) RemoteFault = Err x in r) same)

-- ---- those that are answered first

-- what statements are answered is a front of what all come to
pub answered_first : (over : Over) (number : ℕ) (first rest : List Bound) (items : List Item) (c : Course) → RunsTo over number first (course items None)
    → RunsTo over number (first ++ rest) c → (more : List Item) × (c.items ≡ items ++ more)
answered_first over number first rest items c h k =
    let d = some_course over (number + length first) rest in
    let same : c ≡ behind items d.0 = one_course over number (first ++ rest) c (behind items d.0) k (runs_append over number first rest items d.0 h d.1) in
    (d.0.items, ap (λ (x : Course). x.items) same)
