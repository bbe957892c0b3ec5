-- How tables are reached: by accesses of which each names a column of its table.
use Rattle.std.proofs.Common.{◌≡◌, ℕ, zero, suc, ◌+◌, ◌<◌, ◌≤◌, Bool, true, false, not, cond, eqb, ltb, List, [], ◌∷◌, ◌++◌, length, take, drop, get_or, map, Option, Some, None, Ok, Err, refl, sym, ◌∙◌, ap, subst, inl, inr, arith, append-nil}
use Rattle.std.specs.Prelude.{All, IsSome, IfSome, is_some, position, slice_get, option_map, option_and_then, ◌&&◌, ◌||◌}
use Rattle.std.specs.List.{find, list_any, position_or_len, range_with_len, IsDistinct, AllByRecursion}
use Rattle.std.specs.Option.{option_map_or}
use Rattle.std.proofs.lemmas.Bool.Decides.{nat_tests}
use Rattle.std.proofs.lemmas.Bool.{ltb-true, eqb-true, eq-eqb, ne_eqb, false≢true}
use Rattle.std.proofs.lemmas.Option.{slice_get-get_or, slice_get_within, get_or_from_slice_get}
use Rattle.std.proofs.lemmas.List.{length-map, map-append, take_all, take_more, drop_more, take-append-drop, length-take-le}
use Rattle.std.proofs.lemmas.List.Elements.{All-nil, All-cons, All-push, All-same, All-head, All-tail, All-get_or}
use Rattle.std.proofs.lemmas.List.FromFn.{get_or-map-range_with_len, length-range_with_len}
use Rattle.std.proofs.lemmas.List.Quantifiers.{position-Some}
use Rattle.std.proofs.lemmas.Map.Steps.{length-le_from_distinct_below}
use Rattle.sq_value.specs.Relation.{Relation}
use Rattle.sq_value.specs.declared.table.Column.{Column}
use Rattle.sq_value.specs.declared.value.ColType.TheVariants as kind
use Rattle.sq_expr.specs.Fits.{FitsAlias, column_kind}
use Rattle.sq_expr.specs.declared.block.Access.{Access}
use Rattle.sq_bind.specs.Given.{AreAccesses}
use Rattle.sq_bind.specs.Statement.{columns_at, scanned}
use Rattle.command_line.specs.Accesses.{tables_differ}
use Rattle.command_line.specs.Within.{IsAccess, IsQuery}
use Rattle.command_line.specs.declared.command.AccessWord.{AccessWord}
use Rattle.command_line.specs.declared.command.Query.{Query as QueryWords}
use Rattle.remote_lookup.specs.Filled.{remote_of}
use Rattle.remote_lookup.specs.Loaded.{IsRemote}
use Rattle.remote_lookup.specs.declared.remote.Remote.{Remote}
use Rattle.run_plan.specs.Accesses.{column_asked, first_lacking, access_by, access_to, access_over, reach_to, accesses_to, unless_lacking, accesses_read}
use Rattle.run_plan.specs.Open.{AreReached}
use Rattle.run_plan.specs.Doing.{Refuses}
use Rattle.run_plan.specs.Naming.{counts}
use Rattle.run_plan.specs.Steps.{ComesTo}
use Rattle.run_plan.specs.declared.status.Status.TheVariants as status

-- a place that was found is within the list
position-within : {X : Type 0} (p : X → Bool) (xs : List X) (i : ℕ) → position p xs ≡ Some i → i < length xs
position-within p xs i e = by (ltb (position_or_len p xs) (length xs)) refl e
  where
    by : (b : Bool) → ltb (position_or_len p xs) (length xs) ≡ b → cond b (Some (position_or_len p xs)) None ≡ Some i → i < length xs
    by true is f =
        let same : position_or_len p xs ≡ i = cc in
        subst (λ (n : ℕ). n < length xs) same (ltb-true _ _ is)
    by false is f = absurd cc

-- a column that is at a place of a table has a type
kind_at : (tables : List Relation) (table column : ℕ) → column < length (columns_at tables table) → IsSome (column_kind tables table column)
kind_at tables table column h = by (slice_get tables table) h
  where
    by : (o : Option Relation) → column < length (option_map_or (λ (t : Relation). t.columns) o [])
        → IsSome (option_map (λ (c : Column). c.kind) (option_and_then (λ (t : Relation). slice_get t.columns column) o))
    by None k = absurd (omega arith)
    by (Some t) k =
        let is = slice_get-get_or t.columns column record { name = []; kind = kind.Text } k in
        rw is refl

-- a range with one number more
range_more : (a n : ℕ) → range_with_len a (n + 1) ≡ range_with_len a n ++ (a + n) ∷ []
range_more a zero =
    let start : a ≡ a + zero = omega arith in
    ap (λ (k : ℕ). k ∷ []) start
range_more a (suc n) =
    let same : suc n + 1 ≡ suc (n + 1) = omega arith in
    let start : (a + 1) + n ≡ a + suc n = omega arith in
    ap (range_with_len a) same
    ∙ ap (λ (r : List ℕ). a ∷ r) (range_more (a + 1) n)
    ∙ ap (λ (k : ℕ). a ∷ (range_with_len (a + 1) n ++ k ∷ [])) start

range_next : (n : ℕ) → range_with_len 0 (n + 1) ≡ range_with_len 0 n ++ n ∷ []
range_next n =
    let same : 0 + n ≡ n = omega arith in
    range_more 0 n ∙ ap (λ (k : ℕ). range_with_len 0 n ++ k ∷ []) same

-- an access names a column that its table has
abbrev pub Has : List Relation → AccessWord → Type 0
Has tables a = IsSome (column_asked tables a)

-- ---- the first access that lacks its column

abbrev lacking_if : List Relation → ℕ → List AccessWord → Bool → Option ℕ
lacking_if tables number more b = cond b (first_lacking tables (number + 1) more) (Some number)

pub lacking_none : (tables : List Relation) (number : ℕ) → first_lacking tables number [] ≡ None
unfolding first_lacking
lacking_none tables number = refl

-- the accesses behind some that have their columns
pub lacking_behind : (tables : List Relation) (number : ℕ) (first more : List AccessWord) → All (Has tables) first
    → first_lacking tables number (first ++ more) ≡ first_lacking tables (number + length first) more
unfolding first_lacking
lacking_behind tables number [] more all =
    let here : number ≡ number + 0 = omega arith in
    ap (λ (n : ℕ). first_lacking tables n more) here
lacking_behind tables number (a ∷ first) more all =
    let here : (number + 1) + length first ≡ number + suc (length first) = omega arith in
    ap (lacking_if tables number (first ++ more)) (All-head (Has tables) a first all)
    ∙ lacking_behind tables (number + 1) first more (All-tail (Has tables) a first all)
    ∙ ap (λ (n : ℕ). first_lacking tables n more) here

pub lacking_here : (tables : List Relation) (asked : List AccessWord) (i : ℕ) (a : AccessWord) → i < length asked → a ≡ get_or asked i a
    → All (Has tables) (take i asked) → is_some (column_asked tables a) ≡ false → Some (i + 1) ≡ first_lacking tables 1 asked
unfolding first_lacking
lacking_here tables asked i a h is all none =
    let split : asked ≡ take i asked ++ (get_or asked i a ∷ drop (i + 1) asked) =
    sym (take-append-drop i asked) ∙ ap (λ (z : List AccessWord). take i asked ++ z) (drop_more asked i a h) in
    let place : 1 + length (take i asked) ≡ i + 1 = omega (arith, length-take-le i asked (omega arith)) in
    sym (ap (first_lacking tables 1) split ∙ lacking_behind tables 1 (take i asked) (get_or asked i a ∷ drop (i + 1) asked) all
    ∙ ap (λ (n : ℕ). first_lacking tables n (get_or asked i a ∷ drop (i + 1) asked)) place
    ∙ ap (λ (b : AccessWord). first_lacking tables (i + 1) (b ∷ drop (i + 1) asked)) (sym is)
    ∙ ap (lacking_if tables (i + 1) (drop (i + 1) asked)) none)

pub lacking_end : (tables : List Relation) (asked : List AccessWord) (i : ℕ) → length asked ≤ i → All (Has tables) (take i asked)
    → first_lacking tables 1 asked ≡ None
unfolding first_lacking
lacking_end tables asked i h all =
    let whole : asked ++ [] ≡ asked = append-nil asked in
    sym (ap (first_lacking tables 1) whole)
    ∙ lacking_behind tables 1 asked [] (subst (All (Has tables)) (take_all i asked h) all)

-- where none lacks it, all have it
pub all_have : (tables : List Relation) (number : ℕ) (asked : List AccessWord) → first_lacking tables number asked ≡ None → All (Has tables) asked
unfolding first_lacking
all_have tables number [] e = All-nil (Has tables)
all_have tables number (a ∷ more) e = by (all_have tables (number + 1) more) (is_some (column_asked tables a)) refl e
  where
    by : (first_lacking tables (number + 1) more ≡ None → All (Has tables) more) → (b : Bool) → is_some (column_asked tables a) ≡ b
        → lacking_if tables number more b ≡ None → All (Has tables) (a ∷ more)
    by rest true f g = All-cons (Has tables) a more f (rest g)
    by rest false f g = absurd cc

-- ---- how each table is reached

-- an access that is found fits its table
fits_found : (tables : List Relation) (table : ℕ) → table < length tables → (asked : List AccessWord) → All (Has tables) asked
    → FitsAlias tables (record { table = table; access = access_by tables (find (λ (a : AccessWord). eqb a.table table) asked) })
fits_found tables table h [] all = record { table = h; reached = inl refl; look_up = tt }
fits_found tables table h (a ∷ more) all =
    by (fits_found tables table h more (All-tail (Has tables) a more all)) (eqb a.table table) refl
  where
    look : (o : Option ℕ) → column_asked tables a ≡ o → a.table ≡ table → IfSome o (λ column. IsSome (column_kind tables table column))
    look None e same = tt
    look (Some column) e same =
        subst (λ (t : ℕ). IsSome (column_kind tables t column)) same
        (kind_at tables a.table column (position-within _ (columns_at tables a.table) column e))

    by : FitsAlias tables (record { table = table; access = access_by tables (find (λ (x : AccessWord). eqb x.table table) more) })
        → (b : Bool) → eqb a.table table ≡ b
        → FitsAlias tables (record { table = table; access = access_by tables (cond b (Some a) (find (λ (x : AccessWord). eqb x.table table) more)) })
    by rest true e = record {
      table = h;
      reached = inr (All-head (Has tables) a more all);
      look_up = look (column_asked tables a) refl (eqb-true a.table table e);
    }
    by rest false e = rest

-- a remote's look-up fits its table
fits_remote : (tables : List Relation) (table column : ℕ) → table < length tables → column_kind tables table column ≡ Some kind.Integer
    → FitsAlias tables (record { table = table; access = record { scan = false; look_up = Some column } })
fits_remote tables table column h e = record { table = h; reached = inr refl; look_up = ap is_some e }

-- the remote that is found has the table
remote_found : (tables : List Relation) (remotes : List Remote) (table i : ℕ) (r : Remote) → All (IsRemote tables) remotes → remote_of remotes table ≡ Some i
    → slice_get remotes i ≡ Some r → (r.table ≡ table) × IsRemote tables r
remote_found tables remotes table i r each e f =
    let found = position-Some (λ (s : Remote). eqb s.table table) remotes i r e in
    let is : get_or remotes i r ≡ r = get_or_from_slice_get remotes i r r f in (
      ap (λ (s : Remote). s.table) (sym is) ∙ eqb-true (get_or remotes i r).table table found.1,
      subst (IsRemote tables) is (All-get_or (IsRemote tables) remotes i r found.0 each),
    )

fits_reached : (tables : List Relation) (asked : List AccessWord) (remotes : List Remote) (table : ℕ) → table < length tables → All (Has tables) asked
    → All (IsRemote tables) remotes → FitsAlias tables (record { table = table; access = reach_to tables asked remotes table })
fits_reached tables asked remotes table h all each = by (remote_of remotes table) refl
  where
    other : FitsAlias tables (record { table = table; access = access_to tables asked table })
    other = fits_found tables table h asked all

    at : (i : ℕ) → remote_of remotes table ≡ Some i → (o : Option Remote) → slice_get remotes i ≡ o
        → FitsAlias tables (record { table = table; access = access_over o (access_to tables asked table) })
    at i e None f = other
    at i e (Some r) f =
        let found = remote_found tables remotes table i r each e f in
        fits_remote tables table r.column h (subst (λ (t : ℕ). column_kind tables t r.column ≡ Some kind.Integer) found.0 found.1.integer)

    by : (o : Option ℕ) → remote_of remotes table ≡ o
        → FitsAlias tables (record { table = table; access = access_over (option_and_then (slice_get remotes) o) (access_to tables asked table) })
    by None e = other
    by (Some i) e = at i e (slice_get remotes i) refl

length-accesses : (tables : List Relation) (asked : List AccessWord) (remotes : List Remote) → length (accesses_to tables asked remotes) ≡ length tables
length-accesses tables asked remotes =
    length-map (range_with_len 0 (length tables)) (reach_to tables asked remotes) ∙ length-range_with_len 0 (length tables)

-- the access of a table
access_at : (tables : List Relation) (asked : List AccessWord) (remotes : List Remote) (table : ℕ) (d : Access) → table < length tables
    → get_or (accesses_to tables asked remotes) table d ≡ reach_to tables asked remotes table
access_at tables asked remotes table d h =
    get_or-map-range_with_len (reach_to tables asked remotes) 0 (length tables) table table d h (omega arith)

pub accesses_fit : (tables : List Relation) (asked : List AccessWord) (remotes : List Remote) → All (Has tables) asked → All (IsRemote tables) remotes
    → AreAccesses tables (accesses_to tables asked remotes)
accesses_fit tables asked remotes all each = record { one_each = length-accesses tables asked remotes; fits = fits }
  where
    accesses : List Access
    accesses = accesses_to tables asked remotes

    fits : (table : ℕ) (access : Access) → slice_get accesses table ≡ Some access → FitsAlias tables (record { table = table; access = access })
    fits table access e =
        let within : table < length tables = omega (arith, slice_get_within accesses table access e, length-accesses tables asked remotes) in
        let is : get_or accesses table access ≡ access = get_or_from_slice_get accesses table access access e in
        subst (λ (x : Access). FitsAlias tables (record { table = table; access = x })) (sym (access_at tables asked remotes table access within) ∙ is)
        (fits_reached tables asked remotes table within all each)

pub accesses_reach : (tables : List Relation) (asked : List AccessWord) (remotes : List Remote) → All (IsRemote tables) remotes
    → AreReached remotes (accesses_to tables asked remotes)
accesses_reach tables asked remotes each table i r e f =
    let found = remote_found tables remotes table i r each e f in
    let within : table < length tables =
    subst (λ (t : ℕ). t < length tables) found.0 (slice_get_within tables r.table found.1.table found.1.is) in
    access_at tables asked remotes table scanned within
    ∙ ap (λ (o : Option ℕ). access_over (option_and_then (slice_get remotes) o) (access_to tables asked table)) e
    ∙ ap (λ (o : Option Remote). access_over o (access_to tables asked table)) f

pub accesses_ok : (tables : List Relation) (asked : List AccessWord) (remotes : List Remote) → first_lacking tables 1 asked ≡ None
    → ComesTo (accesses_read tables asked remotes) (Ok (accesses_to tables asked remotes))
unfolding accesses_read
accesses_ok tables asked remotes e = sym (ap (λ (o : Option ℕ). unless_lacking o (accesses_to tables asked remotes)) e)

-- an access that lacks its column is one of those that were asked for
lacking_within : (tables : List Relation) (number : ℕ) (asked : List AccessWord) (access : ℕ) → first_lacking tables number asked ≡ Some access
    → (number ≤ access) × (access < number + length asked)
unfolding first_lacking
lacking_within tables number [] access e = absurd cc
lacking_within tables number (a ∷ more) access e =
    by (lacking_within tables (number + 1) more access) (is_some (column_asked tables a)) e
  where
    by : (first_lacking tables (number + 1) more ≡ Some access → (number + 1 ≤ access) × (access < (number + 1) + length more)) → (b : Bool)
        → cond b (first_lacking tables (number + 1) more) (Some number) ≡ Some access → (number ≤ access) × (access < number + length (a ∷ more))
    by rest true f = let k = rest f in (omega (arith, k.0), omega (arith, k.1))
    by rest false f = let same : number ≡ access = cc in (omega (arith, same), omega (arith, same))

pub accesses_refused : (tables : List Relation) (asked : List AccessWord) (remotes : List Remote) (access : ℕ) → first_lacking tables 1 asked ≡ Some access
    → Refuses (counts 0 (length asked) 0) (ComesTo (accesses_read tables asked remotes) (Err (status.NoColumn access))) (status.NoColumn access)
unfolding accesses_read
accesses_refused tables asked remotes access e = record {
  may = sym (ap (λ (o : Option ℕ). unless_lacking o (accesses_to tables asked remotes)) e);
  early = record {
    between = tt;
    founded = tt;
    placed = tt;
    named = let within = lacking_within tables 1 asked access e in record { file = tt; access = (within.0, omega (arith, within.1)); remote = tt };
  };
}

-- ---- the access that names a table

-- whether an access names a table
abbrev pub names : ℕ → AccessWord → Bool
names table a = eqb a.table table

find_behind : (table : ℕ) (first more : List AccessWord) → find (names table) first ≡ None → find (names table) (first ++ more) ≡ find (names table) more
find_behind table [] more e = refl
find_behind table (a ∷ first) more e = by (find_behind table first more) (eqb a.table table) e
  where
    by : (find (names table) first ≡ None → find (names table) (first ++ more) ≡ find (names table) more) → (b : Bool)
        → cond b (Some a) (find (names table) first) ≡ None
        → cond b (Some a) (find (names table) (first ++ more)) ≡ find (names table) more
    by rest true f = absurd cc
    by rest false f = rest f

pub find_here : (table : ℕ) (asked : List AccessWord) (i : ℕ) (a : AccessWord) → i < length asked → a ≡ get_or asked i a
    → find (names table) (take i asked) ≡ None → a.table ≡ table → find (names table) asked ≡ Some a
find_here table asked i a h is none same =
    let split : asked ≡ take i asked ++ (get_or asked i a ∷ drop (i + 1) asked) =
    sym (take-append-drop i asked) ∙ ap (λ (z : List AccessWord). take i asked ++ z) (drop_more asked i a h) in
    ap (find (names table)) split ∙ find_behind table (take i asked) (get_or asked i a ∷ drop (i + 1) asked) none
    ∙ ap (λ (b : AccessWord). find (names table) (b ∷ drop (i + 1) asked)) (sym is)
    ∙ ap (λ (t : Bool). cond t (Some a) (find (names table) (drop (i + 1) asked))) (eq-eqb a.table table same)

pub find_next : (table : ℕ) (asked : List AccessWord) (i : ℕ) (a : AccessWord) → i < length asked → a ≡ get_or asked i a
    → find (names table) (take i asked) ≡ None → (a.table ≡ table → ⊥) → find (names table) (take (i + 1) asked) ≡ None
find_next table asked i a h is none other =
    ap (find (names table)) (take_more asked i a h) ∙ find_behind table (take i asked) (get_or asked i a ∷ []) none
    ∙ ap (λ (b : AccessWord). find (names table) (b ∷ [])) (sym is)
    ∙ ap (λ (t : Bool). cond t (Some a) None) (ne_eqb a.table table other)

pub access_found : (tables : List Relation) (asked : List AccessWord) (table : ℕ) (a : AccessWord) (look : Option ℕ) → find (names table) asked ≡ Some a
    → look ≡ column_asked tables a → record { scan = a.scan; look_up = look } ≡ access_to tables asked table
access_found tables asked table a look e f =
    ap (λ (o : Option ℕ). record { scan = a.scan; look_up = o }) f ∙ sym (ap (access_by tables) e)

-- one access more, where `to` says how a table is reached
pub accesses_next : (to : ℕ → Access) (table : ℕ) (old new : List Access) (x : Access)
    → old ≡ map to (range_with_len 0 table) → new ≡ old ++ x ∷ [] → x ≡ to table → new ≡ map to (range_with_len 0 (table + 1))
accesses_next to table old new x e f g =
    f ∙ ap (λ (xs : List Access). xs ++ x ∷ []) e ∙ ap (λ (y : Access). map to (range_with_len 0 table) ++ y ∷ []) g
    ∙ sym (map-append to (range_with_len 0 table) (table ∷ []))
    ∙ ap (map to) (sym (range_next table))

pub have_next : (tables : List Relation) (asked : List AccessWord) (i : ℕ) (a : AccessWord) (o : Option ℕ) (column : ℕ) → i < length asked → a ≡ get_or asked i a
    → All (Has tables) (take i asked) → o ≡ column_asked tables a → o ≡ Some column → All (Has tables) (take (i + 1) asked)
have_next tables asked i a o column h is all e f =
    All-same (Has tables) (take (i + 1) asked) (take i asked ++ a ∷ []) (take_more asked i a h ∙ ap (λ (b : AccessWord). take i asked ++ b ∷ []) (sym is))
    (All-push (Has tables) (take i asked) a all (subst (λ (x : Option ℕ). IsSome x) (sym f ∙ e) refl))

-- ---- there are no more accesses than tables

abbrev tables_of : List AccessWord → List ℕ
tables_of asked = map (λ (a : AccessWord). a.table) asked

eqb-flip : (a b : ℕ) → eqb a b ≡ eqb b a
eqb-flip a b = grind (arith, nat_tests)

others_differ : (table : ℕ) (xs : List AccessWord) → list_any (λ (b : AccessWord). eqb b.table table) xs ≡ false
    → AllByRecursion (λ y. eqb table y ≡ false) (tables_of xs)
others_differ table [] e = tt
others_differ table (a ∷ xs) e = by (others_differ table xs) (eqb a.table table) refl e
  where
    by : (list_any (λ (b : AccessWord). eqb b.table table) xs ≡ false → AllByRecursion (λ y. eqb table y ≡ false) (tables_of xs)) → (x : Bool) → eqb a.table table ≡ x → (x || list_any (λ (b : AccessWord). eqb b.table table) xs) ≡ false
        → AllByRecursion (λ y. eqb table y ≡ false) (a.table ∷ tables_of xs)
    by rest true f g = absurd (false≢true (sym g))
    by rest false f g = (eqb-flip table a.table ∙ f, rest g)

distinct : (xs : List AccessWord) → tables_differ xs ≡ true → IsDistinct eqb (tables_of xs)
unfolding tables_differ IsDistinct
distinct [] e = tt
distinct (a ∷ xs) e = by (distinct xs) (list_any (λ (b : AccessWord). eqb b.table a.table) xs) refl e
  where
    by : (tables_differ xs ≡ true → IsDistinct eqb (tables_of xs)) → (x : Bool) → list_any (λ (b : AccessWord). eqb b.table a.table) xs ≡ x → (not x && tables_differ xs) ≡ true
        → IsDistinct eqb (a.table ∷ tables_of xs)
    by rest true f g = absurd (false≢true g)
    by rest false f g = (others_differ a.table xs f, rest g)

below : (n : ℕ) (xs : List AccessWord) → All (IsAccess n) xs → (q : ℕ) → list_any (eqb q) (tables_of xs) ≡ true → q < n
below n [] all q e = absurd (false≢true e)
below n (a ∷ xs) all q e = by (below n xs (All-tail (IsAccess n) a xs all) q) (eqb q a.table) refl e
  where
    by : (list_any (eqb q) (tables_of xs) ≡ true → q < n) → (x : Bool) → eqb q a.table ≡ x → (x || list_any (eqb q) (tables_of xs)) ≡ true → q < n
    by rest true f g = subst (λ (k : ℕ). k < n) (sym (eqb-true q a.table f)) (All-head (IsAccess n) a xs all).table
    by rest false f g = rest g

pub few_accesses : (q : QueryWords) → IsQuery q → length q.accesses ≤ 16
few_accesses q h =
    let few = length-le_from_distinct_below (tables_of q.accesses) (length q.tables) (distinct q.accesses h.tables) (below (length q.tables) q.accesses h.accesses) in
    omega (arith, few, h.few, length-map q.accesses (λ (a : AccessWord). a.table))
