-- The table of a file from its heading and the records below it.
use Rattle.std.proofs.Common.{◌≡◌, ◌≢◌, ℕ, suc, ◌+◌, ◌<◌, ◌≤◌, Bool, true, false, List, [], ◌∷◌, ◌++◌, length, map, fold, Option, Some, None, Result, Ok, Err, cond, refl, sym, ap, ◌∙◌, subst, arith}
use Rattle.std.specs.Prelude.{All, IfErr, IfOk, OnOk, not, nat_eq, codes, option_map, ⊤, ◌==◌}
use Rattle.std.specs.List.{list_any}
use Rattle.std.specs.Str.{is_utf8}
use Rattle.std.specs.Cmp.Lexicographic.{pointwise}
use Rattle.std.proofs.lemmas.Bool.{eq-eqb, eqb-true, le-ltb, lt-ltb, or_from, or_parts, true≢false}
use Rattle.std.proofs.lemmas.List.Elements.{All-nil, All-cons}
use Rattle.sq_value.specs.Name.{IsSameName, is_same_name, lower}
use Rattle.sq_value.specs.Relation.{IsHeading, NamesDiffer, Relation}
use Rattle.sq_value.specs.declared.table.Column.{Column}
use Rattle.sq_value.specs.declared.value.ColType.{ColType}
use Rattle.sq_value.specs.declared.value.ColType.TheVariants as kind
use Rattle.table_csv.specs.declared.fault.TableFault.{TableFault}
use Rattle.table_csv.specs.declared.fault.TableFault.TheVariants as fault
use Rattle.table_csv.specs.declared.types.Seen.{Seen}
use Rattle.table_csv.specs.Fields.{earlier_of, records_fault, values_of}
use Rattle.table_csv.specs.Headed.{HasColumns, IsHeaded}
use Rattle.table_csv.specs.Heading.{columns_from, heading_fault, name_fault, type_of_column}
use Rattle.table_csv.specs.Marks.{column_name, ends, marked_kind}
use Rattle.table_csv.specs.Reading.{GivesNext}
use Rattle.table_csv.specs.TableFile.{table_below, table_of_records}
use Rattle.table_csv.specs.Work.{ScaleFits, ScalesFit, all_learned, heads_from}

-- no record was there
pub no_heading : (rows more : List (List (List ℕ))) (found : Bool) (fs : List (List ℕ)) → GivesNext rows found fs more → found ≡ false
    → table_of_records rows ≡ Err fault.NoHeading
unfolding table_of_records
no_heading rows more true fs g e = absurd cc
no_heading rows more false fs g e = ap table_of_records g

-- the first record had no field
pub empty_heading : (rows more : List (List (List ℕ))) (found : Bool) (fs : List (List ℕ)) → GivesNext rows found fs more → found ≡ true → (length fs == 0) ≡ true
    → table_of_records rows ≡ Err fault.NoHeading
unfolding table_of_records
empty_heading rows more true [] g e n = ap table_of_records g
empty_heading rows more true (f ∷ fs) g e n =
    let none : length (f ∷ fs) ≡ 0 = eqb-true _ 0 n in
    absurd (omega arith)
empty_heading rows more false fs g e n = absurd cc

-- a heading was read
pub table_is : (rows more : List (List (List ℕ))) (found : Bool) (fs : List (List ℕ)) → GivesNext rows found fs more → found ≡ true → (length fs == 0) ≡ false
    → table_of_records rows ≡ table_below fs more
unfolding table_of_records
table_is rows more true [] g e n = absurd cc
table_is rows more true (f ∷ fs) g e n = ap table_of_records g
table_is rows more false fs g e n = absurd cc

pub headed_is : (rows more : List (List (List ℕ))) (found : Bool) (fs : List (List ℕ)) (cs : List Column) → GivesNext rows found fs more → found ≡ true
    → (length fs == 0) ≡ false → HasColumns fs more cs → IsHeaded rows cs
headed_is rows more true [] cs g e n h = absurd cc
headed_is rows more true (f ∷ fs) cs g e n h = subst (λ rs. IsHeaded rs cs) (sym g) h
headed_is rows more false fs cs g e n h = absurd cc

-- what the first of the records is, where it is a heading without a fault
pub headed-next : (rows more : List (List (List ℕ))) (found : Bool) (fs : List (List ℕ)) (cs : List Column) → GivesNext rows found fs more → IsHeaded rows cs
    → HasColumns fs more cs × (0 < length fs) × (table_of_records rows ≡ table_below fs more)
unfolding table_of_records
headed-next rows more true [] cs g h = absurd (subst (λ rs. IsHeaded rs cs) g h)
headed-next rows more true (f ∷ fs) cs g h = (subst (λ rs. IsHeaded rs cs) g h, omega arith, ap table_of_records g)
headed-next rows more false fs cs g h = absurd (subst (λ rs. IsHeaded rs cs) g h)

-- the faults of a heading
pub too_many : (fs : List (List ℕ)) (more : List (List (List ℕ))) → 64 < length fs → table_below fs more ≡ Err fault.TooManyColumns
too_many fs more h = rw (lt-ltb 64 (length fs) h) refl

pub heading_faulty : (fs : List (List ℕ)) (more : List (List (List ℕ))) (f : TableFault) → length fs ≤ 64 → heading_fault [] 1 fs ≡ Some f → table_below fs more ≡ Err f
heading_faulty fs more f h e = rw (le-ltb 64 (length fs) h, e) refl

-- the table below a heading without a fault
pub table_ok : (fs : List (List ℕ)) (more : List (List (List ℕ))) (cs : List Column) → HasColumns fs more cs → records_fault 1 cs more ≡ None
    → table_below fs more ≡ Ok record { columns = cs; rows = map (values_of cs) more }
table_ok fs more cs h e =
    let none : records_fault 1 (columns_from 0 fs more) more ≡ None = ap (λ (ds : List Column). records_fault 1 ds more) (sym h.columns_are) ∙ e in
    rw (le-ltb 64 (length fs) h.few, h.taken, none)
    (ap (λ (ds : List Column). Ok record { columns = ds; rows = map (values_of ds) more }) (sym h.columns_are))

pub table_faulty : (fs : List (List ℕ)) (more : List (List (List ℕ))) (cs : List Column) (f : TableFault) → HasColumns fs more cs → records_fault 1 cs more ≡ Some f
    → table_below fs more ≡ Err f
table_faulty fs more cs f h e =
    let some : records_fault 1 (columns_from 0 fs more) more ≡ Some f = ap (λ (ds : List Column). records_fault 1 ds more) (sym h.columns_are) ∙ e in
    rw (le-ltb 64 (length fs) h.few, h.taken, some) refl

-- the answers of reading the rows are those of the table
pub rows_ok : (r : Result Relation TableFault) (cs : List Column) (t : Relation) (rows more : List (List (List ℕ))) (fs : List (List ℕ))
    → t ≡ record { columns = cs; rows = [] } → table_of_records rows ≡ table_below fs more → HasColumns fs more cs
    → IfOk r (λ read. read ≡ record t { rows = map (values_of t.columns) more }) → OnOk r (records_fault 1 t.columns more ≡ None)
    → IfOk r (λ table. table_of_records rows ≡ Ok table)
rows_ok (Err f) cs t rows more fs is same h read taken = tt
rows_ok (Ok u) cs t rows more fs is same h read taken =
    let none : records_fault 1 cs more ≡ None = ap (λ (x : Relation). records_fault 1 x.columns more) (sym is) ∙ taken in
    let table : record { columns = cs; rows = map (values_of cs) more } ≡ u =
    sym (read ∙ ap (λ (x : Relation). record x { rows = map (values_of x.columns) more }) is) in
    same ∙ table_ok fs more cs h none ∙ ap (λ (x : Relation). Ok x) table

pub rows_faulty : (r : Result Relation TableFault) (cs : List Column) (t : Relation) (rows more : List (List (List ℕ))) (fs : List (List ℕ))
    → t ≡ record { columns = cs; rows = [] } → table_of_records rows ≡ table_below fs more → HasColumns fs more cs
    → IfErr r (λ f. f ≢ fault.Memory → records_fault 1 t.columns more ≡ Some f)
    → IfErr r (λ f. f ≢ fault.Memory → table_of_records rows ≡ Err f)
rows_faulty (Ok u) cs t rows more fs is same h faulty = tt
rows_faulty (Err f) cs t rows more fs is same h faulty = λ ne.
    same ∙ table_faulty fs more cs f h (ap (λ (x : Relation). records_fault 1 x.columns more) (sym is) ∙ faulty ne)

pub if_ok-map : {V : Type 0} (r : Result V TableFault) (P Q : V → Type 0) → ((v : V) → P v → Q v) → IfOk r P → IfOk r Q
if_ok-map (Ok v) P Q f h = f v h
if_ok-map (Err e) P Q f h = tt

-- how many columns there are
columns-length : (place : ℕ) (fs : List (List ℕ)) (records : List (List (List ℕ))) → length (columns_from place fs records) ≡ length fs
unfolding columns_from
columns-length place [] records = refl
columns-length place (f ∷ fs) records = ap (λ n. suc n) (columns-length (place + 1) fs records)

pub all_learned-length : (ss : List Seen) (fs : List (List ℕ)) → length (all_learned ss fs) ≡ length ss
unfolding all_learned
all_learned-length [] fs = refl
all_learned-length (s ∷ ss) [] = refl
all_learned-length (s ∷ ss) (f ∷ fs) = ap (λ n. suc n) (all_learned-length ss fs)

pub learned-length : (ss : List Seen) (records : List (List (List ℕ))) → length (fold all_learned ss records) ≡ length ss
learned-length ss [] = refl
learned-length ss (r ∷ rs) = learned-length (all_learned ss r) rs ∙ all_learned-length ss r

pub heads-length : (number : ℕ) (fs : List (List ℕ)) → length (heads_from number fs) ≡ length fs
unfolding heads_from
heads-length number [] = refl
heads-length number (f ∷ fs) = ap (λ n. suc n) (heads-length (number + 1) fs)

-- the scale of a mark is at most 6
scale-fits : (place : ℕ) (f : List ℕ) (records : List (List (List ℕ))) → ScaleFits (type_of_column place f records (marked_kind f))
scale-fits place f records =
    by (ends (codes ":int") f) (ends (codes ":text") f) (ends (codes ":dec0") f) (ends (codes ":dec1") f) (ends (codes ":dec2") f) (ends (codes ":dec3") f)
    (ends (codes ":dec4") f) (ends (codes ":dec5") f) (ends (codes ":dec6") f)
  where
    free : (b : Bool) → ScaleFits (cond b kind.Integer kind.Text)
    free true = tt
    free false = tt

    -- the scales from 3 on, and those from 0 on
    scale3 : Bool → Bool → Bool → Bool → Option ℕ
    scale3 d3 d4 d5 d6 = cond d3 (Some 3) (cond d4 (Some 4) (cond d5 (Some 5) (cond d6 (Some 6) None)))

    scale : (d3 d4 d5 d6 : Bool) → ScaleFits (type_of_column place f records (option_map kind.Decimal (scale3 d3 d4 d5 d6)))
    scale true d4 d5 d6 = omega arith
    scale false true d5 d6 = omega arith
    scale false false true d6 = omega arith
    scale false false false true = omega arith
    scale false false false false = free _

    kind_of : Bool → Bool → Bool → Bool → Bool → Option ℕ → Option ColType
    kind_of b1 b2 d0 d1 d2 later =
        cond b1 (Some kind.Integer)
        (cond b2 (Some kind.Text) (option_map kind.Decimal (cond d0 (Some 0) (cond d1 (Some 1) (cond d2 (Some 2) later)))))

    by : (b1 b2 d0 d1 d2 d3 d4 d5 d6 : Bool) → ScaleFits (type_of_column place f records (kind_of b1 b2 d0 d1 d2 (scale3 d3 d4 d5 d6)))
    by true b2 d0 d1 d2 d3 d4 d5 d6 = tt
    by false true d0 d1 d2 d3 d4 d5 d6 = tt
    by false false true d1 d2 d3 d4 d5 d6 = omega arith
    by false false false true d2 d3 d4 d5 d6 = omega arith
    by false false false false true d3 d4 d5 d6 = omega arith
    by false false false false false d3 d4 d5 d6 = scale d3 d4 d5 d6

ScalesFit-from : (place : ℕ) (fs : List (List ℕ)) (records : List (List (List ℕ))) → ScalesFit (columns_from place fs records)
unfolding columns_from
ScalesFit-from place [] records = All-nil _
ScalesFit-from place (f ∷ fs) records =
    All-cons (λ (c : Column). ScaleFits c.kind) _ (columns_from (place + 1) fs records) (scale-fits place f records) (ScalesFit-from (place + 1) fs records)

pub ScalesFit-columns : (fs : List (List ℕ)) (more : List (List (List ℕ))) (cs : List Column) → HasColumns fs more cs → ScalesFit cs
ScalesFit-columns fs more cs h = subst ScalesFit (sym h.columns_are) (ScalesFit-from 0 fs more)

-- none of the columns has one of these names
FreshOf : List (List ℕ) → List Column → Type 0
FreshOf earlier [] = ⊤
FreshOf earlier (c ∷ cs) = (list_any (is_same_name c.name) earlier ≡ false) × FreshOf earlier cs

any-parts : (p : List ℕ → Bool) (xs ys : List (List ℕ)) → list_any p (xs ++ ys) ≡ false → (list_any p xs ≡ false) × (list_any p ys ≡ false)
any-parts p [] ys e = (refl, e)
any-parts p (x ∷ xs) ys e =
    let parts = or_parts (p x) (list_any p (xs ++ ys)) e in
    let rest = any-parts p xs ys parts.1 in
    (or_from (p x) (list_any p xs) parts.0 rest.0, rest.1)

fresh-left : (xs ys : List (List ℕ)) (cs : List Column) → FreshOf (xs ++ ys) cs → FreshOf xs cs
unfolding FreshOf
fresh-left xs ys [] h = tt
fresh-left xs ys (c ∷ cs) h = ((any-parts (is_same_name c.name) xs ys h.0).0, fresh-left xs ys cs h.1)

same_bytes : (xs : List ℕ) → pointwise nat_eq xs xs ≡ true
same_bytes [] = refl
same_bytes (x ∷ xs) = rw (eq-eqb x x refl) (same_bytes xs)

same_name-true : (x y : List ℕ) → IsSameName x y → is_same_name x y ≡ true
same_name-true x y e = rw e (same_bytes (lower y))

fresh-right : (xs : List (List ℕ)) (name : List ℕ) (cs : List Column) → FreshOf (xs ++ name ∷ []) cs → All (λ (d : Column). ¬ (IsSameName name d.name)) cs
unfolding FreshOf
fresh-right xs name [] h = All-nil _
fresh-right xs name (c ∷ cs) h =
    let one = (or_parts (is_same_name c.name name) false (any-parts (is_same_name c.name) xs (name ∷ []) h.0).1).0 in
    All-cons (λ (d : Column). ¬ (IsSameName name d.name)) c cs (λ same. true≢false (sym (same_name-true c.name name (sym same)) ∙ one)) (fresh-right xs name cs h.1)

first-none : (a b : Option TableFault) → earlier_of a b ≡ None → (a ≡ None) × (b ≡ None)
first-none None b e = (refl, e)
first-none (Some f) b e = absurd cc

name-free : (earlier : List (List ℕ)) (number : ℕ) (f : List ℕ) → name_fault earlier number f ≡ None → list_any (is_same_name (column_name number f)) earlier ≡ false
name-free earlier number f e = by (is_utf8 f) (list_any (is_same_name (column_name number f)) earlier) e
  where
    by : (u a : Bool) → cond (not u) (Some (fault.NotUtf8 0 number)) (cond a (Some (fault.RepeatedColumn number)) None) ≡ None → a ≡ false
    by true true e = absurd cc
    by true false e = refl
    by false a e = absurd cc

-- the names of a heading without a fault differ
names-differ : (earlier : List (List ℕ)) (place : ℕ) (fs : List (List ℕ)) (records : List (List (List ℕ))) → heading_fault earlier (place + 1) fs ≡ None
    → FreshOf earlier (columns_from place fs records) × NamesDiffer (columns_from place fs records)
unfolding columns_from heading_fault FreshOf
names-differ earlier place [] records e = (tt, tt)
names-differ earlier place (f ∷ fs) records e =
    let name = column_name (place + 1) f in
    let parts = first-none _ _ e in
    let rest = names-differ (earlier ++ name ∷ []) (place + 1) fs records parts.1 in
    let cs = columns_from (place + 1) fs records in
    ((name-free earlier (place + 1) f parts.0, fresh-left earlier (name ∷ []) cs rest.0), (fresh-right earlier name cs rest.0, rest.1))

pub IsHeading-columns : (fs : List (List ℕ)) (more : List (List (List ℕ))) (cs : List Column) → HasColumns fs more cs → 0 < length fs → IsHeading cs
IsHeading-columns fs more cs h some =
    let long = columns-length 0 fs more in
    subst IsHeading (sym h.columns_are) record {
      some = omega (arith, long);
      few = omega (arith, long, h.few);
      differ = (names-differ [] 0 fs more h.taken).1;
    }
