-- Tables in the places of those of remotes, and back.
use Rattle.std.proofs.Common.{◌≡◌, ◌≢◌, ℕ, zero, suc, ◌+◌, ◌<◌, ◌≤◌, List, [], ◌∷◌, ◌++◌, length, set, get_or, map, take, drop, Option, Some, None, refl, sym, ◌∙◌, ap, subst, arith, append-nil, append_assoc}
use Rattle.std.specs.Prelude.{All, AllPairs, IfSome, slice_get, slice_index_or}
use Rattle.std.specs.Option.{option_map_or}
use Rattle.std.proofs.Math.Seq.{drop-cons}
use Rattle.std.proofs.lemmas.List.{drop_all, length-map, length-set, map-append, map-set, nil_from_length, set-get_or, set-set, set_comm, take_all}
use Rattle.std.proofs.lemmas.List.Elements.{All-cons, All-head, All-nil, All-tail}
use Rattle.std.proofs.lemmas.Option.{get_or_from_slice_get, slice_get_within}
use Rattle.sq_value.specs.Relation.{Relation}
use Rattle.sq_value.specs.declared.table.Column.{Column}
use Rattle.catalogue.specs.Named.{NamedTables}
use Rattle.bag_meaning.proofs.PairLemmas.{AllPairs-head, AllPairs-tail}
use Rattle.remote_lookup.specs.Filled.{exchanged}
use Rattle.remote_lookup.specs.KeyFiles.{table_columns}
use Rattle.remote_lookup.specs.declared.remote.Remote.{Remote}
use Rattle.remote_lookup.proofs.GrowthLemmas.{take_next}
use Rattle.remote_lookup.proofs.PlaceLemmas.{get_set_other}
use Rattle.remote_answers.specs.Exchanged.{AreTablesOf, HaveColumns, HaveTables}

same_head : {X : Type 0} {x y : X} {xs ys : List X} → ◌≡◌ {A = List X} (x ∷ xs) (y ∷ ys) → x ≡ y
same_head e = cc

same_tail : {X : Type 0} {x y : X} {xs ys : List X} → ◌≡◌ {A = List X} (x ∷ xs) (y ∷ ys) → xs ≡ ys
same_tail e = cc

-- ---- the columns stay

-- the columns of each table
abbrev pub headings : List Relation → List (List Column)
headings tables = map (λ (t : Relation). t.columns) tables

by_headings : (tables : List Relation) (table : ℕ) → table_columns tables table ≡ get_or (headings tables) table []
by_headings [] table = refl
by_headings (t ∷ tables) zero = refl
by_headings (t ∷ tables) (suc table) = by_headings tables table

pub same_columns : (a b : List Relation) (table : ℕ) → headings a ≡ headings b → table_columns a table ≡ table_columns b table
same_columns a b table e = by_headings a table ∙ ap (λ (hs : List (List Column)). get_or hs table []) e ∙ sym (by_headings b table)

-- a table with the columns of the one whose place it takes
pub set_heading : (tables : List Relation) (table : ℕ) (t : Relation) → t.columns ≡ table_columns tables table → headings (set tables table t) ≡ headings tables
set_heading tables table t e =
    map-set (λ (u : Relation). u.columns) tables table t
    ∙ ap (set (headings tables) table) (e ∙ by_headings tables table)
    ∙ set-get_or (headings tables) table []

pub columns_over : (a b : List Relation) (remotes : List Remote) → headings a ≡ headings b
    → map (λ (r : Remote). table_columns a r.table) remotes ≡ map (λ (r : Remote). table_columns b r.table) remotes
columns_over a b [] e = refl
columns_over a b (r ∷ rs) e =
    ap (λ (c : List Column). c ∷ map (λ (s : Remote). table_columns a s.table) rs) (same_columns a b r.table e)
    ∙ ap (λ (cs : List (List Column)). table_columns b r.table ∷ cs) (columns_over a b rs e)

pub exchanged_headings : (tables : List Relation) (remotes : List Remote) (others : List Relation) → HaveColumns tables remotes others
    → headings (exchanged tables remotes others) ≡ headings tables
exchanged_headings tables [] others e = refl
exchanged_headings tables (r ∷ rs) [] e = refl
exchanged_headings tables (r ∷ rs) (t ∷ ts) e =
    let one : headings (set tables r.table t) ≡ headings tables = set_heading tables r.table t (same_head e) in
    exchanged_headings (set tables r.table t) rs ts (same_tail e ∙ sym (columns_over (set tables r.table t) tables rs one)) ∙ one

pub length-exchanged : (tables : List Relation) (remotes : List Remote) (others : List Relation) → length (exchanged tables remotes others) ≡ length tables
length-exchanged tables [] others = refl
length-exchanged tables (r ∷ rs) [] = refl
length-exchanged tables (r ∷ rs) (t ∷ ts) = length-exchanged (set tables r.table t) rs ts ∙ length-set tables r.table t

-- the tables of these remotes are as they were
abbrev pub AreAsTheyWere : List Relation → List Relation → List Remote → Type 0
AreAsTheyWere was now remotes = All (λ (r : Remote). slice_get now r.table ≡ slice_get was r.table) remotes

pub as_they_were : (tables : List Relation) (remotes : List Remote) → AreAsTheyWere tables tables remotes
as_they_were tables [] = All-nil (λ (r : Remote). slice_get tables r.table ≡ slice_get tables r.table)
as_they_were tables (r ∷ rs) = All-cons (λ (s : Remote). slice_get tables s.table ≡ slice_get tables s.table) r rs refl (as_they_were tables rs)

pub others_stay : (was now : List Relation) (table : ℕ) (t : Relation) (remotes : List Remote) → All (λ (r : Remote). table ≢ r.table) remotes
    → AreAsTheyWere was now remotes → AreAsTheyWere was (set now table t) remotes
others_stay was now table t [] apart h = All-nil (λ (r : Remote). slice_get (set now table t) r.table ≡ slice_get was r.table)
others_stay was now table t (r ∷ rs) apart h =
    All-cons (λ (s : Remote). slice_get (set now table t) s.table ≡ slice_get was s.table) r rs
    (get_set_other now table r.table t (All-head (λ (s : Remote). table ≢ s.table) r rs apart)
    ∙ All-head (λ (s : Remote). slice_get now s.table ≡ slice_get was s.table) r rs h)
    (others_stay was now table t rs (All-tail (λ (s : Remote). table ≢ s.table) r rs apart)
    (All-tail (λ (s : Remote). slice_get now s.table ≡ slice_get was s.table) r rs h))

-- the tables of remotes have the columns that others are to have
pub own_columns : (tables : List Relation) (remotes : List Remote) (own : List Relation) → AreTablesOf tables remotes own → HaveColumns tables remotes own
own_columns tables [] [] e = refl
own_columns tables [] (u ∷ us) e = absurd cc
own_columns tables (r ∷ rs) [] e = absurd cc
own_columns tables (r ∷ rs) (u ∷ us) e =
    ap (λ (c : List Column). c ∷ headings us) (ap (λ (o : Option Relation). option_map_or (λ (t : Relation). t.columns) o []) (same_head e))
    ∙ ap (λ (cs : List (List Column)). table_columns tables r.table ∷ cs) (own_columns tables rs us (same_tail e))

-- ---- halfway

-- the tables of the first remotes, so many, are exchanged: those that came stand behind those that are still to be set
pub record IsHalfway (was now : List Relation) (remotes : List Remote) (all items : List Relation) (k : ℕ) : Type 0 where
  pub rest : List Relation
  pub own : List Relation
  pub split : items ≡ rest ++ own
  pub count : k + length rest ≡ length remotes
  pub same : headings now ≡ headings was
  pub columns : HaveColumns was (drop k remotes) rest
  pub left : exchanged now (drop k remotes) rest ≡ exchanged was remotes all
  pub given : map Some own ≡ map (λ (r : Remote). slice_get was r.table) (take k remotes)
  pub apart : AllPairs (λ (a b : Remote). a.table ≢ b.table) (drop k remotes)
  pub others : AreAsTheyWere was now (drop k remotes)

-- there are as many
pub as_many : (tables : List Relation) (remotes : List Remote) (others : List Relation) → HaveColumns tables remotes others → length others ≡ length remotes
as_many tables remotes others columns =
    sym (length-map others (λ (t : Relation). t.columns)) ∙ ap (λ (cs : List (List Column)). length cs) columns
    ∙ length-map remotes (λ (r : Remote). table_columns tables r.table)

pub halfway_none : (tables : List Relation) (remotes : List Remote) (all : List Relation) → HaveTables tables remotes → HaveColumns tables remotes all
    → IsHalfway tables tables remotes all all 0
halfway_none tables remotes all have columns = record {
  rest = all;
  own = [];
  split = sym (append-nil all);
  count = let many = as_many tables remotes all columns in omega (arith, many);
  same = refl;
  columns = columns;
  left = refl;
  given = refl;
  apart = have.differ;
  others = as_they_were tables remotes;
}

-- the next table, and where it is set
pub record Next (was now : List Relation) (remotes : List Remote) (all items : List Relation) (k : ℕ) (r : Remote) : Type 0 where
  pub t : Relation
  pub more : List Relation
  pub is : items ≡ t ∷ more
  pub columns : t.columns ≡ table_columns now r.table
  pub goes : (old : Relation) → slice_get now r.table ≡ Some old → IsHalfway was (set now r.table t) remotes all (more ++ old ∷ []) (k + 1)

pub drop_next : {X : Type 0} (xs : List X) (k : ℕ) (x : X) → slice_get xs k ≡ Some x → drop k xs ≡ x ∷ drop (suc k) xs
drop_next {X} xs k x e =
    drop-cons xs k x (slice_get_within xs k x e)
    ∙ ap (λ (y : X). y ∷ drop (suc k) xs) (get_or_from_slice_get xs k x x e)

pub halfway_next : (was now : List Relation) (remotes : List Remote) (all items : List Relation) (k : ℕ) (r : Remote)
    → IsHalfway was now remotes all items k → slice_get remotes k ≡ Some r → Next was now remotes all items k r
halfway_next was now remotes all items k r h e = by h.rest h.split h.count h.columns h.left
  where
    here : drop k remotes ≡ r ∷ drop (suc k) remotes
    here = drop_next remotes k r e

    low : k < length remotes
    low = slice_get_within remotes k r e

    one : suc k ≡ k + 1
    one = omega arith

    by : (rest : List Relation) → items ≡ rest ++ h.own → k + length rest ≡ length remotes → HaveColumns was (drop k remotes) rest
        → exchanged now (drop k remotes) rest ≡ exchanged was remotes all → Next was now remotes all items k r
    by [] split count columns left = absurd (omega (arith, count, low))
    by (t ∷ more) split count columns left = record {
      t = t;
      more = more ++ h.own;
      is = split;
      columns = same_head heads ∙ sym (same_columns now was r.table h.same);
      goes = λ old there. subst (λ (n : ℕ). IsHalfway was (set now r.table t) remotes all ((more ++ h.own) ++ old ∷ []) n) one (record {
        rest = more;
        own = h.own ++ old ∷ [];
        split = append_assoc more h.own (old ∷ []);
        count = omega (arith, count);
        same = set_heading now r.table t (same_head heads ∙ sym (same_columns now was r.table h.same)) ∙ h.same;
        columns = same_tail heads;
        left = ap (λ (rs : List Remote). exchanged now rs (t ∷ more)) (sym here) ∙ left;
        given = given old there;
        apart = AllPairs-tail (λ (a b : Remote). a.table ≢ b.table) r (drop (suc k) remotes) apart;
        others = others_stay was now r.table t (drop (suc k) remotes)
            (AllPairs-head (λ (a b : Remote). a.table ≢ b.table) r (drop (suc k) remotes) apart)
            (All-tail (λ (s : Remote). slice_get now s.table ≡ slice_get was s.table) r (drop (suc k) remotes) others);
      });
    }
      where
        heads : HaveColumns was (r ∷ drop (suc k) remotes) (t ∷ more)
        heads = subst (λ (rs : List Remote). HaveColumns was rs (t ∷ more)) here columns

        apart : AllPairs (λ (a b : Remote). a.table ≢ b.table) (r ∷ drop (suc k) remotes)
        apart = subst (AllPairs (λ (a b : Remote). a.table ≢ b.table)) here h.apart

        others : AreAsTheyWere was now (r ∷ drop (suc k) remotes)
        others = subst (AreAsTheyWere was now) here h.others

        given : (old : Relation) → slice_get now r.table ≡ Some old
            → map Some (h.own ++ old ∷ []) ≡ map (λ (s : Remote). slice_get was s.table) (take (suc k) remotes)
        given old there =
            map-append Some h.own (old ∷ [])
            ∙ ap (λ (os : List (Option Relation)). os ++ Some old ∷ []) h.given
            ∙ ap (λ (o : Option Relation). map (λ (s : Remote). slice_get was s.table) (take k remotes) ++ o ∷ [])
            (sym there ∙ All-head (λ (s : Remote). slice_get now s.table ≡ slice_get was s.table) r (drop (suc k) remotes) others)
            ∙ sym (map-append (λ (s : Remote). slice_get was s.table) (take k remotes) (r ∷ []))
            ∙ ap (map (λ (s : Remote). slice_get was s.table)) (sym (take_next remotes k r e))
            ∙ ap (λ (n : ℕ). map (λ (s : Remote). slice_get was s.table) (take n remotes)) (sym one)

-- the first of these tables, and the others
first_of : (items : List Relation) (t : Relation) (more : List Relation) (x : Relation) → items ≡ t ∷ more → x ≡ slice_index_or items 0 x → x ≡ t
first_of items t more x e is = is ∙ ap (λ (l : List Relation). slice_index_or l 0 x) e

others_of : (items : List Relation) (t : Relation) (more left : List Relation) → items ≡ t ∷ more → left ≡ take 0 items ++ drop 1 items → left ≡ more
others_of items t more left e is = is ∙ ap (λ (l : List Relation). take 0 l ++ drop 1 l) e

module _ (was now : List Relation) (remotes : List Remote) (all items : List Relation) (k : ℕ) (r : Remote)
    (h : IsHalfway was now remotes all items k) (at : slice_get remotes k ≡ Some r) where
  next : Next was now remotes all items k r
  next = halfway_next was now remotes all items k r h at

  -- there is a table
  pub some_item : 0 < length items
  some_item = subst (λ (l : List Relation). 0 < length l) (sym next.is) (omega arith)

  -- it has the columns of the one whose place it takes
  pub may_set : (x : Relation) → x ≡ slice_index_or items 0 x → IfSome (slice_get now r.table) (λ (old : Relation). x.columns ≡ old.columns)
  may_set x is = by (slice_get now r.table) (ap (λ (t : Relation). t.columns) (first_of items next.t next.more x next.is is) ∙ next.columns)
    where
      by : (o : Option Relation) → x.columns ≡ option_map_or (λ (t : Relation). t.columns) o [] → IfSome o (λ (old : Relation). x.columns ≡ old.columns)
      by None e = tt
      by (Some old) e = e

  pub halfway_more : (x old : Relation) (left now' items' : List Relation) → x ≡ slice_index_or items 0 x → left ≡ take 0 items ++ drop 1 items
      → slice_get now r.table ≡ Some old → now' ≡ set now r.table x → items' ≡ left ++ old ∷ [] → IsHalfway was now' remotes all items' (k + 1)
  halfway_more x old left now' items' is others there e f =
      let to : now' ≡ set now r.table next.t = e ∙ ap (set now r.table) (first_of items next.t next.more x next.is is) in
      let all' : items' ≡ next.more ++ old ∷ [] = f ∙ ap (λ (l : List Relation). l ++ old ∷ []) (others_of items next.t next.more left next.is others) in
      subst (λ (ts : List Relation). IsHalfway was ts remotes all items' (k + 1)) (sym to)
      (subst (λ (l : List Relation). IsHalfway was (set now r.table next.t) remotes all l (k + 1)) (sym all') (next.goes old there))

-- at the end all are
pub halfway_all : (was now : List Relation) (remotes : List Remote) (all items : List Relation) (k : ℕ) → length remotes ≤ k
    → IsHalfway was now remotes all items k → (now ≡ exchanged was remotes all) × AreTablesOf was remotes items
halfway_all was now remotes all items k high h = (left, given)
  where
    none : h.rest ≡ []
    none = nil_from_length h.rest (omega (arith, h.count, high))

    over : drop k remotes ≡ []
    over = drop_all k remotes high

    left : now ≡ exchanged was remotes all
    left = ap (λ (rs : List Remote). exchanged now rs h.rest) (sym over) ∙ h.left

    given : AreTablesOf was remotes items
    given =
        ap (map Some) (h.split ∙ ap (λ (xs : List Relation). xs ++ h.own) none) ∙ h.given
        ∙ ap (map (λ (r : Remote). slice_get was r.table)) (take_all k remotes high)

-- ---- and back

set_before : (tables : List Relation) (remotes : List Remote) (others : List Relation) (table : ℕ) (t : Relation) → All (λ (r : Remote). table ≢ r.table) remotes
    → exchanged (set tables table t) remotes others ≡ set (exchanged tables remotes others) table t
set_before tables [] others table t h = refl
set_before tables (r ∷ rs) [] table t h = refl
set_before tables (r ∷ rs) (u ∷ us) table t h =
    ap (λ (ts : List Relation). exchanged ts rs us) (set_comm tables table r.table t u (All-head (λ (s : Remote). table ≢ s.table) r rs h))
    ∙ set_before (set tables r.table u) rs us table t (All-tail (λ (s : Remote). table ≢ s.table) r rs h)

some_same : {X : Type 0} {x y : X} → ◌≡◌ {A = Option X} (Some x) (Some y) → x ≡ y
some_same e = cc

set_own : (tables : List Relation) (table : ℕ) (t : Relation) → Some t ≡ slice_get tables table → set tables table t ≡ tables
set_own tables table t e =
    ap (set tables table) (sym (get_or_from_slice_get tables table t t (sym e))) ∙ set-get_or tables table t

pub exchanged_back : (tables : List Relation) (remotes : List Remote) (others own : List Relation) → AllPairs (λ (a b : Remote). a.table ≢ b.table) remotes
    → length others ≡ length remotes → AreTablesOf tables remotes own → exchanged (exchanged tables remotes others) remotes own ≡ tables
exchanged_back tables [] others own differ long are = refl
exchanged_back tables (r ∷ rs) [] own differ long are = absurd (omega (arith, long))
exchanged_back tables (r ∷ rs) (t ∷ ts) [] differ long are = absurd cc
exchanged_back tables (r ∷ rs) (t ∷ ts) (u ∷ us) differ long are =
    let apart = AllPairs-head (λ (a b : Remote). a.table ≢ b.table) r rs differ in
    ap (λ (l : List Relation). exchanged l rs us) (sym (set_before (set tables r.table t) rs ts r.table u apart))
    ∙ ap (λ (l : List Relation). exchanged (exchanged l rs ts) rs us) (set-set tables r.table t u ∙ set_own tables r.table u (same_head are))
    ∙ exchanged_back tables rs ts us (AllPairs-tail (λ (a b : Remote). a.table ≢ b.table) r rs differ) (omega (arith, long)) (same_tail are)

-- the exchanged tables may be exchanged back
pub have_exchanged : (tables : List Relation) (remotes : List Remote) (others : List Relation) → HaveTables tables remotes
    → HaveTables (exchanged tables remotes others) remotes
have_exchanged tables remotes others h = record {
  there = subst (λ (n : ℕ). All (λ (r : Remote). r.table < n) remotes) (sym (length-exchanged tables remotes others)) h.there;
  differ = h.differ;
}

pub columns_back : (tables : List Relation) (remotes : List Remote) (others own : List Relation) → HaveColumns tables remotes others
    → AreTablesOf tables remotes own → HaveColumns (exchanged tables remotes others) remotes own
columns_back tables remotes others own columns are =
    own_columns tables remotes own are
    ∙ columns_over tables (exchanged tables remotes others) remotes (sym (exchanged_headings tables remotes others columns))

-- a catalogue with these tables
abbrev pub with_tables : NamedTables → List Relation → NamedTables
with_tables catalogue tables = record catalogue { tables = tables }

pub catalogue_back : (old mid new : NamedTables) (remotes : List Remote) (others own : List Relation) → HaveTables old.tables remotes
    → HaveColumns old.tables remotes others → mid ≡ with_tables old (exchanged old.tables remotes others) → AreTablesOf old.tables remotes own
    → new ≡ with_tables mid (exchanged mid.tables remotes own) → new ≡ old
catalogue_back old mid new remotes others own have columns e are f =
    f ∙ ap (λ (c : NamedTables). with_tables c (exchanged c.tables remotes own)) e
    ∙ ap (with_tables old) (exchanged_back old.tables remotes others own have.differ (as_many old.tables remotes others columns) are)
