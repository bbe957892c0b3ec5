-- Files that are loaded, and the tables of words, in order.
use Rattle.std.proofs.Common.{◌≡◌, ◌≢◌, ℕ, suc, ◌+◌, ◌<◌, ◌≤◌, Bool, cond, List, [], ◌∷◌, ◌++◌, length, take, drop, get_or, Option, Some, None, Result, Ok, Err, refl, sym, ◌∙◌, ap, subst, ◌⊎◌, inl, inr, arith, append_assoc}
use Rattle.std.specs.Prelude.{option_map, map, IsSome, IsOk}
use Rattle.std.proofs.lemmas.List.{take_all, take_more, take-append-drop, length-append, length-map, length-take, length-take-le, map-append}
use Rattle.std.proofs.Math.Seq.{take-append_seam}
use Rattle.std.proofs.lemmas.Bool.{lt-ltb, le-ltb, cases_lt}
use Rattle.outside.specs.Files.{File, lookup, Gives as Loads, Lacks}
use Rattle.run_plan.specs.Given.{IsFileGiven}
use Rattle.outside.specs.Faults.{NeverFalls, RoseOrFull}
use Rattle.outside.specs.declared.fault.LoadFault.{LoadFault}
use Rattle.outside.specs.declared.fault.LoadFault.TheVariants as load
use Rattle.sq_value.specs.Name.{lower}
use Rattle.sq_value.specs.Relation.{Relation}
use Rattle.table_csv.specs.TableFile.{table_of_bytes}
use Rattle.table_csv.specs.declared.fault.TableFault.{TableFault}
use Rattle.table_csv.specs.declared.fault.TableFault.TheVariants as table
use Rattle.catalogue.specs.Named.{NamedTables, with_table}
use Rattle.command_line.specs.declared.command.TableWord.{TableWord}
use Rattle.run_plan.specs.Doing.{Went, Stopped, Refuses}
use Rattle.run_plan.specs.Faults.{Sort, Plain, PastLimit, NoMemory, table_sort, table_status, by_sort}
use Rattle.run_plan.specs.Files.{short_text, file_read, table_read, tables_read, catalogue_of, catalogue_read}
use Rattle.run_plan.specs.Loaded.{load_status}
use Rattle.run_plan.specs.Prepared.{ReachedTable}
use Rattle.run_plan.specs.Stage.{Before, phase_of_file}
use Rattle.run_base.specs.Seen.{Folder}
use Rattle.run_plan.specs.Steps.{◌>>=◌, ComesTo, or_refuse, or_fault}
use Rattle.run_plan.specs.declared.status.Status.{Status}
use Rattle.run_plan.specs.declared.status.Status.TheVariants as status
use Rattle.run_plan.specs.declared.status.FileOf.{FileOf}
use Rattle.run_plan.specs.declared.status.FileOf.TheVariants as file
use Rattle.run_plan.specs.declared.status.LimitOf.TheVariants as limit
use Rattle.run_plan.proofs.DoingLemmas.{refuses_memory}
use Rattle.run_plan.proofs.GivenLemmas.{Found, found_at, is_found}
use Rattle.run_plan.specs.Naming.{counts, counts_to}
use Rattle.run_plan.proofs.StageLemmas.{file_refuses, file_between, file_to}

-- ---- a file

abbrev text_if : FileOf → List ℕ → Bool → Result (List ℕ) Status
text_if f text b = cond b (Err (status.Limit (limit.File f))) (Ok text)

pub short_text-long : (f : FileOf) (text : List ℕ) → 67108864 < length text → short_text f text ≡ Err (status.Limit (limit.File f))
short_text-long f text h = ap (text_if f text) (lt-ltb 67108864 (length text) h)

pub short_text-short : (f : FileOf) (text : List ℕ) → length text ≤ 67108864 → short_text f text ≡ Ok text
short_text-short f text h = ap (text_if f text) (le-ltb 67108864 (length text) h)

-- a front of a file that is longer than files may be is refused as the file is
pub short_text-front : (f : FileOf) (xs : List ℕ) → short_text f (take 67108865 xs) ≡ short_text f xs
short_text-front f xs = by (cases_lt 67108864 (length xs))
  where
    by : (67108864 < length xs) ⊎ (length xs ≤ 67108864) → short_text f (take 67108865 xs) ≡ short_text f xs
    by (inl h) = short_text-long f (take 67108865 xs) (omega (arith, length-take 67108865 xs)) ∙ sym (short_text-long f xs h)
    by (inr h) = ap (short_text f) (take_all 67108865 xs (omega arith))

-- ---- what was loaded of a file

-- what was loaded stands for the whole file
pub file_read-loaded : (f : FileOf) (name : List ℕ) (held : Option (List File)) (bytes : List ℕ) → Loads held name 67108865 bytes
    → short_text f bytes ≡ file_read f (found_at held name (Some bytes))
unfolding file_read
file_read-loaded f name None bytes gives = refl
file_read-loaded f name (Some files) bytes gives = by (lookup files name) gives
  where
    by : (found : Option (List ℕ)) → option_map (take 67108865) found ≡ Some bytes
        → short_text f bytes ≡ (or_refuse (status.NotFound f) found >>= (λ xs. short_text f xs))
    by None e = absurd cc
    by (Some xs) e =
        let same : take 67108865 xs ≡ bytes = cc in
        ap (short_text f) (sym same) ∙ short_text-front f xs

-- a file that the folder lacks
pub file_read-lacks : (f : FileOf) (name : List ℕ) (held : Option (List File)) → Lacks held name
    → file_read f (found_at held name None) ≡ Err (status.NotFound f)
unfolding file_read
file_read-lacks f name None lacks = absurd lacks
file_read-lacks f name (Some files) lacks = rw lacks refl

-- a load that went well, of a file that isn't too long and of one that is
pub went_loaded : (f : FileOf) (name bytes : List ℕ) (old new : Folder) → new.holds ≡ old.holds → new.faults ≡ old.faults
    → Loads old.holds name 67108865 bytes → length bytes ≤ 67108864
    → Went old new (IsFileGiven name) (λ found. ComesTo (file_read f found) (Ok bytes))
went_loaded f name bytes old new keeps kept gives short = record {
  keeps = keeps;
  kept = kept;
  given = found_at old.holds name (Some bytes);
  agrees = is_found old.holds name (Some bytes);
  tells = sym (short_text-short f bytes short) ∙ file_read-loaded f name old.holds bytes gives;
}

pub stopped_long : (f : FileOf) (name bytes : List ℕ) (old new : Folder) → phase_of_file f ≡ Before → new.holds ≡ old.holds → new.faults ≡ old.faults
    → Loads old.holds name 67108865 bytes → 67108864 < length bytes
    → Stopped (counts_to f) old new (IsFileGiven name) (λ found. ComesTo (file_read f found) (Err (status.Limit (limit.File f))))
    (λ found g. g ≡ f) (status.Limit (limit.File f))
stopped_long f name bytes old new before keeps kept gives long = record {
  keeps = keeps;
  counts = omega (arith, kept);
  kept = kept;
  given = found_at old.holds name (Some bytes);
  agrees = is_found old.holds name (Some bytes);
  refused = file_refuses f _ before (sym (short_text-long f bytes long) ∙ file_read-loaded f name old.holds bytes gives);
  read = λ g e. absurd cc;
  early = record { between = file_between f before; founded = tt; placed = tt; named = record { file = file_to f; access = tt; remote = tt } };
}

-- a load that failed
pub stopped_load : (f : FileOf) (name : List ℕ) (fault : LoadFault) (old new : Folder) → phase_of_file f ≡ Before → new.holds ≡ old.holds → NeverFalls old.faults new.faults
    → (fault ≡ load.Absent → Lacks old.holds name) → (fault ≡ load.Absent → new.faults ≡ old.faults)
    → (fault ≡ load.Failed → RoseOrFull old.faults new.faults)
    → Stopped (counts_to f) old new (IsFileGiven name) (λ found. ComesTo (file_read f found) (Err (load_status f fault)))
    (λ found g. g ≡ f) (load_status f fault)
stopped_load f name load.Absent old new before keeps counts absent kept rose = record {
  keeps = keeps;
  counts = counts;
  kept = kept refl;
  given = found_at old.holds name None;
  agrees = is_found old.holds name None;
  refused = file_refuses f _ before (sym (file_read-lacks f name old.holds (absent refl)));
  read = λ g e. absurd cc;
  early = record {
    between = file_between f before;
    founded = told_by old.holds (absent refl);
    placed = tt;
    named = record { file = file_to f; access = tt; remote = tt };
  };
}
  where
    told_by : (held : Option (List File)) → Lacks held name → IsSome held
    told_by None h = absurd h
    told_by (Some files) h = refl
stopped_load f name load.Failed old new before keeps counts absent kept rose = record {
  keeps = keeps;
  counts = counts;
  kept = tt;
  given = found_at old.holds name None;
  agrees = is_found old.holds name None;
  refused = refl;
  read = λ g e. rose refl;
  early = record { between = file_between f before; founded = tt; placed = tt; named = record { file = file_to f; access = tt; remote = tt } };
}
stopped_load f name load.Memory old new before keeps counts absent kept rose = record {
  keeps = keeps;
  counts = counts;
  kept = tt;
  given = found_at old.holds name None;
  agrees = is_found old.holds name None;
  refused = tt;
  read = λ g e. absurd cc;
  early = record { between = tt; founded = tt; placed = tt; named = record { file = tt; access = tt; remote = tt } };
}

-- ---- a table

apart_plain : Plain ≡ NoMemory → ⊥
apart_plain e = cc

apart_limit : PastLimit ≡ NoMemory → ⊥
apart_limit e = cc

-- the refusal of a table's fault
pub refuses_table : (number : ℕ) (P : Type 0) (fault : TableFault) → (fault ≢ table.Memory → P) → Refuses (counts (number + 1) 0 0) P (table_status number fault)
refuses_table number P fault h = by (table_sort fault) refl
  where
    named : table_sort fault ≢ NoMemory → fault ≢ table.Memory
    named f e = f (ap table_sort e)

    by : (s : Sort) → table_sort fault ≡ s
        → Refuses (counts (number + 1) 0 0) P (by_sort s (status.BadTable number fault) (status.Limit (limit.Table number fault)))
    by Plain e = record {
      may = h (named (λ (x : table_sort fault ≡ NoMemory). absurd (apart_plain (sym e ∙ x))));
      early = record { between = tt; founded = tt; placed = e; named = record { file = omega arith; access = tt; remote = tt } };
    }
    by PastLimit e = record {
      may = h (named (λ (x : table_sort fault ≡ NoMemory). absurd (apart_limit (sym e ∙ x))));
      early = record { between = tt; founded = tt; placed = e; named = record { file = omega arith; access = tt; remote = tt } };
    }
    by NoMemory e = refuses_memory P

pub refuses_bytes : (number : ℕ) (bytes : List ℕ) (fault : TableFault) → (fault ≢ table.Memory → table_of_bytes bytes ≡ Err fault)
    → Refuses (counts (number + 1) 0 0) (ComesTo (or_fault (table_status number) (table_of_bytes bytes)) (Err (table_status number fault)))
    (table_status number fault)
refuses_bytes number bytes fault h = refuses_table number _ fault (λ other. sym (ap (or_fault (table_status number)) (h other)))

-- the table of bytes that were loaded
pub table_read-bytes : (number : ℕ) (found : Option (List ℕ)) (bytes : List ℕ) → ComesTo (file_read (file.Table number) found) (Ok bytes)
    → or_fault (table_status number) (table_of_bytes bytes) ≡ table_read number found
unfolding table_read
table_read-bytes number found bytes e = ap (λ (r : Result (List ℕ) Status). r >>= (λ xs. or_fault (table_status number) (table_of_bytes xs))) e

pub table_read-ok : (number : ℕ) (found : Option (List ℕ)) (bytes : List ℕ) (t : Relation) → ComesTo (file_read (file.Table number) found) (Ok bytes)
    → table_of_bytes bytes ≡ Ok t → ComesTo (table_read number found) (Ok t)
table_read-ok number found bytes t e f = sym (ap (or_fault (table_status number)) f) ∙ table_read-bytes number found bytes e

pub table_read-due : (number : ℕ) (found : Option (List ℕ)) (bytes : List ℕ) (s : Status) → ComesTo (file_read (file.Table number) found) (Ok bytes)
    → ComesTo (or_fault (table_status number) (table_of_bytes bytes)) (Err s) → ComesTo (table_read number found) (Err s)
table_read-due number found bytes s e f = f ∙ table_read-bytes number found bytes e

-- a file that couldn't be read
pub table_read-unread : (number : ℕ) (found : Option (List ℕ)) (s : Status) → ComesTo (file_read (file.Table number) found) (Err s)
    → ComesTo (table_read number found) (Err s)
unfolding table_read
table_read-unread number found s e = ap (λ (r : Result (List ℕ) Status). r >>= (λ xs. or_fault (table_status number) (table_of_bytes xs))) e

-- ---- tables, in order

-- the tables of more files, behind those that were read
abbrev pub read_behind : ℕ → List Relation → Found → List Found → Result (List Relation) Status
read_behind number tables y ys = table_read number y >>= (λ t. tables_read (number + 1) ys >>= (λ ts. Ok (tables ++ (t ∷ ts))))

-- one more table in front of all
in_front : (t : Relation) (tables : List Relation) (a : Result Relation Status) (b : Result (List Relation) Status)
    → ((a >>= (λ u. b >>= (λ us. Ok (tables ++ (u ∷ us))))) >>= (λ ts. Ok (t ∷ ts))) ≡ (a >>= (λ u. b >>= (λ us. Ok ((t ∷ tables) ++ (u ∷ us)))))
in_front t tables (Err s) b = refl
in_front t tables (Ok u) (Err s) = refl
in_front t tables (Ok u) (Ok us) = refl

-- a first table and those behind it, where all were read
both_read : (a : Result Relation Status) (b : Result (List Relation) Status) (tables : List Relation)
    → (a >>= (λ t. b >>= (λ ts. Ok (t ∷ ts)))) ≡ Ok tables → (t : Relation) × (ts : List Relation) × (a ≡ Ok t) × (b ≡ Ok ts) × (t ∷ ts ≡ tables)
both_read (Err s) b tables e = absurd cc
both_read (Ok t) (Err s) tables e = absurd cc
both_read (Ok t) (Ok ts) tables e = (t, ts, refl, refl, cc)

pub tables_read-behind : (number : ℕ) (xs : List Found) (y : Found) (ys : List Found) (tables : List Relation)
    → tables_read number xs ≡ Ok tables → tables_read number (xs ++ (y ∷ ys)) ≡ read_behind (number + length xs) tables y ys
unfolding tables_read
tables_read-behind number [] y ys tables e =
    let none : [] ≡ tables = cc in
    let here : number ≡ number + 0 = omega arith in
    ap (λ (n : ℕ). read_behind n [] y ys) here ∙ ap (λ (ts : List Relation). read_behind (number + 0) ts y ys) none
tables_read-behind number (x ∷ xs) y ys tables e =
    let parts = both_read (table_read number x) (tables_read (number + 1) xs) tables e in
    let behind = tables_read-behind (number + 1) xs y ys parts.1 parts.3 in
    let here : (number + 1) + length xs ≡ number + suc (length xs) = omega arith in
    ap (λ (a : Result Relation Status). a >>= (λ t. tables_read (number + 1) (xs ++ (y ∷ ys)) >>= (λ ts. Ok (t ∷ ts)))) parts.2
    ∙ ap (λ (b : Result (List Relation) Status). b >>= (λ ts. Ok (parts.0 ∷ ts))) behind
    ∙ in_front parts.0 parts.1 (table_read ((number + 1) + length xs) y) (tables_read (((number + 1) + length xs) + 1) ys)
    ∙ ap (λ (n : ℕ). read_behind n (parts.0 ∷ parts.1) y ys) here
    ∙ ap (λ (ts : List Relation). read_behind (number + suc (length xs)) ts y ys) parts.4

-- the next table was read
tables_read-more : (founds : List Found) (i : ℕ) (found : Found) (tables : List Relation) (t : Relation) → length founds ≡ i
    → tables_read 0 founds ≡ Ok tables → ComesTo (table_read i found) (Ok t) → tables_read 0 (founds ++ found ∷ []) ≡ Ok (tables ++ (t ∷ []))
unfolding tables_read
tables_read-more founds i found tables t long e f =
    let place : 0 + length founds ≡ i = omega (arith, long) in
    tables_read-behind 0 founds found [] tables e ∙ ap (λ (n : ℕ). read_behind n tables found []) place
    ∙ ap (λ (a : Result Relation Status). a >>= (λ u. tables_read (i + 1) [] >>= (λ us. Ok (tables ++ (u ∷ us))))) (sym f)

-- the next table was refused
tables_read-refused : (founds rest : List Found) (i : ℕ) (found : Found) (tables : List Relation) (s : Status) → length founds ≡ i
    → tables_read 0 founds ≡ Ok tables → ComesTo (table_read i found) (Err s) → tables_read 0 (founds ++ found ∷ rest) ≡ Err s
unfolding tables_read
tables_read-refused founds rest i found tables s long e f =
    let place : 0 + length founds ≡ i = omega (arith, long) in
    tables_read-behind 0 founds found rest tables e ∙ ap (λ (n : ℕ). read_behind n tables found rest) place
    ∙ ap (λ (a : Result Relation Status). a >>= (λ t. tables_read (i + 1) rest >>= (λ ts. Ok (tables ++ (t ∷ ts))))) (sym f)

-- ---- the tables of words

-- what stands of the catalogue once the first words' tables were read
pub record IsReadTo (founds : List Found) (words : List TableWord) (catalogue : NamedTables) : Type 0 where
  pub names : catalogue.names ≡ map (λ (t : TableWord). lower t.name) words
  pub tables : tables_read 0 founds ≡ Ok catalogue.tables

pub read_none : (catalogue : NamedTables) → catalogue ≡ record { names = []; tables = [] } → IsReadTo [] [] catalogue
unfolding tables_read
read_none catalogue e = record { names = ap (λ (c : NamedTables). c.names) e; tables = ap (λ (c : NamedTables). Ok c.tables) (sym e) }

pub read_more : (founds : List Found) (found : Found) (all : List TableWord) (i : ℕ) (word d : TableWord) (old new : NamedTables) (t : Relation)
    → i < length all → length founds ≡ i → word ≡ get_or all i d → new ≡ with_table old word.name t → IsReadTo founds (take i all) old
    → ComesTo (table_read i found) (Ok t) → IsReadTo (founds ++ found ∷ []) (take (i + 1) all) new
read_more founds found all i word d old new t h long is added r e = record {
  names = ap (λ (c : NamedTables). c.names) added
      ∙ ap (λ (ns : List (List ℕ)). ns ++ lower word.name ∷ []) r.names
      ∙ sym (map-append (λ (w : TableWord). lower w.name) (take i all) (word ∷ []))
      ∙ ap (λ (w : TableWord). map (λ (u : TableWord). lower u.name) (take i all ++ w ∷ [])) is
      ∙ ap (map (λ (u : TableWord). lower u.name)) (sym (take_more all i d h));
  tables = tables_read-more founds i found old.tables t long r.tables e ∙ ap (λ (c : NamedTables). Ok c.tables) (sym added);
}

pub read_refused : (founds rest : List Found) (found : Found) (all : List TableWord) (i : ℕ) (words : List TableWord) (old : NamedTables) (s : Status)
    → length founds ≡ i → IsReadTo founds words old → ComesTo (table_read i found) (Err s)
    → ComesTo (catalogue_read (founds ++ found ∷ rest) all) (Err s)
unfolding catalogue_read
read_refused founds rest found all i words old s long r e =
    sym (ap (λ (x : Result (List Relation) Status). x >>= (λ ts. Ok (catalogue_of all ts)))
    (tables_read-refused founds rest i found old.tables s long r.tables e))

pub read_whole : (founds : List Found) (words : List TableWord) (catalogue : NamedTables) → IsReadTo founds words catalogue
    → ComesTo (catalogue_read founds words) (Ok catalogue)
unfolding catalogue_read
read_whole founds words catalogue r =
    sym (ap (λ (x : Result (List Relation) Status). x >>= (λ ts. Ok (catalogue_of words ts))) r.tables
    ∙ ap (λ (ns : List (List ℕ)). Ok (record { names = ns; tables = catalogue.tables })) (sym r.names))

-- a table that is next is reached
pub next_reached : (founds rest : List Found) (found : Found) (i : ℕ) (words : List TableWord) (old : NamedTables) → length founds ≡ i
    → IsReadTo founds words old → (f : FileOf) → f ≡ file.Table i → ReachedTable (founds ++ found ∷ rest) f
next_reached founds rest found i words old long r f is =
    let within : i < length (founds ++ found ∷ rest) = omega (arith, long, length-append founds (found ∷ rest)) in
    let front : take i (founds ++ found ∷ rest) ≡ founds =
    ap (λ (n : ℕ). take n (founds ++ found ∷ rest)) (sym long) ∙ take-append_seam founds (found ∷ rest) in
    subst (ReachedTable (founds ++ found ∷ rest)) (sym is)
    (within, subst (λ (o : Result (List Relation) Status). IsOk o) (sym (ap (tables_read 0) front ∙ r.tables)) refl)
