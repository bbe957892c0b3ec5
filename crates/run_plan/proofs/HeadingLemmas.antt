-- Remotes that are opened, in order.
use Rattle.std.proofs.Common.{◌≡◌, ◌≢◌, ℕ, zero, suc, ◌+◌, ◌<◌, ◌≤◌, ◌==◌, Bool, true, false, cond, eqb, List, [], ◌∷◌, ◌++◌, length, map, take, drop, get_or, Option, Some, None, Result, Ok, Err, refl, sym, ◌∙◌, ap, subst, arith}
use Rattle.std.specs.Prelude.{option_map, option_and_then, slice_get, IsOk, All, AllPairs}
use Rattle.std.proofs.lemmas.Bool.{eqb-true}
use Rattle.std.proofs.lemmas.List.{append_assoc, append-nil, drop_more, length-append, length-map, length-take-le, map-append, take-append-drop, take_all, take_more}
use Rattle.sq_value.specs.Relation.{Relation}
use Rattle.sq_value.specs.declared.table.Column.{Column}
use Rattle.sq_value.specs.declared.value.ColType.{ColType}
use Rattle.sq_value.specs.declared.value.ColType.TheVariants as kind
use Rattle.table_csv.specs.TableFile.{table_of_bytes}
use Rattle.table_csv.specs.declared.fault.TableFault.{TableFault}
use Rattle.table_csv.specs.declared.fault.TableFault.TheVariants as table
use Rattle.command_line.specs.declared.command.RemoteWord.{RemoteWord}
use Rattle.run_base.specs.Seen.{Folder}
use Rattle.run_plan.specs.Doing.{Refuses}
use Rattle.run_plan.specs.Naming.{counts}
use Rattle.run_plan.specs.Files.{file_read}
use Rattle.run_plan.specs.declared.opening.Heading.{Heading}
use Rattle.run_plan.specs.Headings.{IsHeadingOf, is_integer_type, kind_of_column, if_integer, integer_named, heading_of, heading_in, heading_read, Opened, with_remote, remotes_opened}
use Rattle.run_plan.specs.Accesses.{place_of_column}
use Rattle.run_plan.specs.Prepared.{ReachedHeading}
use Rattle.run_plan.specs.Steps.{◌>>=◌, ComesTo, or_refuse}
use Rattle.run_plan.specs.declared.status.Status.{Status}
use Rattle.run_plan.specs.declared.status.Status.TheVariants as status
use Rattle.run_plan.specs.declared.status.FileOf.{FileOf}
use Rattle.run_plan.specs.declared.status.FileOf.TheVariants as file
use Rattle.run_plan.proofs.GivenLemmas.{Found}

-- ---- a heading

-- what a test let through
let_through : {A : Type 0} (b : Bool) (o : Option A) (y : A) → cond b o None ≡ Some y → (b ≡ true) × (o ≡ Some y)
let_through true o y e = (refl, e)
let_through false o y e = absurd cc

integer_only : (o : Option ColType) → is_integer_type o ≡ true → o ≡ Some kind.Integer
integer_only (Some kind.Integer) e = refl
integer_only (Some kind.Text) e = absurd cc
integer_only (Some (kind.Decimal scale)) e = absurd cc
integer_only None e = absurd cc

no_rows : {X : Type 0} (xs : List X) → (length xs == 0) ≡ true → xs ≡ []
no_rows [] e = refl
no_rows (x ∷ xs) e =
    let none : length (x ∷ xs) ≡ 0 = eqb-true (length (x ∷ xs)) 0 e in
    absurd (omega (arith, none))

-- what a heading is
pub heading_is : (name : List ℕ) (r : Result Relation TableFault) (h : Heading) → heading_in name r ≡ Some h → IsHeadingOf h
heading_is name (Err f) h e = absurd cc
heading_is name (Ok t) h e =
    let through = let_through (length t.rows == 0) _ h e in
    by (place_of_column t.columns name) (no_rows t.rows through.0) through.1
  where
    named : (place : ℕ) (o : Option ℕ) → t.rows ≡ [] → (o ≡ Some place → kind_of_column t.columns place ≡ Some kind.Integer)
        → option_map (λ (column : ℕ). record { table = t; column = column }) o ≡ Some h → ((p : ℕ) → o ≡ Some p → p ≡ place) → IsHeadingOf h
    named place None empty integer f only = absurd cc
    named place (Some p) empty integer f only =
        let same : p ≡ place = only p refl in
        let is : record { table = t; column = p } ≡ h = given p f in
        subst IsHeadingOf is (record { empty = empty; integer = subst (λ (n : ℕ). kind_of_column t.columns n ≡ Some kind.Integer) (sym same) (integer (ap Some same)) })
      where
        given : (p : ℕ) → Some (record { table = t; column = p }) ≡ Some h → record { table = t; column = p } ≡ h
        given p g = cc

    by : (o : Option ℕ) → t.rows ≡ []
        → option_map (λ (column : ℕ). record { table = t; column = column }) (option_and_then (if_integer t.columns) o) ≡ Some h → IsHeadingOf h
    by None empty f = absurd cc
    by (Some place) empty f = tested (is_integer_type (kind_of_column t.columns place)) refl f
      where
        tested : (b : Bool) → is_integer_type (kind_of_column t.columns place) ≡ b
            → option_map (λ (column : ℕ). record { table = t; column = column }) (cond b (Some place) None) ≡ Some h → IsHeadingOf h
        tested true is g = named place (Some place) empty (λ _. integer_only (kind_of_column t.columns place) is) g (λ p q. cc)
        tested false is g = absurd cc

-- the refusal of a heading's file
pub refuses_heading : (number : ℕ) (P : Type 0) → P → Refuses (counts 0 0 (number + 1)) P (status.BadHeading number)
refuses_heading number P p = record { may = p; early = record { between = tt; founded = tt; placed = tt; named = record { file = omega arith; access = tt; remote = tt } } }

-- the heading of bytes that were loaded
pub heading_read-bytes : (number : ℕ) (found : Found) (word : RemoteWord) (bytes : List ℕ)
    → ComesTo (file_read (file.Heading number) found) (Ok bytes)
    → or_refuse (status.BadHeading number) (heading_in word.column (table_of_bytes bytes)) ≡ heading_read number found word
unfolding heading_read
heading_read-bytes number found word bytes e =
    ap (λ (r : Result (List ℕ) Status). r >>= (λ xs. or_refuse (status.BadHeading number) (heading_in word.column (table_of_bytes xs)))) e

pub heading_read-ok : (number : ℕ) (found : Found) (word : RemoteWord) (bytes : List ℕ) (h : Heading)
    → ComesTo (file_read (file.Heading number) found) (Ok bytes)
    → heading_in word.column (table_of_bytes bytes) ≡ Some h → ComesTo (heading_read number found word) (Ok h)
heading_read-ok number found word bytes h e f =
    sym (ap (or_refuse (status.BadHeading number)) f) ∙ heading_read-bytes number found word bytes e

pub heading_read-due : (number : ℕ) (found : Found) (word : RemoteWord) (bytes : List ℕ) (s : Status)
    → ComesTo (file_read (file.Heading number) found) (Ok bytes)
    → ComesTo (or_refuse (status.BadHeading number) (heading_in word.column (table_of_bytes bytes))) (Err s) → ComesTo (heading_read number found word) (Err s)
heading_read-due number found word bytes s e f = f ∙ heading_read-bytes number found word bytes e

-- a file that couldn't be read
pub heading_read-unread : (number : ℕ) (found : Found) (word : RemoteWord) (s : Status)
    → ComesTo (file_read (file.Heading number) found) (Err s) → ComesTo (heading_read number found word) (Err s)
unfolding heading_read
heading_read-unread number found word s e =
    ap (λ (r : Result (List ℕ) Status). r >>= (λ xs. or_refuse (status.BadHeading number) (heading_in word.column (table_of_bytes xs)))) e

-- ---- remotes, in order

abbrev opened_by : ℕ → List Found → Opened → RemoteWord → List RemoteWord → Result Heading Status → Result Opened Status
opened_by number founds o word more r = r >>= (λ h. remotes_opened (number + 1) founds (with_remote o word h) more)

-- those behind some that were opened, one file each
opened-behind : (number : ℕ) (fs gs : List Found) (xs ys : List RemoteWord) (o now : Opened) → length fs ≡ length xs → remotes_opened number fs o xs ≡ Ok now
    → remotes_opened number (fs ++ gs) o (xs ++ ys) ≡ remotes_opened (number + length xs) gs now ys
unfolding remotes_opened
opened-behind number [] gs [] ys o now long e =
    let here : number ≡ number + 0 = omega arith in
    let same : o ≡ now = cc in
    ap (λ (n : ℕ). remotes_opened n gs o ys) here ∙ ap (λ (p : Opened). remotes_opened (number + 0) gs p ys) same
opened-behind number [] gs (x ∷ xs) ys o now long e = absurd (omega (arith, long))
opened-behind number (f ∷ fs) gs [] ys o now long e = absurd (omega (arith, long))
opened-behind number (f ∷ fs) gs (x ∷ xs) ys o now long e =
    by (heading_read number f x) e (λ p. opened-behind (number + 1) fs gs xs ys p now (omega (arith, long)))
  where
    here : (number + 1) + length xs ≡ number + suc (length xs)
    here = omega arith

    by : (r : Result Heading Status) → opened_by number fs o x xs r ≡ Ok now
        → ((p : Opened) → remotes_opened (number + 1) fs p xs ≡ Ok now
        → remotes_opened (number + 1) (fs ++ gs) p (xs ++ ys) ≡ remotes_opened ((number + 1) + length xs) gs now ys)
        → opened_by number (fs ++ gs) o x (xs ++ ys) r ≡ remotes_opened (number + suc (length xs)) gs now ys
    by (Err s) g more = absurd cc
    by (Ok h) g more = more (with_remote o x h) g ∙ ap (λ (n : ℕ). remotes_opened n gs now ys) here

-- the first remotes were opened
pub record IsOpenedTo (founds : List Found) (start now : Opened) (words : List RemoteWord) : Type 0 where
  pub opened : remotes_opened 0 founds start words ≡ Ok now

pub opened_none : (start now : Opened) → now ≡ start → IsOpenedTo [] start now []
unfolding remotes_opened
opened_none start now e = record { opened = ap Ok (sym e) }

split_at : (all : List RemoteWord) (i : ℕ) (word : RemoteWord) → i < length all → word ≡ get_or all i word
    → all ≡ take i all ++ (word ∷ drop (i + 1) all)
split_at all i word h is =
    sym (take-append-drop i all) ∙ ap (λ (z : List RemoteWord). take i all ++ z) (drop_more all i word h)
    ∙ ap (λ (w : RemoteWord). take i all ++ (w ∷ drop (i + 1) all)) (sym is)

-- the next remote was opened
pub opened_more : (founds : List Found) (found : Found) (start old new : Opened) (all : List RemoteWord) (i : ℕ) (word : RemoteWord) (h : Heading) → i < length all
    → length founds ≡ i → word ≡ get_or all i word → IsOpenedTo founds start old (take i all) → ComesTo (heading_read i found word) (Ok h)
    → new ≡ with_remote old word h → IsOpenedTo (founds ++ found ∷ []) start new (take (i + 1) all)
unfolding remotes_opened
opened_more founds found start old new all i word h within long is r e f = record {
  opened =
      ap (remotes_opened 0 (founds ++ found ∷ []) start) (take_more all i word within ∙ ap (λ (w : RemoteWord). take i all ++ w ∷ []) (sym is))
      ∙ opened-behind 0 founds (found ∷ []) (take i all) (word ∷ []) start old (long ∙ sym size) r.opened
      ∙ ap (λ (n : ℕ). remotes_opened n (found ∷ []) old (word ∷ [])) place
      ∙ ap (opened_by i [] old word []) (sym e)
      ∙ ap Ok (sym f);
}
  where
    size : length (take i all) ≡ i
    size = length-take-le i all (omega (arith, within))

    place : 0 + length (take i all) ≡ i
    place = omega (arith, size)

-- the next remote was refused
pub opened_refused : (founds rest : List Found) (found : Found) (start old : Opened) (all : List RemoteWord) (i : ℕ) (word : RemoteWord) (s : Status) → i < length all
    → length founds ≡ i → word ≡ get_or all i word → IsOpenedTo founds start old (take i all) → ComesTo (heading_read i found word) (Err s)
    → ComesTo (remotes_opened 0 (founds ++ found ∷ rest) start all) (Err s)
unfolding remotes_opened
opened_refused founds rest found start old all i word s within long is r e =
    sym (ap (remotes_opened 0 (founds ++ found ∷ rest) start) (split_at all i word within is)
    ∙ opened-behind 0 founds (found ∷ rest) (take i all) (word ∷ drop (i + 1) all) start old (long ∙ sym size) r.opened
    ∙ ap (λ (n : ℕ). remotes_opened n (found ∷ rest) old (word ∷ drop (i + 1) all)) place
    ∙ ap (opened_by i rest old word (drop (i + 1) all)) (sym e))
  where
    size : length (take i all) ≡ i
    size = length-take-le i all (omega (arith, within))

    place : 0 + length (take i all) ≡ i
    place = omega (arith, size)

pub opened_whole : (founds : List Found) (start now : Opened) (words : List RemoteWord) → IsOpenedTo founds start now words
    → ComesTo (remotes_opened 0 founds start words) (Ok now)
opened_whole founds start now words r = sym r.opened

-- a heading that is next is reached: founds behind those of the words before it change nothing
pub next_heading : (founds rest : List Found) (found : Found) (start old : Opened) (all : List RemoteWord) (i : ℕ) → i < length all → length founds ≡ i
    → IsOpenedTo founds start old (take i all) → (f : FileOf) → f ≡ file.Heading i → ReachedHeading (founds ++ found ∷ rest) start all f
unfolding remotes_opened
next_heading founds rest found start old all i within long r f is =
    subst (ReachedHeading (founds ++ found ∷ rest) start all) (sym is) (within, subst (λ (o : Result Opened Status). IsOk o) (sym opened) refl)
  where
    size : length (take i all) ≡ i
    size = length-take-le i all (omega (arith, within))

    opened : remotes_opened 0 (founds ++ found ∷ rest) start (take i all) ≡ Ok old
    opened =
        ap (remotes_opened 0 (founds ++ found ∷ rest) start) (sym (append-nil (take i all)))
        ∙ opened-behind 0 founds (found ∷ rest) (take i all) [] start old (long ∙ sym size) r.opened
