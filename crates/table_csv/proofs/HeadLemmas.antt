-- The heads and the columns of a heading, one after another.
use Rattle.std.proofs.Common.{◌≡◌, ℕ, ◌+◌, ◌<◌, ◌≤◌, Bool, true, false, List, [], ◌∷◌, ◌++◌, length, drop, get_or, drop_of_length-le, Some, None, refl, sym, ap, ◌∙◌}
use Rattle.std.specs.Prelude.{IsUtf8, ◌||◌}
use Rattle.std.specs.List.{list_any}
use Rattle.std.proofs.lemmas.List.{append-nil, drop_more, map-append}
use Rattle.std.proofs.lemmas.Str.{is_utf8-from_IsUtf8}
use Rattle.csv.specs.Records.{field_at}
use Rattle.sq_value.specs.Name.{is_same_name}
use Rattle.sq_value.specs.declared.table.Column.{Column}
use Rattle.table_csv.specs.declared.fault.TableFault.TheVariants as fault
use Rattle.table_csv.specs.declared.heading.Named.{Named}
use Rattle.table_csv.specs.declared.types.Seen.{Seen}
use Rattle.table_csv.specs.Fields.{earlier_of}
use Rattle.table_csv.specs.Heading.{heading_fault, name_fault}
use Rattle.table_csv.specs.Marks.{column_name}
use Rattle.table_csv.specs.Work.{column_of_head, completed, head_of, heads_from, names_of}
use Rattle.table_csv.proofs.FieldLemmas.{drop-field_at, is_utf8-not}

-- a test of the names of heads
any-names : (p : List ℕ → Bool) (heads : List Named) → list_any (λ (head : Named). p head.name) heads ≡ list_any p (names_of heads)
any-names p [] = refl
any-names p (head ∷ more) = ap (λ b. p head.name || b) (any-names p more)

pub name-not_utf8 : (earlier : List (List ℕ)) (number : ℕ) (field : List ℕ) → ¬ (IsUtf8 field) → name_fault earlier number field ≡ Some (fault.NotUtf8 0 number)
name-not_utf8 earlier number field isnt = rw (is_utf8-not field isnt) refl

pub name-repeated : (heads : List Named) (number : ℕ) (field name : List ℕ) (repeated : Bool) → IsUtf8 field → name ≡ column_name number field
    → repeated ≡ list_any (λ (head : Named). is_same_name name head.name) heads → repeated ≡ true
    → name_fault (names_of heads) number field ≡ Some (fault.RepeatedColumn number)
name-repeated heads number field name repeated utf8 named is there =
    let any : list_any (is_same_name (column_name number field)) (names_of heads) ≡ true =
    sym (any-names (is_same_name (column_name number field)) heads)
    ∙ ap (λ n. list_any (λ (head : Named). is_same_name n head.name) heads) (sym named) ∙ sym is ∙ there in
    rw (is_utf8-from_IsUtf8 field utf8, any) refl

pub name-taken : (heads : List Named) (number : ℕ) (field name : List ℕ) (repeated : Bool) → IsUtf8 field → name ≡ column_name number field
    → repeated ≡ list_any (λ (head : Named). is_same_name name head.name) heads → repeated ≡ false
    → name_fault (names_of heads) number field ≡ None
name-taken heads number field name repeated utf8 named is there =
    let any : list_any (is_same_name (column_name number field)) (names_of heads) ≡ false =
    sym (any-names (is_same_name (column_name number field)) heads)
    ∙ ap (λ n. list_any (λ (head : Named). is_same_name n head.name) heads) (sym named) ∙ sym is ∙ there in
    rw (is_utf8-from_IsUtf8 field utf8, any) refl

-- what is left of a heading, at a place
pub heads-more : (number : ℕ) (fs : List (List ℕ)) (i : ℕ) (f : List ℕ) → field_at fs i ≡ Some f
    → heads_from number (drop i fs) ≡ head_of number f ∷ heads_from (number + 1) (drop (i + 1) fs)
unfolding heads_from
heads-more number fs i f e = rw (drop-field_at fs i f e) refl

pub heads-end : (number : ℕ) (fs : List (List ℕ)) (heads : List Named) (i : ℕ) → length fs ≤ i → heads ++ heads_from number (drop i fs) ≡ heads
unfolding heads_from
heads-end number fs heads i h = rw (drop_of_length-le fs {i = i} h) (append-nil heads)

pub heading-fault-more : (earlier : List (List ℕ)) (number : ℕ) (fs : List (List ℕ)) (i : ℕ) (f : List ℕ) → field_at fs i ≡ Some f
    → heading_fault earlier number (drop i fs)
    ≡ earlier_of (name_fault earlier number f) (heading_fault (earlier ++ column_name number f ∷ []) (number + 1) (drop (i + 1) fs))
unfolding heading_fault
heading-fault-more earlier number fs i f e = rw (drop-field_at fs i f e) refl

pub heading-fault-end : (earlier : List (List ℕ)) (number : ℕ) (fs : List (List ℕ)) (i : ℕ) → length fs ≤ i → heading_fault earlier number (drop i fs) ≡ None
unfolding heading_fault
heading-fault-end earlier number fs i h = rw (drop_of_length-le fs {i = i} h) refl

-- the names behind one more head
pub names-push : (heads : List Named) (number : ℕ) (f : List ℕ) → names_of (heads ++ head_of number f ∷ []) ≡ names_of heads ++ column_name number f ∷ []
names-push heads number f = map-append (λ (head : Named). head.name) heads (head_of number f ∷ [])

-- what is left of the heads, at a place
pub completed-more : (heads : List Named) (seen : List Seen) (i : ℕ) (head : Named) (s : Seen) → i < length heads → i < length seen
    → completed (drop i heads) (drop i seen) ≡ column_of_head (get_or heads i head) (get_or seen i s) ∷ completed (drop (i + 1) heads) (drop (i + 1) seen)
unfolding completed
completed-more heads seen i head s h k = rw (drop_more heads i head h, drop_more seen i s k) refl

pub completed-end : (heads : List Named) (seen : List Seen) (columns : List Column) (i : ℕ) → length heads ≤ i
    → columns ++ completed (drop i heads) (drop i seen) ≡ columns
unfolding completed
completed-end heads seen columns i h = rw (drop_of_length-le heads {i = i} h) (append-nil columns)
