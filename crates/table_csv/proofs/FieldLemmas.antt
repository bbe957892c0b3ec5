-- The value and the fault of one field, and of a record's fields one after another.
use Rattle.std.proofs.Common.{◌≡◌, ◌≢◌, ℕ, zero, suc, ◌+◌, ◌<◌, ◌≤◌, true, false, List, [], ◌∷◌, ◌++◌, length, drop, get_or, drop_of_length-le, Option, Some, None, Result, Ok, Err, arith, refl, sym, ap, ◌∙◌, subst, add-one}
use Rattle.std.specs.Prelude.{IsUtf8, IfErr, OnOk}
use Rattle.std.specs.Result.{IsErrAnd}
use Rattle.std.specs.Str.{is_utf8}
use Rattle.std.proofs.lemmas.Result.{err_from_is_err_and}
use Rattle.std.proofs.lemmas.Bool.{false_from_ne_true}
use Rattle.std.proofs.lemmas.List.{append-nil, drop_more}
use Rattle.std.proofs.lemmas.Str.{IsUtf8-from_is_utf8, is_utf8-from_IsUtf8}
use Rattle.csv.specs.Records.{field_at}
use Rattle.sq_value.specs.declared.table.Column.{Column}
use Rattle.sq_value.specs.declared.value.Value.{Value}
use Rattle.sq_value.specs.declared.value.Value.TheVariants as value
use Rattle.sq_value.specs.declared.value.ColType.{ColType}
use Rattle.table_csv.specs.declared.fault.TableFault.{TableFault}
use Rattle.table_csv.specs.declared.fault.TableFault.TheVariants as fault
use Rattle.table_csv.specs.Fields.{field_fault, fields_fault, earlier_of, is_null_field, number_fault, value_of, values_of, written_value}

-- bytes that aren't UTF-8 don't pass the test
pub is_utf8-not : (bs : List ℕ) → ¬ (IsUtf8 bs) → is_utf8 bs ≡ false
is_utf8-not bs isnt = false_from_ne_true (is_utf8 bs) (λ e. isnt (IsUtf8-from_is_utf8 bs e))

pub fault-not_utf8 : (rec number : ℕ) (type : ColType) (field : List ℕ) → ¬ (IsUtf8 field)
    → field_fault rec number type field ≡ Some (fault.NotUtf8 rec number)
fault-not_utf8 rec number type field isnt = rw (is_utf8-not field isnt) refl

pub fault-null : (rec number : ℕ) (type : ColType) (field : List ℕ) → IsUtf8 field → is_null_field field ≡ true
    → field_fault rec number type field ≡ None
fault-null rec number type field text null = rw (is_utf8-from_IsUtf8 field text, null) refl

pub fault-number : (rec number : ℕ) (type : ColType) (field : List ℕ) → IsUtf8 field → is_null_field field ≡ false
    → number_fault rec number type field ≡ field_fault rec number type field
fault-number rec number type field text some = rw (is_utf8-from_IsUtf8 field text, some) refl

pub value-null : (type : ColType) (field : List ℕ) → is_null_field field ≡ true → value_of type field ≡ value.Null
value-null type field null = rw null refl

pub value-written : (type : ColType) (field : List ℕ) → is_null_field field ≡ false → written_value type field ≡ value_of type field
value-written type field some = rw some refl

-- the fields from one on
pub drop-field_at : (fs : List (List ℕ)) (i : ℕ) (f : List ℕ) → field_at fs i ≡ Some f → drop i fs ≡ f ∷ drop (i + 1) fs
unfolding field_at
drop-field_at [] i f e = absurd cc
drop-field_at (g ∷ fs) zero f e =
    let same : g ≡ f = cc in
    ap (λ (h : List ℕ). h ∷ fs) same
drop-field_at (g ∷ fs) (suc i) f e = drop-field_at fs i f e ∙ rw (add-one i, add-one (suc i)) refl

-- no field is left
pub drop-past : (fs : List (List ℕ)) (i : ℕ) → field_at fs i ≡ None → drop i fs ≡ []
unfolding field_at
drop-past [] zero e = refl
drop-past [] (suc i) e = refl
drop-past (g ∷ fs) zero e = absurd cc
drop-past (g ∷ fs) (suc i) e = drop-past fs i e

-- what is left of a record's fields, at a place
pub values-more : (cs : List Column) (fs : List (List ℕ)) (i : ℕ) (c : Column) (f : List ℕ) → i < length cs → field_at fs i ≡ Some f
    → values_of (drop i cs) (drop i fs) ≡ value_of (get_or cs i c).kind f ∷ values_of (drop (i + 1) cs) (drop (i + 1) fs)
unfolding values_of
values-more cs fs i c f h e = rw (drop_more cs i c h, drop-field_at fs i f e) refl

pub fault-more : (rec number : ℕ) (cs : List Column) (fs : List (List ℕ)) (i : ℕ) (c : Column) (f : List ℕ) → i < length cs → field_at fs i ≡ Some f
    → fields_fault rec number (drop i cs) (drop i fs)
    ≡ earlier_of (field_fault rec number (get_or cs i c).kind f) (fields_fault rec (number + 1) (drop (i + 1) cs) (drop (i + 1) fs))
unfolding fields_fault
fault-more rec number cs fs i c f h e = rw (drop_more cs i c h, drop-field_at fs i f e) refl

-- a field in range is there
pub field_at-in : (fs : List (List ℕ)) (i : ℕ) → i < length fs → field_at fs i ≡ None → ⊥
unfolding field_at
field_at-in [] i h e = absurd (omega arith)
field_at-in (g ∷ fs) zero h e = cc
field_at-in (g ∷ fs) (suc i) h e = field_at-in fs i (omega arith) e

-- the fault of a number under two names of its type and of its field
pub number-fault-is : (rec number : ℕ) (type named : ColType) (field text : List ℕ) → type ≡ named → text ≡ field → IsUtf8 field → is_null_field text ≡ false
    → number_fault rec number named text ≡ field_fault rec number type field
number-fault-is rec number type named field text same same_text utf8 some =
    let some_field : is_null_field field ≡ false = ap (λ t. is_null_field t) (sym same_text) ∙ some in
    ap (λ t. number_fault rec number named t) same_text ∙ ap (λ k. number_fault rec number k field) (sym same)
    ∙ fault-number rec number type field utf8 some_field

-- a fault that was answered is that of another call
pub same_fault : {V : Type 0} (r : Result V TableFault) (o p : Option TableFault) → o ≡ p → IfErr r (λ f. o ≡ Some f) → IfErr r (λ f. f ≢ fault.Memory → p ≡ Some f)
same_fault (Ok v) o p e h = tt
same_fault (Err f) o p e h = λ _. sym e ∙ h

pub same_none : {V : Type 0} (r : Result V TableFault) (o p : Option TableFault) → o ≡ p → OnOk r (o ≡ None) → OnOk r (p ≡ None)
same_none (Ok v) o p e h = sym e ∙ h
same_none (Err f) o p e h = tt

-- no column is left
pub values-end : (cs : List Column) (fs : List (List ℕ)) (values : List Value) (i : ℕ) → length cs ≤ i → values ++ values_of (drop i cs) (drop i fs) ≡ values
unfolding values_of
values-end cs fs values i h = rw (drop_of_length-le cs {i = i} h) (append-nil values)

pub fault-end : (rec number : ℕ) (cs : List Column) (fs : List (List ℕ)) (i : ℕ) → length cs ≤ i → fields_fault rec number (drop i cs) (drop i fs) ≡ None
unfolding fields_fault
fault-end rec number cs fs i h = rw (drop_of_length-le cs {i = i} h) refl

-- an error that went through a `?`
pub exit_with : {T E : Type 0} (r : Result T E) (y : E) (P : E → Type 0) → IsErrAnd r (λ x. x ≡ y) → P y → IfErr r P
exit_with r y P h p =
    let q = err_from_is_err_and r h in
    subst (λ s. IfErr s P) (sym q.1) (subst P (sym q.2) p)
