-- The rows of a table, one record after another.
use Rattle.std.proofs.Common.{◌≡◌, ℕ, suc, ◌+◌, ◌≤◌, Bool, true, false, List, [], ◌∷◌, ◌++◌, length, map, Some, None, Result, Ok, Err, ℤ, cond, refl, sym, ap, ◌∙◌, append_assoc, arith}
use Rattle.std.specs.Prelude.{not, nat_lt, ◌==◌}
use Rattle.std.proofs.lemmas.Bool.{eqb-true, ltb-false}
use Rattle.std.proofs.lemmas.List.{append-nil}
use Rattle.sq_value.specs.Decimal.{decimal_read}
use Rattle.sq_value.specs.Numeral.{number_read}
use Rattle.sq_value.specs.Relation.{HasKind, IsRow}
use Rattle.sq_value.specs.declared.decimal.Dec.{Dec}
use Rattle.sq_value.specs.declared.decimal.DecFault.{DecFault}
use Rattle.sq_value.specs.declared.decimal.DecFault.TheVariants as dec
use Rattle.sq_value.specs.declared.integer.IntFault.{IntFault}
use Rattle.sq_value.specs.declared.table.Column.{Column}
use Rattle.sq_value.specs.declared.value.Value.{Value}
use Rattle.sq_value.specs.declared.value.Value.TheVariants as value
use Rattle.sq_value.specs.declared.value.ColType.{ColType}
use Rattle.sq_value.specs.declared.value.ColType.TheVariants as kind
use Rattle.table_csv.specs.declared.fault.TableFault.TheVariants as fault
use Rattle.table_csv.specs.Fields.{decimal_or_null, fields_fault, earlier_of, int_or_null, is_null_field, record_fault, records_fault, value_of, values_of}
use Rattle.table_csv.specs.Reading.{GivesNext}
use Rattle.table_csv.specs.Work.{ScaleFits, ScalesFit}

-- a decimal number that was read has the scale that was asked for
scale-read : (scale : ℕ) (text : List ℕ) (d : Dec) → decimal_read scale text ≡ Ok d → d.scale ≡ scale
unfolding decimal_read
scale-read scale text d e = by _ _ _ e
  where
    by : (a b : Bool) (u : ℤ)
        → ◌≡◌ {A = Result Dec DecFault} (cond a (cond b (Ok record { units = u; scale = scale }) (Err dec.OutOfRange)) (Err dec.NotADecimal)) (Ok d) → d.scale ≡ scale
    by true true u e =
        let same : record { units = u; scale = scale } ≡ d = cc in
        ap (λ (x : Dec). x.scale) (sym same)
    by true false u e = absurd cc
    by false b u e = absurd cc

HasKind-int : (r : Result ℤ IntFault) (n : Bool) → HasKind kind.Integer (cond n value.Null (int_or_null r))
HasKind-int r true = tt
HasKind-int (Ok z) false = tt
HasKind-int (Err e) false = tt

HasKind-decimal : (scale : ℕ) → scale ≤ 6 → (r : Result Dec DecFault) → ((d : Dec) → r ≡ Ok d → d.scale ≡ scale) → (n : Bool)
    → HasKind (kind.Decimal scale) (cond n value.Null (decimal_or_null r))
HasKind-decimal scale h r same true = tt
HasKind-decimal scale h (Ok d) same false = (same d refl, h)
HasKind-decimal scale h (Err e) same false = tt

HasKind-text : (field : List ℕ) (n : Bool) → HasKind kind.Text (cond n value.Null (value.Text field))
HasKind-text field true = tt
HasKind-text field false = tt

-- the value of a field has its column's type
HasKind-value : (type : ColType) (field : List ℕ) → ScaleFits type → HasKind type (value_of type field)
HasKind-value kind.Integer field h = HasKind-int (number_read field) (is_null_field field)
HasKind-value kind.Text field h = HasKind-text field (is_null_field field)
HasKind-value (kind.Decimal scale) field h = HasKind-decimal scale h (decimal_read scale field) (scale-read scale field) (is_null_field field)

-- the values of a record of the right length are a row
pub IsRow-values : (cs : List Column) (fs : List (List ℕ)) → ScalesFit cs → length fs ≡ length cs → IsRow cs (values_of cs fs)
unfolding values_of
IsRow-values [] [] fit e = tt
IsRow-values [] (f ∷ fs) fit e = absurd (omega arith)
IsRow-values (c ∷ cs) [] fit e = absurd (omega arith)
IsRow-values (c ∷ cs) (f ∷ fs) fit e =
    (HasKind-value c.kind f (fit 0 c (omega arith)), IsRow-values cs fs (λ k d h. fit (suc k) d (omega arith)) (omega arith))

-- a record without a fault is one of the first 4,000,000 and has as many fields as there are columns
pub record-fits : (rec : ℕ) (cs : List Column) (fs : List (List ℕ)) → record_fault rec cs fs ≡ None → (rec ≤ 4000000) × (length fs ≡ length cs)
record-fits rec cs fs e = by (nat_lt 4000000 rec) (length fs == length cs) refl refl e
  where
    by : (b l : Bool) → nat_lt 4000000 rec ≡ b → (length fs == length cs) ≡ l
        → cond b (Some fault.TooManyRows) (cond (not l) (Some (fault.Unequal rec)) (fields_fault rec 1 cs fs)) ≡ None
        → (rec ≤ 4000000) × (length fs ≡ length cs)
    by true l few long e = absurd cc
    by false true few long e = (ltb-false 4000000 rec few, eqb-true (length fs) (length cs) long)
    by false false few long e = absurd cc

-- a record was read: the first fault from it on, and the rows from it on
pub records-more : (rec : ℕ) (cs : List Column) (rows more : List (List (List ℕ))) (found : Bool) (fs : List (List ℕ)) → GivesNext rows found fs more → found ≡ true
    → records_fault rec cs rows ≡ earlier_of (record_fault rec cs fs) (records_fault (rec + 1) cs more)
unfolding records_fault
records-more rec cs rows more true fs g e = ap (records_fault rec cs) g
records-more rec cs rows more false fs g e = absurd cc

pub rows-more : (cs : List Column) (old : List (List Value)) (rows more : List (List (List ℕ))) (found : Bool) (fs : List (List ℕ)) → GivesNext rows found fs more → found ≡ true
    → (old ++ values_of cs fs ∷ []) ++ map (values_of cs) more ≡ old ++ map (values_of cs) rows
rows-more cs old rows more true fs g e =
    append_assoc old (values_of cs fs ∷ []) (map (values_of cs) more) ∙ ap (λ rs. old ++ map (values_of cs) rs) (sym g)
rows-more cs old rows more false fs g e = absurd cc

-- no record was left
pub records-end : (rec : ℕ) (cs : List Column) (rows more : List (List (List ℕ))) (found : Bool) (fs : List (List ℕ)) → GivesNext rows found fs more → found ≡ false
    → records_fault rec cs rows ≡ None
unfolding records_fault
records-end rec cs rows more true fs g e = absurd cc
records-end rec cs rows more false fs g e = ap (records_fault rec cs) g

pub rows-end : (cs : List Column) (old : List (List Value)) (rows more : List (List (List ℕ))) (found : Bool) (fs : List (List ℕ)) → GivesNext rows found fs more → found ≡ false
    → old ++ map (values_of cs) rows ≡ old
rows-end cs old rows more true fs g e = absurd cc
rows-end cs old rows more false fs g e = ap (λ rs. old ++ map (values_of cs) rs) g ∙ append-nil old
