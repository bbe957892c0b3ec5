-- What the front of a file says, and the columns that come of it.
use Rattle.std.proofs.Common.{◌≡◌, ◌≢◌, ℕ, ◌<◌, ◌≤◌, Bool, true, false, List, [], ◌∷◌, ◌++◌, length, take, drop, drop_of_length-le, fold, get_or, inl, inr, ◌+◌, Option, Some, None, Result, Ok, Err, refl, sym, ap, ◌∙◌, subst, arith}
use Rattle.std.specs.Prelude.{IfErr, IfOk, OnOk, ◌⊎◌, is_some, replicate, ◌==◌, unwrap_or}
use Rattle.std.proofs.lemmas.List.{append-nil, length-replicate, take_all}
use Rattle.sq_value.specs.declared.value.ColType.{ColType}
use Rattle.sq_value.specs.declared.table.Column.{Column}
use Rattle.table_csv.specs.declared.fault.TableFault.{TableFault}
use Rattle.table_csv.specs.declared.fault.TableFault.TheVariants as fault
use Rattle.table_csv.specs.declared.heading.Named.{Named}
use Rattle.table_csv.specs.declared.types.Seen.{Seen}
use Rattle.table_csv.specs.declared.types.Seen.TheVariants as seen
use Rattle.table_csv.specs.Headed.{AreHeads, HasColumns, HasHeads, IsHeaded, IsLearned}
use Rattle.table_csv.specs.Heading.{heading_fault}
use Rattle.table_csv.specs.Reading.{GivesNext}
use Rattle.table_csv.specs.TableFile.{table_below, table_of_records}
use Rattle.table_csv.specs.Work.{all_learned, column_of_head, completed, heads_from}
use Rattle.table_csv.proofs.ColumnLemmas.{columns-learned}
use Rattle.table_csv.proofs.FileLemmas.{heading_faulty, heads-length, learned-length}
use Rattle.table_csv.proofs.HeadLemmas.{completed-more}

-- the first record was read, and is a heading without a fault
pub heads_are : (rows more : List (List (List ℕ))) (found : Bool) (fs : List (List ℕ)) (heads : List Named) → GivesNext rows found fs more → found ≡ true
    → (length fs == 0) ≡ false → HasHeads fs heads → AreHeads rows heads
heads_are rows more true [] heads g e n h = absurd cc
heads_are rows more true (f ∷ fs) heads g e n h = subst (λ rs. AreHeads rs heads) (sym g) h
heads_are rows more false fs heads g e n h = absurd cc

-- what the first of the records is, where it is a heading without a fault
pub heads-next : (rows more : List (List (List ℕ))) (found : Bool) (fs : List (List ℕ)) (heads : List Named) → GivesNext rows found fs more → AreHeads rows heads
    → HasHeads fs heads × (0 < length fs) × (table_of_records rows ≡ table_below fs more)
unfolding table_of_records
heads-next rows more true [] heads g h = absurd (subst (λ rs. AreHeads rs heads) g h)
heads-next rows more true (f ∷ fs) heads g h = (subst (λ rs. AreHeads rs heads) g h, omega arith, ap table_of_records g)
heads-next rows more false fs heads g h = absurd (subst (λ rs. AreHeads rs heads) g h)

-- the answers of reading a heading
pub heads_answer : {V : Type 0} (r : Result V TableFault) (items : V → List Named) (rows more : List (List (List ℕ))) (found : Bool) (fs : List (List ℕ))
    → GivesNext rows found fs more → found ≡ true → (length fs == 0) ≡ false → length fs ≤ 64
    → IfOk r (λ v. items v ≡ heads_from 1 fs) → OnOk r (heading_fault [] 1 fs ≡ None) → IfOk r (λ v. AreHeads rows (items v))
heads_answer (Err e) items rows more found fs g is some few made taken = tt
heads_answer (Ok v) items rows more found fs g is some few made taken =
    heads_are rows more found fs (items v) g is some record { heads_are = made; few = few; taken = taken }

pub heads_fault : {V : Type 0} (r : Result V TableFault) (rows more : List (List (List ℕ))) (fs : List (List ℕ)) → table_of_records rows ≡ table_below fs more
    → length fs ≤ 64 → IfErr r (λ f. f ≢ fault.Memory → heading_fault [] 1 fs ≡ Some f) → IfErr r (λ f. f ≢ fault.Memory → table_of_records rows ≡ Err f)
heads_fault (Ok v) rows more fs same few h = tt
heads_fault (Err f) rows more fs same few h = λ ne. same ∙ heading_faulty fs more f few (h ne)

-- what is known after one record more
fold-push : (s : List Seen) (rows : List (List (List ℕ))) (fs : List (List ℕ)) → fold all_learned s (rows ++ fs ∷ []) ≡ all_learned (fold all_learned s rows) fs
fold-push s [] fs = refl
fold-push s (r ∷ rows) fs = fold-push (all_learned s r) rows fs

pub learned-push : (width : ℕ) (s : List Seen) (fs : List (List ℕ)) → IsLearned width s → IsLearned width (all_learned s fs)
learned-push width s fs h = (h.0 ++ fs ∷ [], ap (λ k. all_learned k fs) h.1 ∙ sym (fold-push (replicate width seen.Nulls) h.0 fs))

-- a list that was changed in place, by a slice of the whole
pub written_back : (n : ℕ) (new old : List Seen) → n ≡ length old → length new ≡ length old → take n (new ++ drop (length new) old) ≡ new
written_back n new old long same =
    rw (drop_of_length-le old {i = length new} (omega (arith, same)), append-nil new) (take_all n new (omega (arith, long, same)))

-- a record was read: what is known after those from it on
pub known-next : (s : List Seen) (rows more : List (List (List ℕ))) (found : Bool) (fs : List (List ℕ)) → GivesNext rows found fs more → found ≡ true
    → fold all_learned (all_learned s fs) more ≡ fold all_learned s rows
known-next s rows more true fs g e = ap (fold all_learned s) (sym g)
known-next s rows more false fs g e = absurd cc

-- no record was left
pub known-end : (s : List Seen) (rows more : List (List (List ℕ))) (found : Bool) (fs : List (List ℕ)) → GivesNext rows found fs more → found ≡ false
    → s ≡ fold all_learned s rows
known-end s rows more true fs g e = absurd cc
known-end s rows more false fs g e = ap (fold all_learned s) (sym g)

-- the columns of a heading's heads, under what these records show
pub columns_of_heads : (fs : List (List ℕ)) (rows : List (List (List ℕ))) (heads : List Named) (s : List Seen) (cs : List Column) → HasHeads fs heads
    → cs ≡ completed heads s → s ≡ fold all_learned (replicate (length heads) seen.Nulls) rows → HasColumns fs rows cs
columns_of_heads fs rows heads s cs h made known =
    let long : length heads ≡ length fs = ap length h.heads_are ∙ heads-length 1 fs in
    record {
      columns_are = made ∙ ap (λ (hs : List Named). completed hs s) h.heads_are
          ∙ ap (completed (heads_from 1 fs)) (known ∙ ap (λ n. fold all_learned (replicate n seen.Nulls) rows) long)
          ∙ columns-learned fs rows;
      few = h.few;
      taken = h.taken;
    }

-- as many as there are columns
pub learned-long : (width : ℕ) (s : List Seen) → IsLearned width s → width ≡ length s
learned-long width s h =
    sym (ap length h.1 ∙ learned-length (replicate width seen.Nulls) h.0 ∙ length-replicate width seen.Nulls)

-- a head's column under a guess and under what is known
pub right_kind : (name : List ℕ) (m : Option ColType) (g k : ColType) → is_some m ≡ true ⊎ g ≡ k
    → ◌≡◌ {A = Column} record { name = name; kind = unwrap_or m g } record { name = name; kind = unwrap_or m k }
right_kind name (Some x) g k h = refl
right_kind name None g k (inl e) = absurd cc
right_kind name None g k (inr e) = ap (λ t. record { name = name; kind = t }) e

-- the columns from one on
pub right-more : (heads : List Named) (guess known : List Seen) (i : ℕ) (head : Named) → i < length heads → i < length guess → i < length known
    → column_of_head (get_or heads i head) (get_or guess i seen.Nulls) ≡ column_of_head (get_or heads i head) (get_or known i seen.Nulls)
    → completed (drop (i + 1) heads) (drop (i + 1) guess) ≡ completed (drop (i + 1) heads) (drop (i + 1) known)
    → completed (drop i heads) (drop i guess) ≡ completed (drop i heads) (drop i known)
right-more heads guess known i head h k l one rest =
    completed-more heads guess i head seen.Nulls h k
    ∙ ap (λ (c : Column). c ∷ completed (drop (i + 1) heads) (drop (i + 1) guess)) one
    ∙ ap (λ (cs : List Column). column_of_head (get_or heads i head) (get_or known i seen.Nulls) ∷ cs) rest
    ∙ sym (completed-more heads known i head seen.Nulls h l)

pub right-end : (heads : List Named) (guess known : List Seen) (i : ℕ) → length heads ≤ i
    → completed (drop i heads) guess ≡ completed (drop i heads) known
unfolding completed
right-end heads guess known i h = rw (drop_of_length-le heads {i = i} h) refl

pub headed-heads : (rows more : List (List (List ℕ))) (found : Bool) (fs : List (List ℕ)) (heads : List Named) (cs : List Column) → GivesNext rows found fs more
    → AreHeads rows heads → HasColumns fs more cs → IsHeaded rows cs
headed-heads rows more true [] heads cs g h columns = absurd (subst (λ rs. AreHeads rs heads) g h)
headed-heads rows more true (f ∷ fs) heads cs g h columns = subst (λ rs. IsHeaded rs cs) (sym g) columns
headed-heads rows more false fs heads cs g h columns = absurd (subst (λ rs. AreHeads rs heads) g h)
