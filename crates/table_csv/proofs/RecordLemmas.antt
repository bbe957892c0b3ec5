-- The records that a reader has left, one read after another.
use Rattle.std.proofs.Common.{◌≡◌, ℕ, zero, suc, ◌+◌, ◌<◌, Bool, true, false, List, [], ◌∷◌, ◌++◌, length, Option, Some, None, cond, refl, sym, ap, ◌∙◌, arith, inl, inr, add-one}
use Rattle.std.specs.Prelude.{◌⊎◌, IsSome}
use Rattle.std.specs.Borrow.{Bor}
use Rattle.csv.specs.Machine.{Read, ends_at_end, field_after, fields_after, is_end, next_record, step}
use Rattle.csv.specs.Reading.{ChangesHeaders, NextIs, ReadRecord, ReadsNext, default_config, pending_of, reader_state, records, records_from, records_next, source_of, strip_bom}
use Rattle.csv.specs.declared.parser.Config.{Config}
use Rattle.csv.specs.declared.parser.State.{State}
use Rattle.csv.specs.declared.parser.State.TheVariants as st
use Rattle.csv.specs.declared.reader.Reader.{Reader}
use Rattle.table_csv.specs.Reading.{GivesNext, IsPlain, records_left, records_on, slice_left}

-- a read takes bytes, or else ends the text
abbrev pub Takes : List ℕ → Read → Type 0
Takes xs p = (length p.2 < length xs) ⊎ ((p.1 ≡ st.StartRecord) × (p.2 ≡ []))

-- a read of these fields, the state and the text behind them
abbrev read_of : List (List ℕ) → State → List ℕ → Read
read_of fields s rest = (fields, s, rest)

takes-more : (c : ℕ) (xs : List ℕ) (p : Read) → Takes xs p → Takes (c ∷ xs) p
takes-more c xs p (inl h) = inl (omega arith)
takes-more c xs p (inr h) = inr h

pub Takes-next_record : (cfg : Config) (s : State) (fields : List (List ℕ)) (field xs : List ℕ) (p : Read)
    → next_record cfg s fields field xs ≡ Some p → Takes xs p
unfolding next_record
Takes-next_record cfg s fields field [] p e = by (ends_at_end s) e
  where
    by : (b : Bool) → cond b (Some (read_of (fields ++ (field ∷ [])) st.StartRecord [])) None ≡ Some p → Takes [] p
    by true e =
        let same : read_of (fields ++ (field ∷ [])) st.StartRecord [] ≡ p = cc in
        inr (ap (λ (q : Read). q.1) (sym same), ap (λ (q : Read). q.2) (sym same))
    by false e = absurd cc
Takes-next_record cfg s fields field (c ∷ rest) p e =
    by (is_end (step cfg s c).1) e
    (Takes-next_record cfg (step cfg s c).0 (fields_after (step cfg s c).1 fields field) (field_after (step cfg s c).1 c field) rest p)
  where
    by : (b : Bool)
        → cond b (Some (read_of (fields_after (step cfg s c).1 fields field) (step cfg s c).0 rest))
        (next_record cfg (step cfg s c).0 (fields_after (step cfg s c).1 fields field) (field_after (step cfg s c).1 c field) rest) ≡ Some p
        → (next_record cfg (step cfg s c).0 (fields_after (step cfg s c).1 fields field) (field_after (step cfg s c).1 c field) rest ≡ Some p → Takes rest p)
        → Takes (c ∷ rest) p
    by true e more =
        let same : read_of (fields_after (step cfg s c).1 fields field) (step cfg s c).0 rest ≡ p = cc in
        let left : length rest ≡ length p.2 = ap (λ (q : Read). length q.2) same in
        inl (omega arith)
    by false e more = takes-more c rest p (more e)

-- behind the end there is no record
records_from-end : (cfg : Config) (n : ℕ) → records_from cfg n st.StartRecord [] ≡ []
unfolding records_from next_record
records_from-end cfg zero = refl
records_from-end cfg (suc n) = refl

-- the records of a text are the same whatever number above its length they are bounded by
pub records_from-bound : (cfg : Config) (n m : ℕ) (s : State) (xs : List ℕ) → length xs < n → length xs < m
    → records_from cfg n s xs ≡ records_from cfg m s xs
unfolding records_from
records_from-bound cfg zero m s xs h k = absurd (omega arith)
records_from-bound cfg (suc n) zero s xs h k = absurd (omega arith)
records_from-bound cfg (suc n) (suc m) s xs h k = by (next_record cfg s [] [] xs) refl (records_from-bound cfg n m)
  where
    rest : (p : Read) → Takes xs p → ((s2 : State) (ys : List ℕ) → length ys < n → length ys < m → records_from cfg n s2 ys ≡ records_from cfg m s2 ys)
        → records_from cfg n p.1 p.2 ≡ records_from cfg m p.1 p.2
    rest p (inl t) more = more p.1 p.2 (omega arith) (omega arith)
    rest p (inr t) more = rw (t.0, t.1, records_from-end cfg n, records_from-end cfg m) refl

    by : (o : Option Read) → next_record cfg s [] [] xs ≡ o
        → ((s2 : State) (ys : List ℕ) → length ys < n → length ys < m → records_from cfg n s2 ys ≡ records_from cfg m s2 ys)
        → records_next (records_from cfg n) o ≡ records_next (records_from cfg m) o
    by None is more = refl
    by (Some p) is more = ap (λ (rs : List (List (List ℕ))). p.0 ∷ rs) (rest p (Takes-next_record cfg s [] [] xs p is) more)

-- the records behind a first one are those of the bytes behind it
records_from-rest : (cfg : Config) (xs : List ℕ) (p : Read) → Takes xs p
    → records_from cfg (length xs) p.1 p.2 ≡ records_from cfg (length p.2 + 1) p.1 p.2
records_from-rest cfg xs p (inl t) = records_from-bound cfg (length xs) (length p.2 + 1) p.1 p.2 t (omega arith)
records_from-rest cfg xs p (inr t) = rw (t.0, t.1, records_from-end cfg (length xs), records_from-end cfg (length {A = ℕ} [] + 1)) refl

-- a read shows the first of the records of a text
GivesNext-NextIs : (s : State) (xs : List ℕ) (o : Option Read) (found : Bool) (fields : List (List ℕ)) (s2 : State) (ys : List ℕ)
    → next_record default_config s [] [] xs ≡ o → NextIs o found fields s2 ys
    → GivesNext (records_next (records_from default_config (length xs)) o) found fields (records_on s2 (Some ys))
GivesNext-NextIs s xs None true fields s2 ys is n = cc n
GivesNext-NextIs s xs None false fields s2 ys is n = refl
GivesNext-NextIs s xs (Some p) true fields s2 ys is n =
    rw (n.1, n.2, n.3) (ap (λ (rs : List (List (List ℕ))). p.0 ∷ rs) (records_from-rest default_config xs p (Takes-next_record default_config s [] [] xs p is)))
GivesNext-NextIs s xs (Some p) false fields s2 ys is n = cc n.0

GivesNext-ReadsNext : (s : State) (known left : Option (List ℕ)) (found : Bool) (fields : List (List ℕ)) (s2 : State)
    → IsSome known → ReadsNext default_config s known left found fields s2 → GivesNext (records_on s known) found fields (records_on s2 left)
unfolding records_from
GivesNext-ReadsNext s None left found fields s2 k r = absurd cc
GivesNext-ReadsNext s (Some xs) None found fields s2 k r = absurd r
GivesNext-ReadsNext s (Some xs) (Some ys) found fields s2 k r =
    rw (add-one (length xs)) (GivesNext-NextIs s xs (next_record default_config s [] [] xs) found fields s2 ys refl r)

-- a read of a plain reader shows the first of the records that it has left
pub GivesNext-read : (a b : Reader (Bor (List ℕ))) (found : Bool) (fields : List (List ℕ)) → IsPlain a → ReadRecord slice_left a b found fields
    → GivesNext (records_left a) found fields (records_left b)
unfolding records_left
GivesNext-read a b found fields plain r =
    let same : source_of slice_left b ≡ pending_of (slice_left b.rdr) b = rw r.1 refl in
    rw same (GivesNext-ReadsNext a.state (source_of slice_left a) (pending_of (slice_left b.rdr) b) found fields b.state plain.known
    (rw plain.config at r.0))

-- a reader with another header row has the same bytes left
source-headers : (a b : Reader (Bor (List ℕ))) → ChangesHeaders a b → source_of slice_left b ≡ source_of slice_left a
source-headers a b e = ap (source_of slice_left) e

-- a new reader whose header row was set has the records of the whole text left
pub records_left-new : (a b : Reader (Bor (List ℕ))) (bytes : List ℕ) → ChangesHeaders a b → reader_state a ≡ st.StartRecord
    → source_of slice_left a ≡ Some (strip_bom bytes) → strip_bom bytes ≡ bytes → records_left b ≡ records default_config bytes
unfolding records_left
records_left-new a b bytes e start source unmarked =
    let start_still : reader_state b ≡ st.StartRecord = ap (λ (r : Reader (Bor (List ℕ))). reader_state r) e ∙ start in
    rw (start_still, source-headers a b e, source) (ap (λ (xs : List ℕ). records_on st.StartRecord (Some xs)) unmarked)

-- behind a record that was read there are fewer
pub fewer_left : (rows more : List (List (List ℕ))) (found : Bool) (fields : List (List ℕ))
    → GivesNext rows found fields more → found ≡ true → length more < length rows
fewer_left rows more true fields g e = rw g (omega arith)
fewer_left rows more false fields g e = absurd cc
