-- Literals that are kept in order, one more at a time.
use Rattle.std.proofs.Common.{◌≡◌, ℕ, ◌+◌, Bool, true, false, ◌||◌, cond, List, [], ◌∷◌, ◌++◌, map, take, get_or, length, ◌<◌, Option, Some, None, Result, Ok, Err, ℤ, Global, refl, ap, sym, subst, ◌∙◌}
use Rattle.std.specs.Prelude.{All, String, slice_get, IfOk, IfSome}
use Rattle.std.specs.Ordering.{int_cmp, is_eq}
use Rattle.std.specs.BTreeSet.{BTreeSet, contains, contains_text}
use Rattle.std.specs.Str.{bytes_eq}
use Rattle.std.proofs.lemmas.List.{take_more, map-append}
use Rattle.std.proofs.lemmas.Option.{slice_get_within, get_or_from_slice_get}
use Rattle.std.proofs.lemmas.Cmp.{int_cmp_total, eq_by_cmp_equiv, nat_list_eq_equiv}
use Rattle.std.proofs.lemmas.Map.Text.{is_eq-slice_cmp}
use Rattle.sq_value.specs.Rank.{Rank, Number, Text, rank_of, order_between}
use Rattle.sq_value.specs.Relation.{Relation}
use Rattle.sq_value.specs.Comparison.{truth_of_order, two_valued}
use Rattle.sq_value.specs.Truth.{disjoined, negated}
use Rattle.sq_value.specs.declared.value.Value.{Value}
use Rattle.sq_value.specs.declared.value.Truth.{Truth}
use Rattle.sq_value.specs.declared.value.Truth.TheVariants.{False, Unknown, True}
use Rattle.sq_value.specs.declared.value.Cmp.TheVariants.{Eq}
use Rattle.sq_value.specs.declared.predicate.Kinds.{Kinds}
use Rattle.sq_expr.specs.declared.cond.ColumnOf.{ColumnOf}
use Rattle.sq_expr.specs.declared.cond.Side.TheVariants.{Column}
use Rattle.sq_expr.specs.declared.cond.Cond.{Cond}
use Rattle.sq_expr.specs.declared.cond.Cond.TheOpen as level
use Rattle.sq_expr.specs.declared.cond.Cond.TheVariants as variants
use Rattle.sq_expr.specs.declared.membership.Literals.{Literals}
use Rattle.sq_expr.specs.declared.membership.Membership.{Membership}
use Rattle.sq_expr.specs.Fits.{FitsHere}
use Rattle.sq_expr.specs.Meaning.{truth_of, greatest}
use Rattle.sq_expr.specs.Reading.{IsInRange, IsSeen, IsReadyOver}
use Rattle.sq_expr.specs.Membership.{choice, among, equals, turned, IsEquality, HasColumn, AreLiterals, IsMembership}
use Rattle.sq_expr.proofs.FitLemmas.{every-here, every-Any, every-Not}
use Rattle.sq_expr.proofs.MeaningLemmas.{truth_of-Compare, truth_of-Any, truth_of-Not}

-- a literal that is the value, or isn't
choice_or : (found unknown here : Bool) → choice (cond here true found) unknown ≡ disjoined (choice found unknown) (two_valued here)
choice_or true u true = refl
choice_or true u false = refl
choice_or false true true = refl
choice_or false true false = refl
choice_or false false true = refl
choice_or false false false = refl

-- one that the value can't be compared with
choice_unknown : (found u v : Bool) → v ≡ true → choice found v ≡ disjoined (choice found u) Unknown
choice_unknown true u v e = refl
choice_unknown false true true e = refl
choice_unknown false true false e = absurd cc
choice_unknown false false true e = refl
choice_unknown false false false e = absurd cc

or_true : (a : Bool) → (a || true) ≡ true
or_true true = refl
or_true false = refl

-- with one more number
pub added_number : (old new : Literals) (m : ℤ)
    → ((q : ℤ) → contains int_cmp new.numbers q ≡ cond (is_eq (int_cmp m q)) true (contains int_cmp old.numbers q))
    → new.texts ≡ old.texts → new.has_number ≡ true → new.has_text ≡ old.has_text → new.has_null ≡ old.has_null
    → (x : Option Rank) → among new x ≡ disjoined (among old x) (equals x (Some (Number m)))
added_number old new m put texts number text null None =
    ap (λ (a : Bool). choice false ((a || new.has_text) || new.has_null)) number
    ∙ choice_unknown false ((old.has_number || old.has_text) || old.has_null) true refl
added_number old new m put texts number text null (Some (Number n)) =
    ap (λ (f : Bool). choice f (new.has_text || new.has_null)) (put n)
    ∙ ap (λ (t : Bool). choice (cond (is_eq (int_cmp m n)) true (contains int_cmp old.numbers n)) (t || new.has_null)) text
    ∙ ap (λ (t : Bool). choice (cond (is_eq (int_cmp m n)) true (contains int_cmp old.numbers n)) (old.has_text || t)) null
    ∙ choice_or (contains int_cmp old.numbers n) (old.has_text || old.has_null) (is_eq (int_cmp m n))
    ∙ ap (λ (b : Bool). disjoined (choice (contains int_cmp old.numbers n) (old.has_text || old.has_null)) (two_valued b))
    ((eq_by_cmp_equiv int_cmp_total).symm m n)
added_number old new m put texts number text null (Some (Text t)) =
    ap (λ (s : BTreeSet (String Global)). choice (contains_text s t) (new.has_number || new.has_null)) texts
    ∙ ap (λ (a : Bool). choice (contains_text old.texts t) (a || new.has_null)) number
    ∙ choice_unknown (contains_text old.texts t) (old.has_number || old.has_null) true refl

-- with one more text
pub added_text : (old new : Literals) (bs : List ℕ)
    → ((q : List ℕ) → contains_text new.texts q ≡ cond (bytes_eq bs q) true (contains_text old.texts q))
    → new.numbers ≡ old.numbers → new.has_number ≡ old.has_number → new.has_text ≡ true → new.has_null ≡ old.has_null
    → (x : Option Rank) → among new x ≡ disjoined (among old x) (equals x (Some (Text bs)))
added_text old new bs put numbers number text null None =
    choice_unknown false ((old.has_number || old.has_text) || old.has_null) ((new.has_number || new.has_text) || new.has_null)
    (ap (λ (a : Bool). (new.has_number || a) || new.has_null) text ∙ ap (λ (a : Bool). a || new.has_null) (or_true new.has_number))
added_text old new bs put numbers number text null (Some (Number n)) =
    ap (λ (s : BTreeSet ℤ). choice (contains int_cmp s n) (new.has_text || new.has_null)) numbers
    ∙ ap (λ (a : Bool). choice (contains int_cmp old.numbers n) (a || new.has_null)) text
    ∙ choice_unknown (contains int_cmp old.numbers n) (old.has_text || old.has_null) true refl
added_text old new bs put numbers number text null (Some (Text q)) =
    ap (λ (f : Bool). choice f (new.has_number || new.has_null)) (put q)
    ∙ ap (λ (t : Bool). choice (cond (bytes_eq bs q) true (contains_text old.texts q)) (t || new.has_null)) number
    ∙ ap (λ (t : Bool). choice (cond (bytes_eq bs q) true (contains_text old.texts q)) (old.has_number || t)) null
    ∙ choice_or (contains_text old.texts q) (old.has_number || old.has_null) (bytes_eq bs q)
    ∙ ap (λ (b : Bool). disjoined (choice (contains_text old.texts q) (old.has_number || old.has_null)) (two_valued b))
    (nat_list_eq_equiv.symm bs q ∙ sym (is_eq-slice_cmp q bs))

-- with a null
pub added_null : (old new : Literals) → new.numbers ≡ old.numbers → new.texts ≡ old.texts → new.has_null ≡ true
    → (x : Option Rank) → among new x ≡ disjoined (among old x) Unknown
added_null old new numbers texts null None =
    choice_unknown false ((old.has_number || old.has_text) || old.has_null) ((new.has_number || new.has_text) || new.has_null)
    (ap (λ (a : Bool). (new.has_number || new.has_text) || a) null ∙ or_true (new.has_number || new.has_text))
added_null old new numbers texts null (Some (Number n)) =
    ap (λ (s : BTreeSet ℤ). choice (contains int_cmp s n) (new.has_text || new.has_null)) numbers
    ∙ choice_unknown (contains int_cmp old.numbers n) (old.has_text || old.has_null) (new.has_text || new.has_null)
    (ap (λ (a : Bool). new.has_text || a) null ∙ or_true new.has_text)
added_null old new numbers texts null (Some (Text t)) =
    ap (λ (s : BTreeSet (String Global)). choice (contains_text s t) (new.has_number || new.has_null)) texts
    ∙ choice_unknown (contains_text old.texts t) (old.has_number || old.has_null) (new.has_number || new.has_null)
    (ap (λ (a : Bool). new.has_number || a) null ∙ or_true new.has_number)

-- the greatest of truths with one more
or_false : (x : Truth) → disjoined x False ≡ x
or_false False = refl
or_false Unknown = refl
or_false True = refl

or_assoc : (x y z : Truth) → disjoined x (disjoined y z) ≡ disjoined (disjoined x y) z
or_assoc False y z = refl
or_assoc True y z = refl
or_assoc Unknown False z = refl
or_assoc Unknown True z = refl
or_assoc Unknown Unknown False = refl
or_assoc Unknown Unknown Unknown = refl
or_assoc Unknown Unknown True = refl

greatest_push : (ts : List Truth) (t : Truth) → greatest (ts ++ t ∷ []) ≡ disjoined (greatest ts) t
greatest_push [] t = or_false t
greatest_push (u ∷ ts) t = ap (disjoined u) (greatest_push ts t) ∙ or_assoc u (greatest ts) t

-- an equality of the column and a literal
equality_truth : (column : ColumnOf) (part : Cond) (key : Option Rank) → IsEquality column part key
    → (gives : ℕ → Value → Value → Truth) (at : ColumnOf → Value) → truth_of gives at part ≡ equals (rank_of (at column)) key
equality_truth column part key e gives at =
    ap (truth_of gives at) e.is ∙ truth_of-Compare gives at (Column column) Eq e.other
    ∙ ap (λ (y : Option Rank). truth_of_order (order_between (rank_of (at column)) y) Eq) (e.rank at)

-- one more part, and its literal
pub literals_more : (column : ColumnOf) (parts : List Cond) (i : ℕ) (d : Cond) (old new : Literals) (key : Option Rank) → i < length parts
    → AreLiterals column (take i parts) old → IsEquality column (get_or parts i d) key
    → ((x : Option Rank) → among new x ≡ disjoined (among old x) (equals x key))
    → AreLiterals column (take (i + 1) parts) new
literals_more column parts i d old new key h so_far e added gives at =
    let of = truth_of gives at in
    let part = get_or parts i d in
    ap (λ (cs : List Cond). greatest (map of cs)) (take_more parts i d h)
    ∙ ap greatest (map-append of (take i parts) (part ∷ []))
    ∙ greatest_push (map of (take i parts)) (of part)
    ∙ ap (λ (t : Truth). disjoined t (of part)) (so_far gives at)
    ∙ ap (disjoined (among old (rank_of (at column)))) (equality_truth column part key e gives at)
    ∙ sym (added (rank_of (at column)))

-- the column of the first part is read
part_at : (P : Cond → Type 0) (parts : List Cond) (part : Cond) → All P parts → slice_get parts 0 ≡ Some part → P part
part_at P parts part all at =
    subst P (get_or_from_slice_get parts 0 part part at) (all 0 part (slice_get_within parts 0 part at))

column_read : (column : ColumnOf) (parts : List Cond) → HasColumn column parts
    → (kinds : ℕ → Option Kinds) (tables : List Relation) (uses rows : List ℕ)
    → All (IsReadyOver kinds tables uses rows) parts → IsInRange tables uses rows column
column_read column parts h kinds tables uses rows ready =
    let fits = FitsHere kinds (IsSeen tables uses rows) in
    let here = every-here fits h.part (variants.Compare (Column column) h.how h.other) (level.Compare (Column column) h.how h.other)
    (variants.outs-Compare (Column column) h.how h.other) h.is (part_at (IsReadyOver kinds tables uses rows) parts h.part ready h.at) in
    here.1.0.1.0.range

-- a disjunction of equalities
pub membership_any : (c : Cond) (parts : List Cond) (m : Membership) → c ≡ variants.Any parts → m.negated ≡ false
    → HasColumn m.column parts → AreLiterals m.column parts m.literals → IsMembership c m
membership_any c parts m is plain h literals = record {
  truth = λ gives at.
      ap (truth_of gives at) is ∙ truth_of-Any gives at parts ∙ literals gives at
      ∙ ap (λ (b : Bool). turned b (among m.literals (rank_of (at m.column)))) (sym plain);
  reads = λ kinds tables uses rows ready.
      column_read m.column parts h kinds tables uses rows (every-Any (FitsHere kinds (IsSeen tables uses rows)) c parts is ready);
}

-- one that is denied
pub membership_not : (c part : Cond) (parts : List Cond) (m : Membership) → c ≡ variants.Not part → part ≡ variants.Any parts → m.negated ≡ true
    → HasColumn m.column parts → AreLiterals m.column parts m.literals → IsMembership c m
membership_not c part parts m is any denied h literals = record {
  truth = λ gives at.
      ap (truth_of gives at) is ∙ truth_of-Not gives at part
      ∙ ap negated (ap (truth_of gives at) any ∙ truth_of-Any gives at parts ∙ literals gives at)
      ∙ ap (λ (b : Bool). turned b (among m.literals (rank_of (at m.column)))) (sym denied);
  reads = λ kinds tables uses rows ready.
      let fits = FitsHere kinds (IsSeen tables uses rows) in
      column_read m.column parts h kinds tables uses rows (every-Any fits part parts any (every-Not fits c part is ready));
}

-- what holds of what was prepared, where anything was
pub prepared_so : {E : Type 0} (P Q : Membership → Type 0) (r : Result (Option Membership) E) → ((m : Membership) → P m → Q m)
    → IfOk r (λ o. IfSome o P) → IfOk r (λ o. IfSome o Q)
prepared_so P Q (Ok (Some m)) step h = step m h
prepared_so P Q (Ok None) step h = tt
prepared_so P Q (Err e) step h = tt

pub some_so : {X : Type 0} (P Q : X → Type 0) (o : Option X) → ((x : X) → P x → Q x) → IfSome o P → IfSome o Q
some_so P Q (Some x) step h = step x h
some_so P Q None step h = tt
