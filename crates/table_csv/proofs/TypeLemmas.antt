-- What is known of columns from the fields that were seen.
use Rattle.std.proofs.Common.{◌≡◌, ℕ, zero, suc, ◌+◌, ◌<◌, ◌≤◌, Bool, true, false, List, [], ◌∷◌, ◌++◌, length, take, drop, get_or, set, drop_of_length-le, Some, None, refl, sym, ap, ◌∙◌, arith, add-one}
use Rattle.std.specs.Prelude.{IsUtf8, is_ok}
use Rattle.std.proofs.lemmas.Str.{is_utf8-from_IsUtf8}
use Rattle.csv.specs.Records.{field_at}
use Rattle.sq_value.specs.Numeral.{number_read}
use Rattle.table_csv.specs.declared.types.Seen.{Seen}
use Rattle.table_csv.specs.Heading.{is_canonical, is_canonical_numeral}
use Rattle.table_csv.specs.Work.{all_learned, learned}
use Rattle.std.proofs.lemmas.List.{append-nil, take-append-drop, take_all}
use Rattle.table_csv.proofs.FieldLemmas.{drop-past, is_utf8-not}

-- the test of a text that is a canonical numeral
pub canonical-is : (field text : List ℕ) (numeral ok : Bool) → text ≡ field → IsUtf8 field → numeral ≡ is_canonical_numeral field → numeral ≡ true
    → ok ≡ is_ok (number_read text) → ok ≡ is_canonical field
canonical-is field text numeral ok same utf8 is passed read =
    rw (is_utf8-from_IsUtf8 field utf8, sym is ∙ passed) (read ∙ ap (λ t. is_ok (number_read t)) same)

pub canonical-not_utf8 : (field : List ℕ) → ¬ (IsUtf8 field) → false ≡ is_canonical field
canonical-not_utf8 field isnt = rw (is_utf8-not field isnt) refl

-- one field more of a record was learned
learned-more-suc : (ss : List Seen) (i : ℕ) (fs : List (List ℕ)) (f : List ℕ) (d : Seen) → i < length ss → field_at fs i ≡ Some f
    → take (suc i) (set ss i (learned (get_or ss i d) f)) ++ all_learned (drop (suc i) (set ss i (learned (get_or ss i d) f))) (drop (suc i) fs)
    ≡ take i ss ++ all_learned (drop i ss) (drop i fs)
unfolding all_learned field_at
learned-more-suc [] i fs f d h e = absurd (omega arith)
learned-more-suc (s ∷ ss) i [] f d h e = absurd cc
learned-more-suc (s ∷ ss) zero (g ∷ fs) f d h e =
    let same : g ≡ f = cc in
    ap (λ k. learned s k ∷ all_learned ss fs) (sym same)
learned-more-suc (s ∷ ss) (suc i) (g ∷ fs) f d h e = ap (λ rest. s ∷ rest) (learned-more-suc ss i fs f d (omega arith) e)

pub learned-more : (ss : List Seen) (i : ℕ) (fs : List (List ℕ)) (f : List ℕ) (d : Seen) → i < length ss → field_at fs i ≡ Some f
    → take (i + 1) (set ss i (learned (get_or ss i d) f)) ++ all_learned (drop (i + 1) (set ss i (learned (get_or ss i d) f))) (drop (i + 1) fs)
    ≡ take i ss ++ all_learned (drop i ss) (drop i fs)
learned-more ss i fs f d h e = rw (add-one i) (learned-more-suc ss i fs f d h e)

-- a record without fields shows nothing
learned-none : (ss : List Seen) → all_learned ss [] ≡ ss
unfolding all_learned
learned-none [] = refl
learned-none (t ∷ ts) = refl

past-more : (fs : List (List ℕ)) (i : ℕ) → field_at fs i ≡ None → field_at fs (i + 1) ≡ None
unfolding field_at
past-more [] i e = refl
past-more (g ∷ fs) zero e = absurd cc
past-more (g ∷ fs) (suc i) e = rw (add-one (suc i), sym (add-one i)) (past-more fs i e)

-- a shorter record shows nothing of a column
pub learned-past : (ss : List Seen) (i : ℕ) (fs : List (List ℕ)) → field_at fs i ≡ None
    → take (i + 1) ss ++ all_learned (drop (i + 1) ss) (drop (i + 1) fs) ≡ take i ss ++ all_learned (drop i ss) (drop i fs)
learned-past ss i fs e =
    rw (
      drop-past fs i e,
      drop-past fs (i + 1) (past-more fs i e),
      learned-none (drop (i + 1) ss),
      learned-none (drop i ss),
      take-append-drop (i + 1) ss,
      take-append-drop i ss,
    ) refl

-- no column is left
pub learned-end : (ss : List Seen) (i : ℕ) (fs : List (List ℕ)) → length ss ≤ i → take i ss ++ all_learned (drop i ss) (drop i fs) ≡ ss
unfolding all_learned
learned-end ss i fs h = rw (drop_of_length-le ss {i = i} h, take_all i ss h) (append-nil ss)
