-- Reading stops at the first fault of a text.
use Rattle.std.proofs.Common.{◌≡◌, ◌≢◌, ◌⊎◌, inl, inr, ⊎_elim, Bool, true, false, not, ◌&&◌, ℕ, zero, suc, ◌+◌, ◌<◌, ◌≤◌, List, [], ◌∷◌, ◌++◌, length, Result, Ok, Err, IfErr, MatchResult, refl, ap, sym, subst, ◌∙◌, append_assoc, append-nil, arith}
use Rattle.std.specs.Str.{IsUtf8}
use Rattle.std.specs.Str.Lossy.{utf8_valid_len}
use Rattle.sq_token.specs.declared.mark.Mark.{Mark}
use Rattle.sq_token.specs.declared.mark.Mark.TheVariants as k
use Rattle.sq_parse.specs.declared.stop.Stop.{Stop}
use Rattle.sq_parse.specs.declared.stop.Stop.TheVariants as stop
use Rattle.sq_parse.specs.declared.parser.ParseFault.{ParseFault}
use Rattle.sq_parse.specs.declared.parser.ParseFault.TheVariants as fault
use Rattle.sq_parse.specs.declared.tree.Script.{Script}
use Rattle.sq_token.specs.Form.{Text}
use Rattle.sq_token.specs.Mark.{is}
use Rattle.sq_token.specs.Tok.{Tok, toks, head, next, done}
use Rattle.sq_parse.specs.Grammar as g
use Rattle.sq_parse.specs.Grammar.{shipped}
use Rattle.sq_parse.specs.Reading.{Outcome}
use Rattle.sq_parse.specs.Reader as read
use Rattle.sq_parse.specs.Spelling.{Spelled, Spells, unlimited}
use Rattle.sq_parse.specs.Parse.{place_in, fault_at, answer_of, parsed, Answers}
use Rattle.sq_parse.specs.Fault.{Begins, Shallow, Short, Among, up_to, IsUnexpected, IsUnfinished, IsOverLimit, IsLarge, last, is_large, HasFault, fault_place, number_of, IsNoLater, IsFault}
use Rattle.sq_parse.proofs.Exact.{Err-Ok}
use Rattle.sq_parse.proofs.StatementsExact.{script_again}
use Rattle.sq_parse.proofs.ParseLemmas.{spelled_by}
use Rattle.sq_parse.proofs.Shrinking.{nested}
use Rattle.sq_parse.proofs.Places.{fits, first, Clean}
use Rattle.sq_parse.proofs.ScriptsFail.{ScriptFailed, script_fails, script_clean, script_widens}
use Rattle.sq_parse.proofs.Wider as wider
use Rattle.sq_parse.proofs.PlaceLemmas.{Rising, rising, rising_behind, before_token, before_end, parted}

-- ---- numbers

-- a number in front of clean tokens fits where it stands
clean_at : (left : Mark) (b : List Tok) (t : Tok) (m : List Tok) (right : Mark) → Clean left (b ++ t ∷ m) right → fits (last left b) t (first m right) ≡ true
clean_at left [] t m right c = c.0
clean_at left (x ∷ b) t m right c = clean_at x.mark b t m right c.1

first_of : (m rest : List Tok) → first m (next rest) ≡ next (m ++ rest)
first_of [] rest = refl
first_of (t ∷ m) rest = refl

fits_not : (a b : Bool) → not (a && b) ≡ true → a ≡ true → b ≡ true → ⊥
fits_not true true e h i = cc
fits_not true false e h i = cc
fits_not false b e h i = cc

unfit : (a b : Bool) → not (a && b) ≡ false → (a ≡ true) × (b ≡ true)
unfit true true e = (refl, refl)
unfit true false e = cc
unfit false b e = cc

unfits : (left : Mark) (t : Tok) (right : Mark) → fits left t right ≡ false → (is k.Number t.mark ≡ true) × (is_large left t.number right ≡ true)
unfits left t right e = unfit (is k.Number t.mark) (is_large left t.number right) e

fits_none : (left : Mark) (t : Tok) (right : Mark) → fits left t right ≡ true → is k.Number t.mark ≡ true → is_large left t.number right ≡ true → ⊥
fits_none left t right e h i = fits_not (is k.Number t.mark) (is_large left t.number right) e h i

-- ---- fronts

-- what begins with more tokens begins with fewer
shorter : (spells : List Tok → Script → Type 0) (b : List Tok) (t : Tok) (m before us : List Tok) (s : Script) → before ≡ b ++ t ∷ m → spells (before ++ us) s → Begins spells (b ++ t ∷ [])
shorter spells b t m before us s e h =
    let same : (b ++ t ∷ []) ++ (m ++ us) ≡ before ++ us =
    append_assoc b (t ∷ []) (m ++ us) ∙ (sym (append_assoc b (t ∷ m) us) ∙ ap (λ z. z ++ us) (sym e)) in
    (m ++ us, s, subst (λ z. spells z s) (sym same) h)

-- the same, where the token is the next one
next_begins : (spells : List Tok → Script → Type 0) (before : List Tok) (t : Tok) (us : List Tok) (s : Script) → spells (before ++ t ∷ us) s → Begins spells (before ++ t ∷ [])
next_begins spells before t us s h = (us, s, subst (λ z. spells z s) (sym (append_assoc before (t ∷ []) us)) h)

deep : ℕ → ℕ
deep d = d + 64

deep_enough : (d : ℕ) → 64 ≤ deep d
unfolding deep
deep_enough d = omega arith

deeper : (d : ℕ) → d ≤ deep d
unfolding deep
deeper d = omega arith

no_both : {o : Outcome Script} {x : Script} {e : Stop × List Tok} {w : List Tok} → o ≡ Ok (x, w) → o ≡ Err e → ⊥
no_both p q = Err-Ok (sym q ∙ p)

-- ---- the numbers of faults

rank : Stop → ℕ
rank stop.Memory = 6
rank stop.Syntax = 2
rank stop.NumberTooLarge = 3
rank stop.TooDeep = 4
rank stop.TooManyStatements = 5

rank_syntax : (s : Stop) → s ≢ stop.Memory → (s ≢ stop.Syntax → ⊥) → rank s ≤ 2
unfolding rank
rank_syntax stop.Memory never h = absurd (never refl)
rank_syntax stop.Syntax never h = omega arith
rank_syntax stop.NumberTooLarge never h = absurd (h (λ e. cc))
rank_syntax stop.TooDeep never h = absurd (h (λ e. cc))
rank_syntax stop.TooManyStatements never h = absurd (h (λ e. cc))

rank_number : (s : Stop) → s ≢ stop.Memory → (s ≢ stop.Syntax → s ≢ stop.NumberTooLarge → ⊥) → rank s ≤ 3
unfolding rank
rank_number stop.Memory never h = absurd (never refl)
rank_number stop.Syntax never h = omega arith
rank_number stop.NumberTooLarge never h = omega arith
rank_number stop.TooDeep never h = absurd (h (λ e. cc) (λ e. cc))
rank_number stop.TooManyStatements never h = absurd (h (λ e. cc) (λ e. cc))

rank_deep : (s : Stop) → s ≢ stop.Memory → (s ≡ stop.TooManyStatements → ⊥) → rank s ≤ 4
unfolding rank
rank_deep stop.Memory never h = absurd (never refl)
rank_deep stop.Syntax never h = omega arith
rank_deep stop.NumberTooLarge never h = omega arith
rank_deep stop.TooDeep never h = omega arith
rank_deep stop.TooManyStatements never h = absurd (h refl)

rank_many : (s : Stop) → s ≢ stop.Memory → rank s ≤ 5
unfolding rank
rank_many stop.Memory never = absurd (never refl)
rank_many stop.Syntax never = omega arith
rank_many stop.NumberTooLarge never = omega arith
rank_many stop.TooDeep never = omega arith
rank_many stop.TooManyStatements never = omega arith

abbrev Comes : Stop → ℕ → ParseFault → Type 0
Comes s at other = (at < fault_place other) ⊎ ((at ≡ fault_place other) × (rank s ≤ number_of other))

comes_first : (s : Stop) (at : ℕ) (other : ParseFault) → s ≢ stop.Memory → Comes s at other → IsNoLater (fault_at s at) other
unfolding rank
comes_first stop.Memory at other never h = absurd (never refl)
comes_first stop.Syntax at other never h = h
comes_first stop.NumberTooLarge at other never h = h
comes_first stop.TooDeep at other never h = h
comes_first stop.TooManyStatements at other never h = h

no_false : {b : Bool} → b ≡ true → b ≡ false → ⊥
no_false p q = cc

module _ (z : Text) (valid : IsUtf8 z) where
  abbrev ts : List Tok
  ts = toks 0 z

  abbrev end : ℕ
  end = length z

  begun_unlimited : (s : Stop) (rest : List Tok) (f : ScriptFailed ts s rest) → (us : List Tok) × (tree : Script) × g.script unlimited 64 (f.before ++ us) tree × (length tree.statements ≤ 64)
  begun_unlimited s rest f = (f.begun.0, f.begun.1, script_widens _ _ f.begun.2 f.begun.3, f.begun.3)

  -- no script within the limits that count goes on with the next token
  stuck : (s : Stop) (rest : List Tok) (f : ScriptFailed ts s rest) → s ≢ stop.NumberTooLarge → (d : ℕ) → 64 ≤ d → (s ≡ stop.TooDeep → d ≡ 64) → s ≢ stop.TooManyStatements
      → (rest' : List Tok) → next rest ≡ next rest' → done rest ≡ done rest' → (tree : Script) → g.script unlimited d (f.before ++ rest') tree → ⊥
  stuck s rest f counts d high within few rest' same same_done tree h =
      let n : ℕ = length tree.statements + 63 in
      no_both (script_again unlimited (λ m e. refl) d n (f.before ++ rest') tree h (omega arith)) (f.again d n high (omega arith) counts within (λ e. absurd (few e)) rest' same same_done)

  stuck_short : (rest : List Tok) (f : ScriptFailed ts stop.TooManyStatements rest) → (d : ℕ) → 64 ≤ d
      → (rest' : List Tok) → next rest ≡ next rest' → done rest ≡ done rest' → (tree : Script) → g.script unlimited d (f.before ++ rest') tree → length tree.statements ≤ 64 → ⊥
  stuck_short rest f d high rest' same same_done tree h few =
      no_both (script_again unlimited (λ m e. refl) d 63 (f.before ++ rest') tree h few) (f.again d 63 high (omega arith) (λ e. cc) (λ e. cc) (λ e. refl) rest' same same_done)

  spelled_deep : (d : ℕ) (b : List Tok) (t : Tok) (more : List Tok) (tree : Script) → g.script unlimited d ((b ++ t ∷ []) ++ more) tree → g.script unlimited (deep d) (b ++ t ∷ more) tree
  spelled_deep d b t more tree h = wider.script unlimited d (deep d) (deeper d) _ tree (subst (λ w. g.script unlimited d w tree) (append_assoc b (t ∷ []) more) h)

  -- ---- the fault that reading answers is there

  found_at : (s : Stop) (t : Tok) (r : List Tok) (f : ScriptFailed ts s (t ∷ r)) → Among ts
  found_at s t r f = record { before = f.before; token = t; behind = r; parts = f.parts }

  has_unexpected : (t : Tok) (r : List Tok) (f : ScriptFailed ts stop.Syntax (t ∷ r)) → IsUnexpected ts t.at
  has_unexpected t r f = record {
    found = record { before = f.before; token = t; behind = r; parts = f.parts };
    place = refl;
    begins = let b = begun_unlimited stop.Syntax (t ∷ r) f in (b.0, b.1, (64, b.2));
    ends = λ b. stuck stop.Syntax (t ∷ r) f (λ e. cc) (deep b.2.0) (deep_enough b.2.0) (λ e. cc) (λ e. cc) (t ∷ b.0) refl refl b.1 (spelled_deep b.2.0 f.before t b.0 b.1 b.2.1);
  }

  has_unfinished : (f : ScriptFailed ts stop.Syntax []) → IsUnfinished ts
  has_unfinished f =
      let whole : ts ≡ f.before = f.parts ∙ append-nil f.before in
      let b = begun_unlimited stop.Syntax [] f in
      record {
        begins = (b.0, b.1, (64, subst (λ w. g.script unlimited 64 (w ++ b.0) b.1) (sym whole) b.2));
        unfinished = λ tree h. stuck stop.Syntax [] f (λ e. cc) (deep h.0) (deep_enough h.0) (λ e. cc) (λ e. cc) [] refl refl tree
            (wider.script unlimited h.0 (deep h.0) (deeper h.0) _ tree (subst (λ w. g.script unlimited h.0 w tree) f.parts h.1));
      }

  has_large : (t : Tok) (r : List Tok) (f : ScriptFailed ts stop.NumberTooLarge (t ∷ r)) → IsLarge ts t.at
  has_large t r f =
      let u = unfits (last k.End f.before) t (next r) (f.large refl) in
      record { found = record { before = f.before; token = t; behind = r; parts = f.parts }; place = refl; number = u.0; large = u.1 }

  has_deep : (t : Tok) (r : List Tok) (f : ScriptFailed ts stop.TooDeep (t ∷ r)) → IsOverLimit Shallow ts t.at
  has_deep t r f = record {
    found = record { before = f.before; token = t; behind = r; parts = f.parts };
    place = refl;
    begins = let b = begun_unlimited stop.TooDeep (t ∷ r) f in (b.0, b.1, b.2);
    goes_on = let b = f.further (λ e. cc) in next_begins Spells f.before t b.0 b.1 (65, b.2);
    ends = λ b. stuck stop.TooDeep (t ∷ r) f (λ e. cc) 64 (omega arith) (λ e. refl) (λ e. cc) (t ∷ b.0) refl refl b.1 (subst (λ w. g.script unlimited 64 w b.1) (append_assoc f.before (t ∷ []) b.0) b.2);
  }

  has_many : (t : Tok) (r : List Tok) (f : ScriptFailed ts stop.TooManyStatements (t ∷ r)) → IsOverLimit Short ts t.at
  has_many t r f = record {
    found = record { before = f.before; token = t; behind = r; parts = f.parts };
    place = refl;
    begins = let b = begun_unlimited stop.TooManyStatements (t ∷ r) f in (b.0, b.1, ((64, b.2), b.3));
    goes_on = let b = f.further (λ e. cc) in next_begins Spells f.before t b.0 b.1 (65, b.2);
    ends = λ b. stuck_short (t ∷ r) f (deep b.2.0.0) (deep_enough b.2.0.0) (t ∷ b.0) refl refl b.1 (spelled_deep b.2.0.0 f.before t b.0 b.1 b.2.0.1) b.2.1;
  }

  no_next : {t : Tok} {more : List Tok} → ◌≡◌ {A = List Tok} [] (t ∷ more) → ⊥
  no_next e = cc

  has : (s : Stop) (rest : List Tok) → ScriptFailed ts s rest → HasFault z (fault_at s (place_in end rest))
  has stop.Memory rest f = absurd (f.never refl)
  has stop.Syntax [] f = (valid, inr (refl, has_unfinished f))
  has stop.Syntax (t ∷ r) f = (valid, inl (has_unexpected t r f))
  has stop.NumberTooLarge [] f = absurd (no_next (f.there (λ e. cc)).2)
  has stop.NumberTooLarge (t ∷ r) f = (valid, has_large t r f)
  has stop.TooDeep [] f = absurd (no_next (f.there (λ e. cc)).2)
  has stop.TooDeep (t ∷ r) f = (valid, has_deep t r f)
  has stop.TooManyStatements [] f = absurd (no_next (f.there (λ e. cc)).2)
  has stop.TooManyStatements (t ∷ r) f = (valid, has_many t r f)

  -- ---- no other fault is there before it

  -- an other fault stands in front, or at or behind the place
  module _ (s : Stop) (rest : List Tok) (f : ScriptFailed ts s rest) where
    abbrev at : ℕ
    at = place_in end rest

    begun_spells : (b : List Tok) (t : Tok) (m : List Tok) → f.before ≡ b ++ t ∷ m → Begins Spells (b ++ t ∷ [])
    begun_spells b t m e = let u = begun_unlimited s rest f in shorter Spells b t m f.before u.0 u.1 e (64, u.2)

    begun_shallow : (b : List Tok) (t : Tok) (m : List Tok) → f.before ≡ b ++ t ∷ m → Begins Shallow (b ++ t ∷ [])
    begun_shallow b t m e = let u = begun_unlimited s rest f in shorter Shallow b t m f.before u.0 u.1 e u.2

    begun_short : (b : List Tok) (t : Tok) (m : List Tok) → f.before ≡ b ++ t ∷ m → Begins Short (b ++ t ∷ [])
    begun_short b t m e = let u = begun_unlimited s rest f in shorter Short b t m f.before u.0 u.1 e ((64, u.2), u.3)

    -- a token that isn't in front stands behind the place, or is the next one
    behind_place : (found : Among ts) → (m : List Tok) × (found.before ≡ f.before ++ m) × (rest ≡ m ++ found.token ∷ found.behind)
        → (at < found.token.at) ⊎ ((found.before ≡ f.before) × (rest ≡ found.token ∷ found.behind))
    behind_place found h =
        let r = rising_behind 0 end f.before rest (subst (λ w. Rising 0 w end) f.parts (rising z)) in
        ⊎_elim
        (λ l. inl (subst (λ w. place_in end w < found.token.at) (sym h.2) l))
        (λ none. inr (h.1 ∙ (ap (λ m. f.before ++ m) none ∙ append-nil f.before), h.2 ∙ ap (λ m. m ++ found.token ∷ found.behind) none))
        (before_token r.0 end h.0 found.token found.behind (subst (λ w. Rising r.0 w end) h.2 r.1))

    where_is : (found : Among ts) → ((m : List Tok) × (f.before ≡ found.before ++ found.token ∷ m) × (found.behind ≡ m ++ rest))
        ⊎ ((at < found.token.at) ⊎ ((found.before ≡ f.before) × (rest ≡ found.token ∷ found.behind)))
    where_is found = ⊎_elim inl (λ h. inr (behind_place found h)) (parted found.before found.token found.behind f.before rest (sym found.parts ∙ f.parts))

    -- no number in front is too large
    fits_before : (found : Among ts) → is k.Number found.token.mark ≡ true → is_large (last k.End found.before) found.token.number (next found.behind) ≡ true
        → (m : List Tok) × (f.before ≡ found.before ++ found.token ∷ m) × (found.behind ≡ m ++ rest) → ⊥
    fits_before found number large h =
        let c = clean_at k.End found.before found.token h.0 (next rest) (subst (λ w. Clean k.End w (next rest)) h.1 f.clean) in
        let same : first h.0 (next rest) ≡ next found.behind = first_of h.0 rest ∙ ap next (sym h.2) in
        fits_none (last k.End found.before) found.token (next found.behind) (subst (λ m. fits (last k.End found.before) found.token m ≡ true) same c) number large

    -- what goes on with the next token goes on with the one that is found
    begins_next : (spells : List Tok → Script → Type 0) (found : Among ts) (us : List Tok) (tree : Script) → spells (f.before ++ (head rest ∷ us)) tree → found.before ≡ f.before → rest ≡ found.token ∷ found.behind → Begins spells (up_to found)
    begins_next spells found us tree h same next_is =
        let token : head rest ≡ found.token = ap head next_is in
        let moved : f.before ++ (head rest ∷ us) ≡ found.before ++ found.token ∷ us = ap (λ t. f.before ++ (t ∷ us)) token ∙ ap (λ b. b ++ found.token ∷ us) (sym same) in
        next_begins spells found.before found.token us tree (subst (λ w. spells w tree) moved h)

    at_next : (found : Among ts) → rest ≡ found.token ∷ found.behind → at ≡ found.token.at
    at_next found next_is = ap (λ w. place_in end w) next_is

    before_unexpected : (at' : ℕ) → IsUnexpected ts at' → Comes s at (fault.Syntax at')
    before_unexpected at' x = ⊎_elim
        (λ h. absurd (x.ends (begun_spells x.found.before x.found.token h.0 h.1)))
        (⊎_elim (λ l. inl (subst (λ p. at < p) x.place l))
        (λ h. inr (at_next x.found h.1 ∙ x.place, rank_syntax s f.never (λ other. let b = f.further other in x.ends (begins_next Spells x.found b.0 b.1 (65, b.2) h.0 h.1)))))
        (where_is x.found)

    before_unfinished : IsUnfinished ts → Comes s at (fault.Syntax end)
    before_unfinished x =
        let r = rising_behind 0 end f.before rest (subst (λ w. Rising 0 w end) f.parts (rising z)) in
        ⊎_elim inl
        (λ none. inr (ap (λ w. place_in end w) none, rank_syntax s f.never (λ other. let t = f.there other in no_next (sym none ∙ t.2))))
        (before_end r.0 end rest r.1)

    before_large : (at' : ℕ) → IsLarge ts at' → Comes s at (fault.NumberTooLarge at')
    before_large at' x = ⊎_elim
        (λ h. absurd (fits_before x.found x.number x.large h))
        (⊎_elim (λ l. inl (subst (λ p. at < p) x.place l))
        (λ h. inr (at_next x.found h.1 ∙ x.place, rank_number s f.never (λ a b. no_false x.number (sym (ap (λ w. is k.Number (next w)) h.1) ∙ f.no_number a b)))))
        (where_is x.found)

    before_deep : (at' : ℕ) → IsOverLimit Shallow ts at' → Comes s at (fault.TooDeep at')
    before_deep at' x = ⊎_elim
        (λ h. absurd (x.ends (begun_shallow x.found.before x.found.token h.0 h.1)))
        (⊎_elim (λ l. inl (subst (λ p. at < p) x.place l))
        (λ h. inr (at_next x.found h.1 ∙ x.place, rank_deep s f.never (λ many. let b = f.shallow many in x.ends (begins_next Shallow x.found b.0 b.1 b.2 h.0 h.1)))))
        (where_is x.found)

    before_many : (at' : ℕ) → IsOverLimit Short ts at' → Comes s at (fault.TooManyStatements at')
    before_many at' x = ⊎_elim
        (λ h. absurd (x.ends (begun_short x.found.before x.found.token h.0 h.1)))
        (⊎_elim (λ l. inl (subst (λ p. at < p) x.place l))
        (λ h. inr (at_next x.found h.1 ∙ x.place, rank_many s f.never)))
        (where_is x.found)

    before_syntax : (at' : ℕ) → IsUnexpected ts at' ⊎ ((at' ≡ end) × IsUnfinished ts) → Comes s at (fault.Syntax at')
    before_syntax at' (inl x) = before_unexpected at' x
    before_syntax at' (inr x) = subst (λ p. Comes s at (fault.Syntax p)) (sym x.0) (before_unfinished x.1)

    before_others : (other : ParseFault) → HasFault z other → Comes s at other
    before_others (fault.NotUtf8 at') h = absurd (h.0 valid)
    before_others (fault.Syntax at') h = before_syntax at' h.1
    before_others (fault.NumberTooLarge at') h = before_large at' h.1
    before_others (fault.TooDeep at') h = before_deep at' h.1
    before_others (fault.TooManyStatements at') h = before_many at' h.1
    before_others fault.Memory h = absurd h

    is_fault : IsFault z (fault_at s at)
    is_fault = record { has = has s rest f; first = λ other h. comes_first s at other f.never (before_others other h) }

  -- ---- a script has no fault

  first_end : (m : List Tok) → first m k.End ≡ next m
  first_end [] = refl
  first_end (t ∷ m) = refl

  module _ (tree : Script) (spelled : Spelled z tree) where
    whole : (found : Among ts) → up_to found ++ found.behind ≡ ts
    whole found = append_assoc found.before (found.token ∷ []) found.behind ∙ sym found.parts

    begins_whole : (spells : List Tok → Script → Type 0) (found : Among ts) → spells ts tree → Begins spells (up_to found)
    begins_whole spells found h = (found.behind, tree, subst (λ w. spells w tree) (sym (whole found)) h)

    spelled_unlimited : g.script unlimited 64 ts tree
    spelled_unlimited = script_widens ts tree spelled.0 spelled.1

    no_syntax : (p : ℕ) → IsUnexpected ts p ⊎ ((p ≡ end) × IsUnfinished ts) → ⊥
    no_syntax p (inl x) = x.ends (begins_whole Spells x.found (64, spelled_unlimited))
    no_syntax p (inr x) = x.1.unfinished tree (64, spelled_unlimited)

    no_large : (p : ℕ) → IsLarge ts p → ⊥
    no_large p x =
        let read_ok = script_again shipped nested 64 63 ts tree spelled.0 spelled.1 in
        let c = script_clean ts tree [] read_ok in
        let d = clean_at k.End x.found.before x.found.token x.found.behind k.End (subst (λ w. Clean k.End w k.End) x.found.parts c) in
        fits_none (last k.End x.found.before) x.found.token (next x.found.behind) (subst (λ m. fits (last k.End x.found.before) x.found.token m ≡ true) (first_end x.found.behind) d) x.number x.large

    no_fault : (f : ParseFault) → HasFault z f → ⊥
    no_fault (fault.NotUtf8 p) h = h.0 valid
    no_fault (fault.Syntax p) h = no_syntax p h.1
    no_fault (fault.NumberTooLarge p) h = no_large p h.1
    no_fault (fault.TooDeep p) h = h.1.ends (begins_whole Shallow h.1.found spelled_unlimited)
    no_fault (fault.TooManyStatements p) h = h.1.ends (begins_whole Short h.1.found ((64, spelled_unlimited), spelled.1))
    no_fault fault.Memory h = h

  -- ---- there is one first fault

  fault_from : ℕ → ℕ → ParseFault
  fault_from zero p = fault.Memory
  fault_from (suc zero) p = fault.NotUtf8 p
  fault_from (suc (suc zero)) p = fault.Syntax p
  fault_from (suc (suc (suc zero))) p = fault.NumberTooLarge p
  fault_from (suc (suc (suc (suc zero)))) p = fault.TooDeep p
  fault_from (suc (suc (suc (suc (suc zero))))) p = fault.TooManyStatements p
  fault_from (suc (suc (suc (suc (suc (suc n)))))) p = fault.Memory

  from_parts : (f : ParseFault) → fault_from (number_of f) (fault_place f) ≡ f
  unfolding fault_from
  from_parts (fault.NotUtf8 p) = refl
  from_parts (fault.Syntax p) = refl
  from_parts (fault.NumberTooLarge p) = refl
  from_parts (fault.TooDeep p) = refl
  from_parts (fault.TooManyStatements p) = refl
  from_parts fault.Memory = refl

  same_parts : (x y : ParseFault) → IsNoLater x y → IsNoLater y x → (number_of x ≡ number_of y) × (fault_place x ≡ fault_place y)
  same_parts x y (inl a) (inl b) = absurd (omega (arith, a, b))
  same_parts x y (inl a) (inr b) = absurd (omega (arith, a, b.0))
  same_parts x y (inr a) (inl b) = absurd (omega (arith, a.0, b))
  same_parts x y (inr a) (inr b) = (omega (arith, a.1, b.1), a.0)

  one_fault : (x y : ParseFault) → IsFault z x → IsFault z y → x ≡ y
  one_fault x y h i =
      let p = same_parts x y (h.first y i.has) (i.first x h.has) in
      sym (from_parts x) ∙ (ap (λ n. fault_from n (fault_place x)) p.0 ∙ (ap (λ a. fault_from (number_of y) a) p.1 ∙ from_parts y))

  -- ---- so reading answers the first fault

  refused : (o : Outcome Script) (f : ParseFault) → answer_of end o ≡ Err f → (s : Stop) × (rest : List Tok) × (o ≡ Err (s, rest)) × (fault_at s (place_in end rest) ≡ f)
  refused (Ok p) f e = cc
  refused (Err e') f e = (e'.0, e'.1, refl, let inner : fault_at e'.0 (place_in end e'.1) ≡ f = cc in inner)

  pub fault_is : (f : ParseFault) → parsed z ≡ Err f → IsFault z f
  unfolding parsed
  fault_is f e =
      let r = refused (read.script shipped 64 63 ts) f e in
      subst (λ x. IsFault z x) r.3 (is_fault r.0 r.1 (script_fails ts r.0 r.1 r.2))

  decided : (r : Result Script ParseFault) → parsed z ≡ r → (f : ParseFault) → IsFault z f → r ≡ Err f
  decided (Ok tree) e f h = absurd (no_fault tree (spelled_by z tree e) f h.has)
  decided (Err x) e f h = ap Err (one_fault x f (fault_is x e) h)

  pub fault_only : (f : ParseFault) → IsFault z f → parsed z ≡ Err f
  fault_only f h = decided (parsed z) refl f h

  -- ---- what a parser ensures

  pub answers_fault : (r : Result Script ParseFault) → Answers z r → IfErr r (λ f. f ≢ fault.Memory → IsFault z f)
  answers_fault (Ok tree) a = tt
  answers_fault (Err f) a = λ other. fault_is f (a other)

  two_answers : {tree : Script} {f : ParseFault} → parsed z ≡ Ok tree → parsed z ≡ Err f → ⊥
  two_answers p q = Err-Ok (sym q ∙ p)

  one_answer : {f f' : ParseFault} → parsed z ≡ Err f → parsed z ≡ Err f' → f ≡ f'
  one_answer p q = let e : ◌≡◌ {A = Result Script ParseFault} (Err _) (Err _) = sym p ∙ q in cc

  found_fault : (found f : ParseFault) → (found ≢ fault.Memory → parsed z ≡ Err found) → parsed z ≡ Err f → (found ≡ f) ⊎ (found ≡ fault.Memory)
  found_fault fault.Memory f a h = inr refl
  found_fault (fault.NotUtf8 p) f a h = inl (one_answer (a (λ e. cc)) h)
  found_fault (fault.Syntax p) f a h = inl (one_answer (a (λ e. cc)) h)
  found_fault (fault.NumberTooLarge p) f a h = inl (one_answer (a (λ e. cc)) h)
  found_fault (fault.TooDeep p) f a h = inl (one_answer (a (λ e. cc)) h)
  found_fault (fault.TooManyStatements p) f a h = inl (one_answer (a (λ e. cc)) h)

  pub answers_every_fault : (f : ParseFault) → IsFault z f → (r : Result Script ParseFault) → Answers z r → MatchResult r (λ tree. ⊥) (λ found. (found ≡ f) ⊎ (found ≡ fault.Memory))
  answers_every_fault f h (Ok tree) a = two_answers a (fault_only f h)
  answers_every_fault f h (Err found) a = found_fault found f a (fault_only f h)

-- ---- a text that isn't UTF-8

module _ (z : Text) (invalid : IsUtf8 z → ⊥) where
  before_all : (other : ParseFault) → HasFault z other → IsNoLater (fault.NotUtf8 (utf8_valid_len z)) other
  before_all (fault.NotUtf8 p) h = inr (sym h.1, omega arith)
  before_all (fault.Syntax p) h = absurd (invalid h.0)
  before_all (fault.NumberTooLarge p) h = absurd (invalid h.0)
  before_all (fault.TooDeep p) h = absurd (invalid h.0)
  before_all (fault.TooManyStatements p) h = absurd (invalid h.0)
  before_all fault.Memory h = absurd h

  pub not_utf8_is : IsFault z (fault.NotUtf8 (utf8_valid_len z))
  not_utf8_is = record { has = (invalid, refl); first = before_all }

  pub not_utf8_only : (f : ParseFault) → IsFault z f → f ≡ fault.NotUtf8 (utf8_valid_len z)
  not_utf8_only (fault.NotUtf8 p) h = ap fault.NotUtf8 h.has.1
  not_utf8_only (fault.Syntax p) h = absurd (invalid h.has.0)
  not_utf8_only (fault.NumberTooLarge p) h = absurd (invalid h.has.0)
  not_utf8_only (fault.TooDeep p) h = absurd (invalid h.has.0)
  not_utf8_only (fault.TooManyStatements p) h = absurd (invalid h.has.0)
  not_utf8_only fault.Memory h = absurd h.has
