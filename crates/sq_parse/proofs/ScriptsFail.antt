-- What stands before the place where reading a script stops, and what the fault there depends on.
use Rattle.std.proofs.Common.{◌≡◌, ◌≢◌, true, false, ⊎_elim, ℕ, suc, ◌+◌, ◌≤◌, List, [], ◌∷◌, ◌++◌, length, length-append, Ok, Err, refl, ap, ap₂, sym, subst, ◌∙◌, append-nil, arith}
use Rattle.sq_token.specs.declared.mark.Mark.{Mark}
use Rattle.sq_token.specs.declared.mark.Mark.TheVariants as k
use Rattle.sq_parse.specs.declared.stop.Stop.{Stop}
use Rattle.sq_parse.specs.declared.stop.Stop.TheVariants as stop
use Rattle.sq_parse.specs.declared.tree.Script.{Script}
use Rattle.sq_token.specs.Mark.{is}
use Rattle.sq_token.specs.Tok.{Tok, head, next, behind, done}
use Rattle.sq_parse.specs.Grammar as g
use Rattle.sq_parse.specs.Grammar.{Limits, shipped}
use Rattle.sq_parse.specs.Spelling.{unlimited}
use Rattle.sq_parse.specs.Reader as read
use Rattle.sq_parse.specs.Fault.{last}
use Rattle.sq_parse.proofs.Exact.{Ok-value, Err-Ok, if_ok, and_then_ok}
use Rattle.sq_parse.proofs.Places.{fits, Clean, view}
use Rattle.sq_parse.proofs.Tracks.{Faults, Stands, Failed, Further, Passed, Tracks, any, unstarred}
use Rattle.sq_parse.proofs.ScriptsTrack.{Fits, script}
use Rattle.sq_parse.proofs.StatementsExact.{script_again}
use Rattle.sq_parse.proofs.Shrinking.{nested}

-- where reading a script within a depth, of one statement and at most so many more, stopped
pub record StoppedAt (d n : ℕ) (ts : List Tok) (s : Stop) (rest : List Tok) : Type 0 where
  pub before : List Tok
  pub parts : ts ≡ before ++ rest
  -- within all limits some script begins with what stands before
  pub begun : (us : List Tok) × (tree : Script) × g.script shipped d (before ++ us) tree × (length tree.statements ≤ suc n)
  -- where it isn't Syntax, a script without the limits goes on with the next token, which is there
  pub further : s ≢ stop.Syntax → (us : List Tok) × (tree : Script) × g.script unlimited (suc d) (before ++ head rest ∷ us) tree
  pub there : s ≢ stop.Syntax → (t : Tok) × (more : List Tok) × (rest ≡ t ∷ more)
  -- where it isn't TooDeep either, one within the depth
  pub level : s ≢ stop.Syntax → s ≢ stop.TooDeep → (us : List Tok) × (tree : Script) × g.script unlimited d (before ++ head rest ∷ us) tree
  pub shallow : s ≡ stop.TooManyStatements → (us : List Tok) × (tree : Script) × g.script unlimited d (before ++ head rest ∷ us) tree
  -- the fault doesn't depend on what stands behind the next token, nor on wider limits of other kinds
  pub again : (d' n' : ℕ) → d ≤ d' → n ≤ n' → s ≢ stop.NumberTooLarge → (s ≡ stop.TooDeep → d' ≡ d) → (s ≡ stop.TooManyStatements → n' ≡ n)
      → (rest' : List Tok) → next rest ≡ next rest' → done rest ≡ done rest' → read.script unlimited d' n' (before ++ rest') ≡ Err (s, rest')
  -- no number before is too large, and a number that is too large is
  pub clean : Clean k.End before (next rest)
  pub large : s ≡ stop.NumberTooLarge → fits (last k.End before) (head rest) (next (behind rest)) ≡ false
  pub never : s ≢ stop.Memory
  -- the token of a fault of depth or of statements is no number
  pub no_number : s ≢ stop.Syntax → s ≢ stop.NumberTooLarge → is k.Number (next rest) ≡ false

-- the limits of scripts
abbrev pub ScriptFailed : List Tok → Stop → List Tok → Type 0
ScriptFailed = StoppedAt 64 63

-- ---- lists of tokens

cancel : (us vs rest : List Tok) → us ++ rest ≡ vs ++ rest → us ≡ vs
cancel [] [] rest e = refl
cancel [] (v ∷ vs) rest e = let longer : length rest ≡ length (v ∷ vs) + length rest = ap length e ∙ length-append (v ∷ vs) rest in absurd (omega arith)
cancel (u ∷ us) [] rest e = let longer : length rest ≡ length (u ∷ us) + length rest = sym (ap length e) ∙ length-append (u ∷ us) rest in absurd (omega arith)
cancel (u ∷ us) (v ∷ vs) rest e = ap₂ (λ x xs. x ∷ xs) (ap head e) (cancel us vs rest (ap behind e))

seen : (v w : List Tok) → next v ≡ next w → done v ≡ done w → view v ≡ view w
seen v w e f = ap₂ (λ m b. (m, b)) e f

no_number : (s : Stop) (m : Mark) → Stands s m → s ≢ stop.Syntax → s ≢ stop.NumberTooLarge → is k.Number m ≡ false
no_number stop.Memory m h a b = absurd h
no_number stop.Syntax m h a b = absurd (a refl)
no_number stop.NumberTooLarge m h a b = absurd (b refl)
no_number stop.TooDeep m h a b = h
no_number stop.TooManyStatements m h a b = h

-- ---- what is asked

-- beside a reader without limits of this depth and number of statements
abbrev beside : ℕ → ℕ → ℕ → ℕ → Faults
beside d n d' n' = record {
  counts = λ s. (s ≢ stop.NumberTooLarge) × (s ≡ stop.TooDeep → d' ≡ d) × (s ≡ stop.TooManyStatements → n' ≡ n);
  owed = λ s. s ≢ stop.Syntax;
  no_number = λ c. c.0 refl;
  no_syntax = λ o. o refl;
}

-- beside a rule of the same depth
abbrev within_depth : Faults
within_depth = record {
  counts = λ s. ⊥;
  owed = λ s. (s ≢ stop.Syntax) × (s ≢ stop.TooDeep);
  no_number = λ c. c;
  no_syntax = λ o. o.0 refl;
}

module _ (d n : ℕ) where
  tracked : (d' n' : ℕ) → d ≤ d' → n ≤ n' → Tracks (Fits d n) (g.script unlimited (suc d)) (read.script shipped d n) (read.script unlimited d' n') (beside d n d' n') any unstarred
  tracked d' n' a b = script (beside d n d' n') d d' (suc d) a (omega arith) (λ c. sym (c.1 refl)) (λ o. omega arith) n n' b (λ c. sym (c.2 refl))

  level_tracked : Tracks (Fits d n) (g.script unlimited d) (read.script shipped d n) (read.script unlimited d n) within_depth any unstarred
  level_tracked = script within_depth d d d (omega arith) (omega arith) (λ c. absurd c) (λ o. absurd (o.1 refl)) n n (omega arith) (λ c. absurd c)

  module _ (ts : List Tok) (s : Stop) (rest : List Tok) (e : read.script shipped d n ts ≡ Err (s, rest)) where
    found : Failed (Fits d n) (g.script unlimited (suc d)) (read.script unlimited d n) (beside d n d n) any ts s rest
    found = (tracked d n (omega arith) (omega arith)).fails ts s rest e

    goes_on : {l' : List Tok → Script → Type 0} (b : List Tok) → ts ≡ b ++ rest → Further l' b rest → (us : List Tok) × (tree : Script) × l' (found.before ++ head rest ∷ us) tree
    goes_on {l'} b parts f = (
      f.us,
      f.value,
      subst (λ z. l' (z ++ head rest ∷ f.us) f.value) (cancel b found.before rest (sym parts ∙ found.parts)) (subst (λ z. l' (b ++ z ∷ f.us) f.value) (sym (ap head f.there)) f.spelled),
    )

    level_goes_on : s ≢ stop.Syntax → s ≢ stop.TooDeep → (us : List Tok) × (tree : Script) × g.script unlimited d (found.before ++ head rest ∷ us) tree
    level_goes_on o o' =
        let f : Failed (Fits d n) (g.script unlimited d) (read.script unlimited d n) within_depth any ts s rest = level_tracked.fails ts s rest e in
        goes_on f.before f.parts (f.further (o, o'))

    again_by : (d' n' : ℕ) → d ≤ d' → n ≤ n' → s ≢ stop.NumberTooLarge → (s ≡ stop.TooDeep → d' ≡ d) → (s ≡ stop.TooManyStatements → n' ≡ n)
        → (rest' : List Tok) → next rest ≡ next rest' → done rest ≡ done rest' → read.script unlimited d' n' (found.before ++ rest') ≡ Err (s, rest')
    again_by d' n' a b large deep many rest' same_next same_done =
        let f : Failed (Fits d n) (g.script unlimited (suc d)) (read.script unlimited d' n') (beside d n d' n') any ts s rest = (tracked d' n' a b).fails ts s rest e in
        subst (λ z. read.script unlimited d' n' (z ++ rest') ≡ Err (s, rest')) (cancel f.before found.before rest (sym f.parts ∙ found.parts)) (f.again (large, deep, many) rest' (seen rest rest' same_next same_done))

    pub script_stops : StoppedAt d n ts s rest
    script_stops = record {
      before = found.before;
      parts = found.parts;
      begun = (found.begun.0, found.begun.1, found.begun.2.0, found.begun.2.1);
      further = λ o. goes_on found.before found.parts (found.further o);
      there = λ o. let f = found.further o in (f.token, f.more, f.there);
      level = level_goes_on;
      shallow = λ many. level_goes_on (λ z. not_syntax (sym many ∙ z)) (λ z. not_deep (sym many ∙ z));
      again = again_by;
      clean = found.clean k.End refl;
      large = found.large k.End refl;
      never = λ e. subst (λ z. Stands z (next rest)) e found.stands;
      no_number = no_number s (next rest) found.stands;
    }
      where
        not_syntax : stop.TooManyStatements ≡ stop.Syntax → ⊥
        not_syntax z = cc

        not_deep : stop.TooManyStatements ≡ stop.TooDeep → ⊥
        not_deep z = cc

  -- ---- a script that is read

  nil_from_done : (ts : List Tok) → done ts ≡ true → ts ≡ []
  nil_from_done [] e = refl
  nil_from_done (t ∷ ts) e = cc

  script_ends : (ts : List Tok) (tree : Script) (rest : List Tok) → read.script shipped d n ts ≡ Ok (tree, rest) → rest ≡ []
  unfolding read.script
  script_ends ts tree rest e =
      let o = and_then_ok (read.statement shipped d ts) _ (tree, rest) e in
      let i = and_then_ok (read.statements shipped d n o.1) _ (tree, rest) o.3 in
      ⊎_elim
      (λ h. sym (ap (λ z. z.1) (Ok-value h.1)) ∙ nil_from_done i.1 h.0)
      (λ h. absurd (Err-Ok h.1))
      (if_ok (done i.1) (Ok (record { statements = o.0 ∷ i.0 }, i.1)) (Err (stop.Syntax, i.1)) (tree, rest) i.3)

  pub script_is_clean : (ts : List Tok) (tree : Script) (rest : List Tok) → read.script shipped d n ts ≡ Ok (tree, rest) → Clean k.End ts k.End
  script_is_clean ts tree rest e =
      let f : Passed (Fits d n) (g.script unlimited (suc d)) (read.script unlimited d n) any unstarred ts tree rest = (tracked d n (omega arith) (omega arith)).passes ts tree rest e in
      let none : rest ≡ [] = script_ends ts tree rest e in
      let all : f.us ≡ ts = sym (f.parts ∙ (ap (λ z. f.us ++ z) none ∙ append-nil f.us)) in
      subst (λ z. Clean k.End z k.End) all (subst (λ z. Clean k.End f.us (next z)) none (f.clean k.End refl).0)

-- ---- within the limits of scripts

pub script_fails : (ts : List Tok) (s : Stop) (rest : List Tok) → read.script shipped 64 63 ts ≡ Err (s, rest) → ScriptFailed ts s rest
script_fails = script_stops 64 63

pub script_clean : (ts : List Tok) (tree : Script) (rest : List Tok) → read.script shipped 64 63 ts ≡ Ok (tree, rest) → Clean k.End ts k.End
script_clean = script_is_clean 64 63

-- and without the limits of numbers it is a script of the same depth
pub script_widens : (ts : List Tok) (tree : Script) → g.script shipped 64 ts tree → length tree.statements ≤ 64 → g.script unlimited 64 ts tree
script_widens ts tree h few =
    let f : Passed (Fits 64 63) (g.script unlimited 64) (read.script unlimited 64 63) any unstarred ts tree [] = (level_tracked 64 63).passes ts tree [] (script_again shipped nested 64 63 ts tree h few) in
    subst (λ z. g.script unlimited 64 z tree) (sym (f.parts ∙ append-nil f.us)) f.wide
