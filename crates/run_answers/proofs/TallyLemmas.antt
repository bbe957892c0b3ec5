-- Lines of counts, and the answer of one statement with its line.
use Rattle.std.proofs.Common.{◌≡◌, ◌≢◌, ℕ, Bool, true, false, List, [], ◌++◌, length, map, Option, Some, None, Result, Ok, Err, refl, sym, ◌∙◌, ap, subst, arith}
use Rattle.std.specs.Prelude.{OnErr}
use Rattle.std.specs.Result.{IsErrAnd}
use Rattle.std.proofs.lemmas.List.{length-map}
use Rattle.std.proofs.lemmas.Result.{err_from_is_err_and}
use Rattle.sq_value.specs.declared.value.Value.{Value}
use Rattle.sq_value.specs.declared.value.Truth.{Truth}
use Rattle.bag_meaning.specs.declared.combo.Built.{Built}
use Rattle.bag_meaning.specs.declared.combo.Combo.{Combo}
use Rattle.eddy_runs.specs.Recorded.{IsRecorded}
use Rattle.eddy_core.specs.Answer.{as_mark}
use Rattle.eddy_core.specs.declared.answered.LookedUp.{LookedUp}
use Rattle.result_sink.proofs.WroteLemmas.{wrote_behind, wrote_front, wrote_none, wrote_whole}
use Rattle.outside.specs.Told.{Adds}
use Rattle.outside.proofs.Laws.{Adds-twice, AddsFront-whole}
use Rattle.run_answers.specs.Answering.{AnswersOne, PutBoth, IsLineFor, Lined, OnTold}
use Rattle.run_answers.specs.Wrote.{Wrote}
use Rattle.run_base.specs.Items.{Item}
use Rattle.run_base.specs.Seen.{Sink, Outputs}
use Rattle.run_answers.specs.Tally.{IsTally, hits_told, line_of_counts}
use Rattle.run_answers.specs.declared.stopping.Stop.{Stop}
use Rattle.run_answers.specs.declared.stopping.Stop.TheVariants as stop
use Rattle.run_answers.proofs.AnswerLemmas.{answer_permutes}

-- what predicates give
abbrev Gives : Type 0
Gives = ℕ → Value → Value → Truth

-- ---- the line of a statement

-- the line of a run's counts
pub line_right : {room : ℕ} (gives : Gives) (number : ℕ) (item : Item) (combos : List Combo) (log seen : List Built) (looked : List LookedUp)
    (hops hits : ℕ) (line : List ℕ) → IsRecorded gives item.bound.block item.tables combos log (map as_mark looked) hops → seen ≡ log
    → line ≡ line_of_counts number (length item.bound.block.aliases) seen hops (length looked) (hits_told room hits)
    → IsLineFor true (IsTally room gives) number item (Some line)
line_right {room} gives number item combos log seen looked hops hits line h same e = record {
  right = record {
    combos = combos;
    log = log;
    looked = map as_mark looked;
    hops = hops;
    hits = hits;
    recorded = h;
    answered = answer_permutes gives item.bound.block item.tables combos h.bag;
    is = e ∙ ap (λ (l : List Built). line_of_counts number (length item.bound.block.aliases) l hops (length looked) (hits_told room hits)) same
        ∙ ap (λ (n : ℕ). line_of_counts number (length item.bound.block.aliases) log hops n (hits_told room hits)) (sym (length-map looked as_mark));
  };
  none = λ q. absurd cc;
}

pub line_none : {room : ℕ} (gives : Gives) (number : ℕ) (item : Item) → IsLineFor false (IsTally room gives) number item None
line_none {room} gives number item = record { right = refl; none = λ q. refl }

-- ---- one statement

-- the error that a `?` hands on
pub one_through : {A O N : Type 0} (tally : Bool) (IsRight : ℕ → A → List ℕ → Type 0) (number : ℕ) (block : A) (text : List ℕ)
    (old new : Outputs O N) (r : Result (Unit {0}) Stop) (y : Stop) → IsErrAnd r (λ x. x ≡ y)
    → AnswersOne tally IsRight number block text old new (Err y) → AnswersOne tally IsRight number block text old new r
one_through tally IsRight number block text old new r y h a =
    let q = err_from_is_err_and r h in
    subst (λ (x : Result (Unit {0}) Stop). AnswersOne tally IsRight number block text old new x) (sym (q.1 ∙ ap Err q.2)) a

-- a text that was put whole, and then a line
pub put_line_behind : {O N : Type 0} (text : List ℕ) (line : Option (List ℕ)) (old new : Outputs O N) (r : Result (Unit {0}) Stop)
    → new.out.faults ≡ old.out.faults → Adds old.out.written new.out.written text → OnErr r (r ≡ Err stop.Notes)
    → Lined line old.notes new.notes r → PutBoth text line old new r
put_line_behind text line old new (Ok x) kept put only l = record {
  out = wrote_whole text x kept put;
  whole = λ e. absurd cc;
  kept = λ e. kept;
  notes = l;
}
put_line_behind text line old new (Err stop.Notes) kept put only l = record {
  out = record {
    counts = omega (arith, kept);
    ok = tt;
    kept = tt;
    failed = λ e. absurd cc;
    front = AddsFront-whole old.out.written new.out.written text put;
    short = λ e. absurd cc;
  };
  whole = λ e. put;
  kept = λ e. kept;
  notes = l;
}
put_line_behind text line old new (Err stop.Output) kept put only l = absurd cc
put_line_behind text line old new (Err stop.Memory) kept put only l = absurd cc

-- a text that the output didn't take
pub put_refused : {O N : Type 0} (text : List ℕ) (line : Option (List ℕ)) (old new : Outputs O N) → new.notes ≡ old.notes
    → Wrote old.out new.out text (Err stop.Output) → PutBoth text line old new (Err stop.Output)
put_refused text line old new same w = record { out = w; whole = λ e. absurd cc; kept = λ e. absurd cc; notes = same }

-- a text of which not all was put, for want of memory
pub put_wanting : {O N : Type 0} (text : List ℕ) (line : Option (List ℕ)) (old new : Outputs O N) → new.notes ≡ old.notes
    → Wrote old.out new.out text (Err stop.Memory) → PutBoth text line old new (Err stop.Memory)
put_wanting text line old new same w = record { out = w; whole = λ e. absurd cc; kept = λ e. absurd cc; notes = same }

-- the same of an equal text
pub put_text : {O N : Type 0} (text other : List ℕ) (line : Option (List ℕ)) (old new : Outputs O N) (r : Result (Unit {0}) Stop) → text ≡ other
    → PutBoth text line old new r → PutBoth other line old new r
put_text text other line old new r e h = subst (λ (x : List ℕ). PutBoth x line old new r) e h

-- a line that is right, whether or not it was put
told_anyway : {P : Type 0} (r : Result (Unit {0}) Stop) → P → OnTold r P
told_anyway (Ok x) h = h
told_anyway (Err stop.Output) h = tt
told_anyway (Err stop.Notes) h = h
told_anyway (Err stop.Memory) h = tt

-- the text and the line of what was found
pub one_put : {A O N : Type 0} (tally : Bool) (IsRight : ℕ → A → List ℕ → Type 0) (number : ℕ) (block : A) (text other : List ℕ) (line : Option (List ℕ))
    (old new : Outputs O N) (r : Result (Unit {0}) Stop) → text ≡ other → IsLineFor tally IsRight number block line
    → PutBoth text line old new r → AnswersOne tally IsRight number block other old new r
one_put tally IsRight number block text other line old new r e right h =
    record { line = line; right = told_anyway r right; put = put_text text other line old new r e h }

-- want of memory, before anything of a text was put
pub one_unfound : {A O N : Type 0} (tally : Bool) (IsRight : ℕ → A → List ℕ → Type 0) (number : ℕ) (item : A) (text : List ℕ) (old : Outputs O N) → text ≢ []
    → AnswersOne tally IsRight number item text old old (Err stop.Memory)
one_unfound tally IsRight number item text old some = record {
  line = None;
  right = tt;
  put = put_wanting text None old old refl (wrote_none text old.out.written old.out.faults stop.Memory some (λ e. cc));
}

-- a text before that of a statement: the output took it, or didn't
pub one_behind : {A O N : Type 0} (tally : Bool) (IsRight : ℕ → A → List ℕ → Type 0) (number : ℕ) (item : A) (first second : List ℕ)
    (old mid new : Outputs O N) (q r : Result (Unit {0}) Stop) → q ≡ Ok tt → mid.notes ≡ old.notes → Wrote old.out mid.out first q
    → AnswersOne tally IsRight number item second mid new r
    → AnswersOne tally IsRight number item (first ++ second) old new r
one_behind {N = N} tally IsRight number item first second old mid new q r e same v a = record {
  line = a.line;
  right = a.right;
  put = record {
    out = wrote_behind first second r w a.put.out;
    whole = λ f. Adds-twice old.out.written mid.out.written new.out.written first second w.ok (a.put.whole f);
    kept = λ f. a.put.kept f ∙ w.kept;
    notes = subst (λ (s : Sink N). Lined a.line s new.notes r) same a.put.notes;
  };
}
  where
    w : Wrote old.out mid.out first (Ok tt)
    w = subst (λ (x : Result (Unit {0}) Stop). Wrote old.out mid.out first x) e v

pub one_unwritten : {A O N : Type 0} (tally : Bool) (IsRight : ℕ → A → List ℕ → Type 0) (number : ℕ) (item : A) (first second : List ℕ) (old new : Outputs O N)
    (r : Result (Unit {0}) Stop) (y : Stop) → r ≡ Err y → OnErr r (r ≡ Err stop.Output) → new.notes ≡ old.notes → Wrote old.out new.out first r
    → AnswersOne tally IsRight number item (first ++ second) old new (Err y)
one_unwritten tally IsRight number item first second old new (Ok x) y e h same w = absurd cc
one_unwritten tally IsRight number item first second old new (Err z) y e h same w =
    let is : stop.Output ≡ y = cc in
    subst (λ (s : Stop). AnswersOne tally IsRight number item (first ++ second) old new (Err s)) is (record {
      line = None;
      right = tt;
      put = put_refused (first ++ second) None old new same
          (wrote_front first second stop.Output (subst (λ (q : Result (Unit {0}) Stop). Wrote old.out new.out first q) h w));
    })
