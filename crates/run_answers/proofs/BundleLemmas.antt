-- For the proofs: answers of statements, as answers of bundles of one statement each.
use Rattle.std.proofs.Common.{◌≡◌, ◌≢◌, ℕ, ◌+◌, Bool, true, false, List, [], ◌∷◌, ◌++◌, length, map, take, Result, Ok, Err, refl, sym, ◌∙◌, ap, subst, arith}
use Rattle.std.proofs.lemmas.List.{length-map, map-append}
use Rattle.std.proofs.lemmas.List.Concat.{flat_map-cons}
use Rattle.outside.specs.Faults.{RoseOrFull}
use Rattle.outside.specs.Told.{Adds}
use Rattle.sq_value.specs.declared.value.Value.{Value}
use Rattle.sq_value.specs.declared.value.Truth.{Truth}
use Rattle.run_base.specs.Items.{Item}
use Rattle.run_base.specs.Seen.{Sink, Outputs}
use Rattle.run_answers.specs.Answering.{Answers, BrokeOff, EndsSo, LinesPut}
use Rattle.run_answers.specs.Lines.{AreLines, IsLine}
use Rattle.run_answers.specs.SoFar.{IsFront, TookSoFar}
use Rattle.run_answers.specs.Tally.{IsTally}
use Rattle.run_answers.specs.Together.{IsBundleTally, IsSharedTally, in_bundles, bundles_of}
use Rattle.run_answers.specs.Wrote.{Wrote, by_output}
use Rattle.run_answers.specs.declared.stopping.Stop.{Stop}
use Rattle.run_answers.specs.declared.stopping.Stop.TheVariants as stop
use Rattle.run_answers.proofs.TogetherLemmas.{in_one}

-- what predicates give
abbrev Gives : Type 0
Gives = ℕ → Value → Value → Truth

-- ---- statements in another form

module _ {A B : Type 0} (f : A → B) (text : List A → List ℕ) (other : List B → List ℕ) (law : (xs : List A) → other (map f xs) ≡ text xs) where
  next_of : (finished left : List A) → map f finished ++ take 1 (map f left) ≡ map f (finished ++ take 1 left)
  next_of finished [] = sym (map-append f finished [])
  next_of finished (x ∷ left) = sym (map-append f finished (x ∷ []))

  next_text : (finished left : List A) → other (map f finished ++ take 1 (map f left)) ≡ text (finished ++ take 1 left)
  next_text finished left = ap other (next_of finished left) ∙ law (finished ++ take 1 left)

  took_mapped : {S : Type 0} (finished left : List A) (before now : Sink S) → TookSoFar text finished left before now
      → TookSoFar other (map f finished) (map f left) before now
  took_mapped finished left before now h = record {
    added = h.added;
    adds = h.adds;
    whole = whole finished h.whole;
    front = subst (λ (z : List ℕ). IsFront h.added z) (sym (next_text finished left)) h.front;
    short = λ calm some e. h.short calm (left_some left some) (e ∙ next_text finished left);
  }
    where
      whole : (xs : List A) → (xs ≢ [] → IsFront (text xs) h.added) → map f xs ≢ [] → IsFront (other (map f xs)) h.added
      whole [] w n = absurd (n refl)
      whole (x ∷ xs) w n = subst (λ (z : List ℕ). IsFront z h.added) (sym (law (x ∷ xs))) (w (λ e. cc))

      left_some : (xs : List A) → map f xs ≢ [] → xs ≢ []
      left_some [] n = absurd (n refl)
      left_some (x ∷ xs) n = λ e. cc

  module _ (tally : Bool) (IsRight : ℕ → A → List ℕ → Type 0) (IsOther : ℕ → B → List ℕ → Type 0) (right : (n : ℕ) (x : A) (line : List ℕ) → IsRight n x line → IsOther n (f x) line) where
    line_mapped : (t : Bool) (n : ℕ) (x : A) (line : List ℕ) → IsLine t IsRight n x line → IsLine t IsOther n (f x) line
    line_mapped true n x line h = right n x line h
    line_mapped false n x line h = h

    lines_mapped : (n : ℕ) (xs : List A) (lines : List ℕ) → AreLines tally IsRight n xs lines → AreLines tally IsOther n (map f xs) lines
    unfolding AreLines
    lines_mapped n [] lines h = h
    lines_mapped n (x ∷ xs) lines h = (h.0, h.1, line_mapped tally n x h.0 h.2, lines_mapped (n + 1) xs h.1 h.3, h.4)

    ends_mapped : {O N : Type 0} (number : ℕ) (finished left : List A) (lines : List ℕ) (old new : Outputs O N) (r : Result (Unit {0}) Stop)
        → EndsSo tally IsRight number text finished left lines old new r
        → EndsSo tally IsOther number other (map f finished) (map f left) lines old new r
    ends_mapped {O} {N} number finished left lines old new r h = by r h
      where
        put : LinesPut text finished left lines old new → LinesPut other (map f finished) (map f left) lines old new
        put k = record { put = k.put; counts = k.counts; took = took_mapped finished left old.out new.out k.took }

        broke : BrokeOff IsRight number text finished left lines old new → BrokeOff IsOther number other (map f finished) (map f left) lines old new
        broke k = record {
          next = f k.next;
          rest = map f k.rest;
          is = ap (map f) k.is;
          whole = subst (λ (z : List ℕ). Adds old.out.written new.out.written z)
              (sym (ap other (sym (map-append f finished (k.next ∷ []))) ∙ law (finished ++ k.next ∷ []))) k.whole;
          kept = k.kept;
          line = k.line;
          right = subst (λ (n : ℕ). IsOther (number + n) (f k.next) k.line) (sym (length-map finished f))
              (right (number + length finished) k.next k.line k.right);
          front = k.front;
          rose = k.rose;
        }

        by : (q : Result (Unit {0}) Stop) → EndsSo tally IsRight number text finished left lines old new q
            → EndsSo tally IsOther number other (map f finished) (map f left) lines old new q
        by (Ok x) k = (put k.0, ap (map f) k.1, k.2)
        by (Err stop.Notes) k = (broke k.0, k.1)
        by (Err stop.Output) k = put k
        by (Err stop.Memory) k = put k

    pub answers_mapped : {O N : Type 0} (number : ℕ) (items : List A) (old new : Outputs O N) (r : Result (Unit {0}) Stop)
        → Answers tally IsRight number items text old new r → Answers tally IsOther number (map f items) other old new r
    answers_mapped number items old new r a = record {
      out = subst (λ (z : List ℕ). Wrote old.out new.out z (by_output r)) (sym (law items)) a.out;
      notes = record {
        finished = map f a.notes.finished;
        left = map f a.notes.left;
        split = ap (map f) a.notes.split ∙ map-append f a.notes.finished a.notes.left;
        lines = a.notes.lines;
        are = lines_mapped number a.notes.finished a.notes.lines a.notes.are;
        end' = ends_mapped number a.notes.finished a.notes.left a.notes.lines old new r a.notes.end';
        quiet = a.notes.quiet;
      };
    }

-- ---- bundles

-- the statements of the bundles that statements make
pub bundles_whole : (shared : Bool) (items : List Item) → in_bundles (bundles_of shared items) ≡ items
bundles_whole true items = in_one items
bundles_whole false [] = refl
bundles_whole false (item ∷ more) =
    flat_map-cons (λ (bundle : List Item). bundle) (item ∷ []) (bundles_of false more)
    ∙ ap (λ (l : List Item). item ∷ l) (bundles_whole false more)

-- statements that ran one after another
pub answers_each : {O N : Type 0} (shared : Bool) (tally : Bool) (room : ℕ) (gives : Gives) (items : List Item) (text : List Item → List ℕ)
    (old new : Outputs O N) (r : Result (Unit {0}) Stop) → shared ≡ false → Answers tally (IsTally room gives) 1 items text old new r
    → Answers tally (IsBundleTally shared room gives) 1 (bundles_of shared items) (λ bundles. text (in_bundles bundles)) old new r
answers_each shared tally room gives items text old new r e a =
    subst (λ (s : Bool). Answers tally (IsBundleTally s room gives) 1 (bundles_of s items) (λ bundles. text (in_bundles bundles)) old new r) (sym e)
    (answers_mapped (λ (item : Item). item ∷ []) text (λ bundles. text (in_bundles bundles)) (λ xs. ap text (bundles_whole false xs)) tally (IsTally room gives)
    (IsBundleTally false room gives) (λ n x line h. h) 1 items old new r a)

-- statements that ran together
pub answers_all_together : {O N : Type 0} (shared : Bool) (tally : Bool) (room : ℕ) (gives : Gives) (items : List Item) (text : List Item → List ℕ)
    (old new : Outputs O N) (r : Result (Unit {0}) Stop) → shared ≡ true
    → Answers tally (IsSharedTally gives) 1 (items ∷ []) (λ bundles. text (in_bundles bundles)) old new r
    → Answers tally (IsBundleTally shared room gives) 1 (bundles_of shared items) (λ bundles. text (in_bundles bundles)) old new r
answers_all_together shared tally room gives items text old new r e a =
    subst (λ (s : Bool). Answers tally (IsBundleTally s room gives) 1 (bundles_of s items) (λ bundles. text (in_bundles bundles)) old new r) (sym e) a
