-- Answers with their lines, one behind another, of statements of any kind: how far a run came.
use Rattle.std.proofs.Common.{◌≡◌, ◌≢◌, ℕ, ◌+◌, ◌<◌, Bool, true, false, List, [], ◌∷◌, ◌++◌, length, take, drop, get_or, Result, Ok, Err, refl, sym, ◌∙◌, ap, subst, arith, append-nil, append_assoc}
use Rattle.std.specs.Prelude.{OnErr}
use Rattle.std.specs.Result.{IsErrAnd}
use Rattle.std.proofs.lemmas.List.{take_more, take-append-drop, length-take-le, length-append, append_cancel_left}
use Rattle.std.proofs.lemmas.Result.{err_from_is_err_and}
use Rattle.result_sink.specs.Ready.{AddsPart}
use Rattle.outside.specs.Faults.{NeverFalls, RoseOrFull}
use Rattle.outside.specs.Told.{Adds, AddsFront}
use Rattle.outside.proofs.Laws.{Adds-nothing, Adds-twice, RoseOrFull-earlier}
use Rattle.run_answers.specs.Answering.{Answers, AnswersOne, Tallied, EndsSo, LinesPut, BrokeOff, line_bytes}
use Rattle.run_answers.specs.Wrote.{Wrote, by_output}
use Rattle.run_answers.specs.SoFar.{IsFront, TookSoFar}
use Rattle.run_base.specs.Seen.{Sink, Outputs}
use Rattle.run_answers.specs.Lines.{AreLines, IsLine}
use Rattle.run_answers.specs.declared.stopping.Stop.{Stop}
use Rattle.run_answers.specs.declared.stopping.Stop.TheVariants as stop
use Rattle.run_answers.proofs.AnswerLemmas.{same_faults}
use Rattle.result_sink.proofs.WroteLemmas.{wrote_behind, wrote_front, wrote_nothing, wrote_text}
use Rattle.run_answers.proofs.LineLemmas.{AreLines-none, AreLines-one, AreLines-append}

-- a sink that shows what it showed took nothing
put_none : {S : Type 0} (old new : Sink S) → new ≡ old → Adds old.written new.written []
put_none {S} old new same = subst (λ (s : Sink S). Adds old.written s.written []) (sym same) (Adds-nothing old.written)

-- want of memory as the output knows it: a front of a text was written
wrote_otherwise : {S : Type 0} (text : List ℕ) (old new : Sink S) → Wrote old new text (Err stop.Memory) → Wrote old new text (Err stop.Notes)
wrote_otherwise text old new w =
    record { counts = w.counts; ok = tt; kept = tt; failed = λ e. absurd cc; front = w.front; short = λ e. absurd cc }

module _ {A : Type 0} where
  -- ---- texts of statements, one behind another

  -- a text of statements is one text a statement, each by its number
  pub record AreTexts (one : ℕ → A → List ℕ) (all : ℕ → List A → List ℕ) : Type 0 where
    pub none : (n : ℕ) → all n [] ≡ []
    pub more : (n : ℕ) (b : A) (bs : List A) → all n (b ∷ bs) ≡ one n b ++ all (n + 1) bs

  pub texts_one : (one : ℕ → A → List ℕ) (all : ℕ → List A → List ℕ) → AreTexts one all → (n : ℕ) (b : A) → all n (b ∷ []) ≡ one n b
  texts_one one all t n b = t.more n b [] ∙ ap (λ (z : List ℕ). one n b ++ z) (t.none (n + 1)) ∙ append-nil (one n b)

  pub texts_append : (one : ℕ → A → List ℕ) (all : ℕ → List A → List ℕ) → AreTexts one all → (n : ℕ) (xs ys : List A)
      → all n (xs ++ ys) ≡ all n xs ++ all (n + length xs) ys
  texts_append one all t n [] ys =
      let same : n ≡ n + length {A = A} [] = omega arith in
      ap (λ (m : ℕ). all m ys) same ∙ ap (λ (z : List ℕ). z ++ all (n + length {A = A} []) ys) (sym (t.none n))
  texts_append one all t n (x ∷ xs) ys =
      let same : (n + 1) + length xs ≡ n + length (x ∷ xs) = omega arith in
      t.more n x (xs ++ ys) ∙ ap (λ (z : List ℕ). one n x ++ z) (texts_append one all t (n + 1) xs ys)
      ∙ ap (λ (m : ℕ). one n x ++ (all (n + 1) xs ++ all m ys)) same
      ∙ sym (append_assoc (one n x) (all (n + 1) xs) (all (n + length (x ∷ xs)) ys))
      ∙ ap (λ (z : List ℕ). z ++ all (n + length (x ∷ xs)) ys) (sym (t.more n x xs))

  -- ---- how much of all texts was written

  took_whole : {S : Type 0} (text : List A → List ℕ) (items : List A) (old new : Sink S) → Adds old.written new.written (text items)
      → TookSoFar text items [] old new
  took_whole text items old new h = record {
    added = text items;
    adds = h;
    whole = λ n. ([], sym (append-nil (text items)));
    front = ([], ap text (append-nil items) ∙ sym (append-nil (text items)));
    short = λ calm some. absurd (some refl);
  }

  -- a front of the first one's text, and the count rose
  took_front : {S : Type 0} (text : List A → List ℕ) (items : List A) (first more : List ℕ) (old new : Sink S) → text (take 1 items) ≡ first ++ more
      → AddsFront old.written new.written first → RoseOrFull old.faults new.faults → TookSoFar text [] items old new
  took_front text items first more old new is (front, rest, split, adds) rose = record {
    added = front;
    adds = adds;
    whole = λ n. absurd (n refl);
    front = (rest ++ more, is ∙ ap (λ (z : List ℕ). z ++ more) split ∙ append_assoc front rest more);
    short = λ calm some. absurd (calm rose);
  }

  -- a part of it
  took_part : {S : Type 0} (text : List A → List ℕ) (b : A) (more : List A) (first : List ℕ) (old new : Sink S) → text (b ∷ []) ≡ first
      → AddsPart old.written new.written first → TookSoFar text [] (b ∷ more) old new
  took_part text b more first old new is (front, rest, split, some, adds) = record {
    added = front;
    adds = adds;
    whole = λ n. absurd (n refl);
    front = (rest, is ∙ split);
    short = λ calm left e. some (append_cancel_left front rest [] (sym split ∙ sym is ∙ sym e ∙ sym (append-nil front)));
  }

  -- the texts of statements behind those that are finished
  took_after : {S : Type 0} (text behind : List A → List ℕ) (xs finished left : List A) (first : List ℕ) (old mid new : Sink S)
      → ((zs : List A) → text (xs ++ zs) ≡ first ++ behind zs) → behind [] ≡ [] → Adds old.written mid.written first
      → NeverFalls old.faults mid.faults → TookSoFar behind finished left mid new → TookSoFar text (xs ++ finished) left old new
  took_after text behind xs finished left first old mid new law none put counts k = record {
    added = first ++ k.added;
    adds = Adds-twice old.written mid.written new.written first k.added put k.adds;
    whole = λ n. by finished k.whole;
    front = (k.front.0, next ∙ ap (λ (z : List ℕ). first ++ z) k.front.1 ∙ sym (append_assoc first k.added k.front.0));
    short = λ calm some e. k.short (λ rose. calm (RoseOrFull-earlier old.faults mid.faults new.faults counts rose)) some
        (append_cancel_left first k.added (behind (finished ++ take 1 left)) (e ∙ next));
  }
    where
      next : text ((xs ++ finished) ++ take 1 left) ≡ first ++ behind (finished ++ take 1 left)
      next = ap text (append_assoc xs finished (take 1 left)) ∙ law (finished ++ take 1 left)

      by : (fs : List A) → (fs ≢ [] → IsFront (behind fs) k.added) → IsFront (text (xs ++ fs)) (first ++ k.added)
      by [] w = (
        k.added,
        ap (λ (z : List ℕ). z ++ k.added) (sym (law [] ∙ ap (λ (z : List ℕ). first ++ z) none ∙ append-nil first)),
      )
      by (f ∷ fs) w =
          let v = w (λ e. cc) in (
            v.0,
            ap (λ (z : List ℕ). first ++ z) v.1 ∙ sym (append_assoc first (behind (f ∷ fs)) v.0)
                ∙ ap (λ (z : List ℕ). z ++ v.0) (sym (law (f ∷ fs))),
          )

  -- ---- statements with their lines

  -- a stop by the output is one for the lines as any other
  pub tallied_output : {O N : Type 0} (tally : Bool) (IsRight : ℕ → A → List ℕ → Type 0) (number : ℕ) (items : List A) (text : List A → List ℕ)
      (old new : Outputs O N) → Tallied tally IsRight number items text old new (Err stop.Output)
      → Tallied tally IsRight number items text old new (Err stop.Memory)
  tallied_output tally IsRight number items text old new h =
      record { finished = h.finished; left = h.left; split = h.split; lines = h.lines; are = h.are; end' = h.end'; quiet = h.quiet }

  -- a text before any statement
  pub answers_text : {O N : Type 0} (tally : Bool) (IsRight : ℕ → A → List ℕ → Type 0) (number : ℕ) (text : List A → List ℕ) (old new : Outputs O N) → new.notes ≡ old.notes
      → Wrote old.out new.out (text []) (Ok tt) → Answers tally IsRight number [] text old new (Ok tt)
  answers_text tally IsRight number text old new same w = record {
    out = w;
    notes = record {
      finished = [];
      left = [];
      split = refl;
      lines = [];
      are = AreLines-none tally IsRight number;
      end' = (
        record {
          put = put_none old.notes new.notes same;
          counts = omega (arith, same_faults old.notes new.notes same);
          took = took_whole text [] old.out new.out w.ok;
        },
        refl,
        same_faults old.notes new.notes same,
      );
      quiet = λ q. same;
    };
  }

  -- nothing was put
  pub answers_nothing : {O N : Type 0} (tally : Bool) (IsRight : ℕ → A → List ℕ → Type 0) (number : ℕ) (text : List A → List ℕ) (old : Outputs O N) → text [] ≡ []
      → Answers tally IsRight number [] text old old (Ok tt)
  answers_nothing tally IsRight number text old e =
      answers_text tally IsRight number text old old refl (wrote_text [] (text []) (Ok tt) (sym e) (wrote_nothing old.out.written old.out.faults tt))

  -- one statement is finished
  pub answers_single : {O N : Type 0} (tally : Bool) (IsRight : ℕ → A → List ℕ → Type 0) (number : ℕ) (b : A) (text : List A → List ℕ) (one : List ℕ)
      (old new : Outputs O N) → text (b ∷ []) ≡ one → AnswersOne tally IsRight number b one old new (Ok tt)
      → Answers tally IsRight number (b ∷ []) text old new (Ok tt)
  answers_single tally IsRight number b text one old new e o =
      let w : Wrote old.out new.out (text (b ∷ [])) (Ok tt) = wrote_text one (text (b ∷ [])) (Ok tt) (sym e) o.put.out in
      record {
        out = w;
        notes = record {
          finished = b ∷ [];
          left = [];
          split = refl;
          lines = line_bytes o.line;
          are = AreLines-one tally IsRight number b (line_bytes o.line) o.right.right;
          end' = (
            record { put = o.put.notes.0.ok; counts = o.put.notes.0.counts; took = took_whole text (b ∷ []) old.out new.out w.ok },
            refl,
            o.put.notes.1,
          );
          quiet = λ q. o.put.notes.2 (o.right.none q);
        };
      }

  -- the first of some statements stopped
  pub answers_halted : {O N : Type 0} (tally : Bool) (IsRight : ℕ → A → List ℕ → Type 0) (number : ℕ) (b : A) (bs : List A) (text : List A → List ℕ)
      (one behind : List ℕ) (old new : Outputs O N) (y : Stop) → text (b ∷ []) ≡ one → text (b ∷ bs) ≡ one ++ behind
      → AnswersOne tally IsRight number b one old new (Err y)
      → Answers tally IsRight number (b ∷ bs) text old new (Err y)
  answers_halted tally IsRight number b bs text one behind old new stop.Output e f o = record {
    out = wrote_text (one ++ behind) (text (b ∷ bs)) (Err stop.Output) (sym f) (wrote_front one behind stop.Output o.put.out);
    notes = record {
      finished = [];
      left = b ∷ bs;
      split = refl;
      lines = [];
      are = AreLines-none tally IsRight number;
      end' = record {
        put = put_none old.notes new.notes o.put.notes;
        counts = omega (arith, same_faults old.notes new.notes o.put.notes);
        took = took_front text (b ∷ bs) one [] old.out new.out (e ∙ sym (append-nil one)) o.put.out.front (o.put.out.failed refl);
      };
      quiet = λ q. o.put.notes;
    };
  }
  answers_halted tally IsRight number b bs text one behind old new stop.Memory e f o = record {
    out = wrote_text (one ++ behind) (text (b ∷ bs)) (Err stop.Notes) (sym f) (wrote_front one behind stop.Notes (wrote_otherwise one old.out new.out o.put.out));
    notes = record {
      finished = [];
      left = b ∷ bs;
      split = refl;
      lines = [];
      are = AreLines-none tally IsRight number;
      end' = record { put = put_none old.notes new.notes o.put.notes; counts = omega (arith, same_faults old.notes new.notes o.put.notes); took = took_part text b bs one old.out new.out e (o.put.out.short refl) };
      quiet = λ q. o.put.notes;
    };
  }
  answers_halted tally IsRight number b bs text one behind old new stop.Notes e f o = record {
    out = wrote_text (one ++ behind) (text (b ∷ bs)) (Err stop.Notes) (sym f) (wrote_front one behind stop.Notes o.put.out);
    notes = record {
      finished = [];
      left = b ∷ bs;
      split = refl;
      lines = [];
      are = AreLines-none tally IsRight number;
      end' = (
        record {
          next = b;
          rest = bs;
          is = refl;
          whole = subst (λ (z : List ℕ). Adds old.out.written new.out.written z) (sym e) (o.put.whole refl);
          kept = o.put.kept refl;
          line = line_bytes o.line;
          right = subst (λ (n : ℕ). IsRight n b (line_bytes o.line)) same
              (subst (λ (t : Bool). IsLine t IsRight number b (line_bytes o.line)) wanted o.right.right);
          front = o.put.notes.0.front;
          rose = o.put.notes.0.failed refl;
        },
        wanted,
      );
      quiet = λ q. absurd (o.put.notes.1 (o.right.none q));
    };
  }
    where
      same : number ≡ number + length {A = A} []
      same = omega arith

      which : (t : Bool) → (t ≡ false → ⊥) → t ≡ true
      which true h = refl
      which false h = absurd (h refl)

      wanted : tally ≡ true
      wanted = which tally (λ q. o.put.notes.1 (o.right.none q))

  -- statements behind others that are finished
  tallied_after : {O N : Type 0} (tally : Bool) (IsRight : ℕ → A → List ℕ → Type 0) (number : ℕ) (xs ys : List A) (text before behind : List A → List ℕ)
      (old mid new : Outputs O N) (r : Result (Unit {0}) Stop)
      → ((zs : List A) → text (xs ++ zs) ≡ before xs ++ behind zs) → behind [] ≡ []
      → Answers tally IsRight number xs before old mid (Ok tt)
      → Tallied tally IsRight (number + length xs) ys behind mid new r
      → Tallied tally IsRight number (xs ++ ys) text old new r
  tallied_after tally IsRight number xs ys text before behind old mid new r law none a b = record {
    finished = xs ++ b.finished;
    left = b.left;
    split = ap (λ (l : List A). xs ++ l) b.split ∙ sym (append_assoc xs b.finished b.left);
    lines = a.notes.lines ++ b.lines;
    are = AreLines-append tally IsRight number xs b.finished a.notes.lines b.lines
        (subst (λ (l : List A). AreLines tally IsRight number l a.notes.lines) same a.notes.are) b.are;
    end' = ends r b.end';
    quiet = λ q. b.quiet q ∙ a.notes.quiet q;
  }
    where
      same : a.notes.finished ≡ xs
      same = sym (a.notes.split ∙ ap (λ (l : List A). a.notes.finished ++ l) a.notes.end'.1 ∙ append-nil a.notes.finished)

      lines_put : LinesPut behind b.finished b.left b.lines mid new
          → LinesPut text (xs ++ b.finished) b.left (a.notes.lines ++ b.lines) old new
      lines_put k = record {
        put = Adds-twice old.notes.written mid.notes.written new.notes.written a.notes.lines b.lines a.notes.end'.0.put k.put;
        counts = omega (arith, a.notes.end'.0.counts, k.counts);
        took = took_after text behind xs b.finished b.left (before xs) old.out mid.out new.out law none a.out.ok a.out.counts k.took;
      }

      broke : BrokeOff IsRight (number + length xs) behind b.finished b.left b.lines mid new
          → BrokeOff IsRight number text (xs ++ b.finished) b.left (a.notes.lines ++ b.lines) old new
      broke k =
          let numbers : (number + length xs) + length b.finished ≡ number + length (xs ++ b.finished) = omega (arith, length-append xs b.finished) in
          record {
            next = k.next;
            rest = k.rest;
            is = k.is;
            whole = subst (λ (z : List ℕ). Adds old.out.written new.out.written z)
                (sym (law (b.finished ++ k.next ∷ [])) ∙ ap text (sym (append_assoc xs b.finished (k.next ∷ []))))
                (Adds-twice old.out.written mid.out.written new.out.written (before xs) (behind (b.finished ++ k.next ∷ [])) a.out.ok k.whole);
            kept = k.kept ∙ a.out.kept;
            line = k.line;
            right = subst (λ (n : ℕ). IsRight n k.next k.line) numbers k.right;
            front = (
              k.front.0,
              k.front.1,
              k.front.2,
              subst (λ (z : List ℕ). Adds old.notes.written new.notes.written z) (sym (append_assoc a.notes.lines b.lines k.front.0))
                  (Adds-twice old.notes.written mid.notes.written new.notes.written a.notes.lines (b.lines ++ k.front.0) a.notes.end'.0.put k.front.3),
            );
            rose = RoseOrFull-earlier old.notes.faults mid.notes.faults new.notes.faults a.notes.end'.0.counts k.rose;
          }

      ends : (q : Result (Unit {0}) Stop)
          → EndsSo tally IsRight (number + length xs) behind b.finished b.left b.lines mid new q
          → EndsSo tally IsRight number text (xs ++ b.finished) b.left (a.notes.lines ++ b.lines) old new q
      ends (Ok x) k = (lines_put k.0, k.1, k.2 ∙ a.notes.end'.2)
      ends (Err stop.Notes) k = (broke k.0, k.1)
      ends (Err stop.Output) k = lines_put k
      ends (Err stop.Memory) k = lines_put k

  pub answers_after : {O N : Type 0} (tally : Bool) (IsRight : ℕ → A → List ℕ → Type 0) (number : ℕ) (xs ys : List A) (text before behind : List A → List ℕ)
      (old mid new : Outputs O N) (r : Result (Unit {0}) Stop)
      → ((zs : List A) → text (xs ++ zs) ≡ before xs ++ behind zs) → behind [] ≡ []
      → Answers tally IsRight number xs before old mid (Ok tt)
      → Answers tally IsRight (number + length xs) ys behind mid new r
      → Answers tally IsRight number (xs ++ ys) text old new r
  answers_after tally IsRight number xs ys text before behind old mid new r law none a b = record {
    out = wrote_text (before xs ++ behind ys) (text (xs ++ ys)) (by_output r) (sym (law ys))
        (wrote_behind (before xs) (behind ys) (by_output r) a.out b.out);
    notes = tallied_after tally IsRight number xs ys text before behind old mid new r law none a b.notes;
  }

  -- the same of an equal answer, and of equal items
  answers_is : {O N : Type 0} (tally : Bool) (IsRight : ℕ → A → List ℕ → Type 0) (number : ℕ) (items : List A) (text : List A → List ℕ)
      (old new : Outputs O N) (r q : Result (Unit {0}) Stop) → r ≡ q → Answers tally IsRight number items text old new r
      → Answers tally IsRight number items text old new q
  answers_is tally IsRight number items text old new r q e a =
      subst (λ (x : Result (Unit {0}) Stop). Answers tally IsRight number items text old new x) e a

  pub answers_of : {O N : Type 0} (tally : Bool) (IsRight : ℕ → A → List ℕ → Type 0) (number : ℕ) (items same : List A) (text : List A → List ℕ)
      (old new : Outputs O N) (r : Result (Unit {0}) Stop) → items ≡ same → Answers tally IsRight number items text old new r
      → Answers tally IsRight number same text old new r
  answers_of tally IsRight number items same text old new r e a =
      subst (λ (x : List A). Answers tally IsRight number x text old new r) e a

  -- the error that a `?` hands on
  pub answers_through : {O N : Type 0} (tally : Bool) (IsRight : ℕ → A → List ℕ → Type 0) (number : ℕ) (items : List A) (text : List A → List ℕ)
      (old new : Outputs O N) (r : Result (Unit {0}) Stop) (y : Stop) → IsErrAnd r (λ x. x ≡ y)
      → Answers tally IsRight number items text old new (Err y) → Answers tally IsRight number items text old new r
  answers_through tally IsRight number items text old new r y h a =
      let q = err_from_is_err_and r h in
      answers_is tally IsRight number items text old new (Err y) r (sym (q.1 ∙ ap Err q.2)) a

  -- ---- one statement after another

  -- a statement with another number
  one_numbered : {O N : Type 0} (tally : Bool) (IsRight : ℕ → A → List ℕ → Type 0) (n m : ℕ) (b : A) (one : ℕ → A → List ℕ)
      (old new : Outputs O N) (r q : Result (Unit {0}) Stop) → n ≡ m → r ≡ q → AnswersOne tally IsRight n b (one n b) old new r
      → AnswersOne tally IsRight m b (one m b) old new q
  one_numbered tally IsRight n m b one old new r q e f o =
      subst (λ (k : ℕ). AnswersOne tally IsRight k b (one k b) old new q) e
      (subst (λ (x : Result (Unit {0}) Stop). AnswersOne tally IsRight n b (one n b) old new x) f o)

  pub answers_next : {O N : Type 0} (tally : Bool) (IsRight : ℕ → A → List ℕ → Type 0) (number : ℕ) (one : ℕ → A → List ℕ) (all : ℕ → List A → List ℕ)
      (items : List A) (i : ℕ) (x : A) (old mid new : Outputs O N) (r : Result (Unit {0}) Stop) → AreTexts one all
      → i < length items → x ≡ get_or items i x → Answers tally IsRight number (take i items) (all number) old mid (Ok tt)
      → AnswersOne tally IsRight (number + i) x (one (number + i) x) mid new r → r ≡ Ok tt
      → Answers tally IsRight number (take (i + 1) items) (all number) old new (Ok tt)
  answers_next tally IsRight number one all items i x old mid new r t h is a b e =
      let long : length (take i items) ≡ i = length-take-le i items (omega (arith, h)) in
      let m : ℕ = number + length (take i items) in
      let more : take i items ++ x ∷ [] ≡ take (i + 1) items =
      ap (λ (y : A). take i items ++ y ∷ []) is ∙ sym (take_more items i x h) in
      answers_of tally IsRight number (take i items ++ x ∷ []) (take (i + 1) items) (all number) old new (Ok tt) more
      (answers_after tally IsRight number (take i items) (x ∷ []) (all number) (all number) (all m) old mid new (Ok tt)
      (texts_append one all t number (take i items)) (t.none m) a
      (answers_single tally IsRight m x (all m) (one m x) mid new (texts_one one all t m x)
      (one_numbered tally IsRight (number + i) m x one mid new r (Ok tt) (ap (λ (n : ℕ). number + n) (sym long)) e b)))

  pub answers_stopped : {O N : Type 0} (tally : Bool) (IsRight : ℕ → A → List ℕ → Type 0) (number : ℕ) (one : ℕ → A → List ℕ) (all : ℕ → List A → List ℕ)
      (items : List A) (i : ℕ) (x : A) (old mid new : Outputs O N) (r : Result (Unit {0}) Stop) (y : Stop) → AreTexts one all
      → i < length items → x ≡ get_or items i x → Answers tally IsRight number (take i items) (all number) old mid (Ok tt)
      → AnswersOne tally IsRight (number + i) x (one (number + i) x) mid new r → r ≡ Err y
      → Answers tally IsRight number items (all number) old new (Err y)
  answers_stopped tally IsRight number one all items i x old mid new r y t h is a b e =
      let long : length (take i items) ≡ i = length-take-le i items (omega (arith, h)) in
      let m : ℕ = number + length (take i items) in
      let rest : List A = drop (i + 1) items in
      let more : take i items ++ x ∷ [] ≡ take (i + 1) items =
      ap (λ (z : A). take i items ++ z ∷ []) is ∙ sym (take_more items i x h) in
      let whole : take i items ++ x ∷ rest ≡ items =
      sym (append_assoc (take i items) (x ∷ []) rest) ∙ ap (λ (l : List A). l ++ rest) more ∙ take-append-drop (i + 1) items in
      answers_of tally IsRight number (take i items ++ x ∷ rest) items (all number) old new (Err y) whole
      (answers_after tally IsRight number (take i items) (x ∷ rest) (all number) (all number) (all m) old mid new (Err y)
      (texts_append one all t number (take i items)) (t.none m) a
      (answers_halted tally IsRight m x rest (all m) (one m x) (all (m + 1) rest) mid new y (texts_one one all t m x) (t.more m x rest)
      (one_numbered tally IsRight (number + i) m x one mid new r (Err y) (ap (λ (n : ℕ). number + n) (sym long)) e b)))

  -- a heading before all, and then the texts of all
  pub answers_headed : {O N : Type 0} (tally : Bool) (IsRight : ℕ → A → List ℕ → Type 0) (items : List A) (heading : List ℕ) (behind : List A → List ℕ)
      (old mid new : Outputs O N) (q r : Result (Unit {0}) Stop) → q ≡ Ok tt → behind [] ≡ [] → mid.notes ≡ old.notes → Wrote old.out mid.out heading q
      → Answers tally IsRight 1 items behind mid new r
      → Answers tally IsRight 1 items (λ bs. heading ++ behind bs) old new r
  answers_headed tally IsRight items heading behind old mid new q r e none same w more =
      let number : 1 ≡ 1 + length {A = A} [] = omega arith in
      answers_after tally IsRight 1 [] items (λ bs. heading ++ behind bs) (λ bs. heading) behind old mid new r
      (λ zs. refl) none
      (answers_text tally IsRight 1 (λ bs. heading) old mid same
      (subst (λ (x : Result (Unit {0}) Stop). Wrote old.out mid.out heading x) e w))
      (subst (λ (n : ℕ). Answers tally IsRight n items behind mid new r) number more)

  pub answers_unheaded : {O N : Type 0} (tally : Bool) (IsRight : ℕ → A → List ℕ → Type 0) (items : List A) (heading : List ℕ) (behind : List A → List ℕ)
      (old new : Outputs O N) (r : Result (Unit {0}) Stop) (y : Stop) → r ≡ Err y → OnErr r (r ≡ Err stop.Output) → new.notes ≡ old.notes
      → Wrote old.out new.out heading r → Answers tally IsRight 1 items (λ bs. heading ++ behind bs) old new (Err y)
  answers_unheaded tally IsRight items heading behind old new (Ok x) y e h same w = absurd cc
  answers_unheaded tally IsRight items heading behind old new (Err z) y e h same w =
      let is : stop.Output ≡ y = cc in
      let v : Wrote old.out new.out heading (Err stop.Output) =
      subst (λ (q : Result (Unit {0}) Stop). Wrote old.out new.out heading q) h w in
      subst (λ (s : Stop). Answers tally IsRight 1 items (λ bs. heading ++ behind bs) old new (Err s)) is (record {
        out = wrote_front heading (behind items) stop.Output v;
        notes = record {
          finished = [];
          left = items;
          split = refl;
          lines = [];
          are = AreLines-none tally IsRight 1;
          end' = record {
            put = put_none old.notes new.notes same;
            counts = omega (arith, same_faults old.notes new.notes same);
            took = took_front (λ bs. heading ++ behind bs) items heading (behind (take 1 items)) old.out new.out refl v.front (v.failed refl);
          };
          quiet = λ q. same;
        };
      })
