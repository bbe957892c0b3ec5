-- For the proofs: texts that are put to the output, one behind another, and a line to the notes behind them.
use Rattle.std.proofs.Common.{◌≡◌, ◌≢◌, ℕ, ◌+◌, ◌<◌, List, [], ◌∷◌, ◌++◌, length, take, drop, get_or, Option, Result, Ok, Err, refl, sym, ◌∙◌, ap, subst, arith}
use Rattle.std.specs.Prelude.{OnErr}
use Rattle.std.specs.Result.{IsErrAnd}
use Rattle.std.proofs.lemmas.List.{take_more, take-append-drop, length-take-le}
use Rattle.std.proofs.lemmas.Result.{err_from_is_err_and}
use Rattle.result_sink.specs.Wrote as sink
use Rattle.result_sink.specs.declared.fault.WriteFault.{WriteFault}
use Rattle.result_sink.proofs.WroteLemmas.{wrote_behind, wrote_front, wrote_none, wrote_nothing, wrote_whole}
use Rattle.run_base.specs.Seen.{Sink, Outputs}
use Rattle.run_answers.specs.Answering.{PutBoth, Lined}
use Rattle.run_answers.specs.Wrote.{Put, Wrote, of_output}
use Rattle.run_answers.specs.declared.stopping.Stop.{Stop}
use Rattle.run_answers.specs.declared.stopping.Stop.TheVariants as stop
use Rattle.run_answers.proofs.ProgressLemmas.{AreTexts, texts_one, texts_append}
use Rattle.run_answers.proofs.TallyLemmas.{put_line_behind, put_refused, put_wanting}

-- ---- one text

pub put_nothing : {S : Type 0} (s : Sink S) → Put [] s s (Ok tt)
put_nothing s = record { out = wrote_nothing s.written s.faults tt; silent = λ e. cc }

-- want of memory, before anything of a text was put
pub put_unwritten : {S : Type 0} (text : List ℕ) (s : Sink S) → text ≢ [] → Put text s s (Err stop.Memory)
put_unwritten text s some =
    record { out = wrote_none text s.written s.faults stop.Memory some (λ e. cc); silent = λ e. cc }

-- the same of an equal text
pub put_equal : {S : Type 0} (text other : List ℕ) (old new : Sink S) (r : Result (Unit {0}) Stop) → text ≡ other → Put text old new r
    → Put other old new r
put_equal text other old new r e h = subst (λ (x : List ℕ). Put x old new r) e h

-- a text that only the output can refuse
pub put_alone : {S : Type 0} (text : List ℕ) (old new : Sink S) (r : Result (Unit {0}) Stop) → OnErr r (r ≡ Err stop.Output)
    → Wrote old new text r → Put text old new r
put_alone text old new (Ok x) h w = record { out = w; silent = λ e. cc }
put_alone text old new (Err stop.Output) h w = record { out = w; silent = λ e. cc }
put_alone text old new (Err stop.Notes) h w = absurd cc
put_alone text old new (Err stop.Memory) h w = absurd cc

-- a text that was written so
wrote_stopped : {S : Type 0} (text : List ℕ) (old new : Sink S) (r : Result (Unit {0}) Stop) → r ≢ Err stop.Notes
    → sink.Wrote text old.written new.written old.faults new.faults (of_output r) → Wrote old new text r
wrote_stopped text old new (Ok x) silent w = wrote_whole text x w.kept w.ok
wrote_stopped text old new (Err stop.Output) silent w =
    record { counts = w.counts; ok = tt; kept = tt; failed = λ e. w.failed refl; front = w.front; short = λ e. absurd cc }
wrote_stopped text old new (Err stop.Memory) silent w =
    record { counts = w.counts; ok = tt; kept = tt; failed = λ e. absurd cc; front = w.front; short = λ e. w.short refl }
wrote_stopped text old new (Err stop.Notes) silent w = absurd (silent refl)

-- and by what it is then
pub put_written : {S : Type 0} (text other : List ℕ) (old new : Sink S) (written : Result (Unit {0}) WriteFault) (r : Result (Unit {0}) Stop)
    → of_output r ≡ written → r ≢ Err stop.Notes → text ≡ other → sink.Wrote text old.written new.written old.faults new.faults written
    → Put other old new r
put_written text other old new written r is silent same w = put_equal text other old new r same record {
  out = wrote_stopped text old new r silent
      (subst (λ (x : Result (Unit {0}) WriteFault). sink.Wrote text old.written new.written old.faults new.faults x) (sym is) w);
  silent = silent;
}

-- the error that a `?` hands on
pub put_through : {S : Type 0} (text : List ℕ) (old new : Sink S) (r : Result (Unit {0}) Stop) (y : Stop) → IsErrAnd r (λ x. x ≡ y)
    → Put text old new (Err y) → Put text old new r
put_through text old new r y h a =
    let q = err_from_is_err_and r h in
    subst (λ (x : Result (Unit {0}) Stop). Put text old new x) (sym (q.1 ∙ ap Err q.2)) a

-- ---- a text behind another

pub put_behind : {S : Type 0} (first second : List ℕ) (old mid new : Sink S) (q r : Result (Unit {0}) Stop) → q ≡ Ok tt → Put first old mid q
    → Put second mid new r → Put (first ++ second) old new r
put_behind first second old mid new q r e a b = record {
  out = wrote_behind first second r w b.out;
  silent = b.silent;
}
  where
    w : Wrote old mid first (Ok tt)
    w = subst (λ (x : Result (Unit {0}) Stop). Wrote old mid first x) e a.out

-- a text that wasn't put whole, where another would have come behind it
front_of : {S : Type 0} (first second : List ℕ) (old new : Sink S) (y : Stop) → Put first old new (Err y) → Put (first ++ second) old new (Err y)
front_of first second old new y a = record { out = wrote_front first second y a.out; silent = a.silent }

pub put_front : {S : Type 0} (first second : List ℕ) (old new : Sink S) (r : Result (Unit {0}) Stop) (y : Stop) → r ≡ Err y → Put first old new r
    → Put (first ++ second) old new (Err y)
put_front first second old new r y e a =
    front_of first second old new y (subst (λ (x : Result (Unit {0}) Stop). Put first old new x) e a)

-- ---- texts, one behind another

module _ {A : Type 0} where
  -- the texts of one more
  texts_more : (n : ℕ) (one : ℕ → A → List ℕ) (all : ℕ → List A → List ℕ) (items : List A) (i : ℕ) (x : A) → AreTexts one all
      → i < length items → x ≡ get_or items i x → all n (take (i + 1) items) ≡ all n (take i items) ++ one (n + i) x
  texts_more n one all items i x t h is =
      let more : take (i + 1) items ≡ take i items ++ x ∷ [] =
      take_more items i x h ∙ ap (λ (y : A). take i items ++ y ∷ []) (sym is) in
      ap (all n) more ∙ texts_append one all t n (take i items) (x ∷ [])
      ∙ ap (λ (z : List ℕ). all n (take i items) ++ z) (texts_one one all t (n + length (take i items)) x)
      ∙ ap (λ (k : ℕ). all n (take i items) ++ one (n + k) x) (length-take-le i items (omega (arith, h)))

  pub put_next : {S : Type 0} (n : ℕ) (one : ℕ → A → List ℕ) (all : ℕ → List A → List ℕ) (items : List A) (i : ℕ) (x : A) (old mid new : Sink S)
      (r : Result (Unit {0}) Stop) → AreTexts one all → i < length items → x ≡ get_or items i x → Put (all n (take i items)) old mid (Ok tt)
      → Put (one (n + i) x) mid new r → r ≡ Ok tt → Put (all n (take (i + 1) items)) old new (Ok tt)
  put_next n one all items i x old mid new r t h is a b e =
      put_equal (all n (take i items) ++ one (n + i) x) (all n (take (i + 1) items)) old new (Ok tt) (sym (texts_more n one all items i x t h is))
      (put_behind (all n (take i items)) (one (n + i) x) old mid new (Ok tt) (Ok tt) refl a
      (subst (λ (q : Result (Unit {0}) Stop). Put (one (n + i) x) mid new q) e b))

  pub put_stopped : {S : Type 0} (n : ℕ) (one : ℕ → A → List ℕ) (all : ℕ → List A → List ℕ) (items : List A) (i : ℕ) (x : A) (old mid new : Sink S)
      (r : Result (Unit {0}) Stop) (y : Stop) → AreTexts one all → i < length items → x ≡ get_or items i x → Put (all n (take i items)) old mid (Ok tt)
      → Put (one (n + i) x) mid new r → r ≡ Err y → Put (all n items) old new (Err y)
  put_stopped n one all items i x old mid new r y t h is a b e =
      put_equal (so_far ++ behind) (all n items) old new (Err y) (sym whole)
      (put_front so_far behind old new r y e (put_behind (all n (take i items)) (one (n + i) x) old mid new (Ok tt) r refl a b))
    where
      so_far : List ℕ
      so_far = all n (take i items) ++ one (n + i) x

      behind : List ℕ
      behind = all (n + length (take (i + 1) items)) (drop (i + 1) items)

      whole : all n items ≡ so_far ++ behind
      whole = ap (all n) (sym (take-append-drop (i + 1) items)) ∙ texts_append one all t n (take (i + 1) items) (drop (i + 1) items)
          ∙ ap (λ (z : List ℕ). z ++ behind) (texts_more n one all items i x t h is)

-- ---- a line behind a text

pub both_put : {O N : Type 0} (text : List ℕ) (line : Option (List ℕ)) (old new : Outputs O N) (q r : Result (Unit {0}) Stop) → q ≡ Ok tt
    → Put text old.out new.out q → OnErr r (r ≡ Err stop.Notes) → Lined line old.notes new.notes r → PutBoth text line old new r
both_put text line old new q r e a only l =
    let w : Wrote old.out new.out text (Ok tt) =
    subst (λ (x : Result (Unit {0}) Stop). Wrote old.out new.out text x) e a.out in
    put_line_behind text line old new r w.kept w.ok only l

both_halted : {O N : Type 0} (text : List ℕ) (line : Option (List ℕ)) (old new : Outputs O N) (y : Stop) → Put text old.out new.out (Err y)
    → new.notes ≡ old.notes → PutBoth text line old new (Err y)
both_halted text line old new stop.Output a same = put_refused text line old new same a.out
both_halted text line old new stop.Memory a same = put_wanting text line old new same a.out
both_halted text line old new stop.Notes a same = absurd (a.silent refl)

pub both_stopped : {O N : Type 0} (text : List ℕ) (line : Option (List ℕ)) (old new : Outputs O N) (q : Result (Unit {0}) Stop) (y : Stop) → q ≡ Err y
    → Put text old.out new.out q → new.notes ≡ old.notes → PutBoth text line old new (Err y)
both_stopped text line old new q y e a same =
    both_halted text line old new y (subst (λ (x : Result (Unit {0}) Stop). Put text old.out new.out x) e a) same
