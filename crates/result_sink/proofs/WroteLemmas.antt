-- What steps that write into a sink did, one after another.
use Rattle.std.proofs.Common.{◌≡◌, ◌≢◌, ℕ, ◌+◌, ◌<◌, List, [], ◌++◌, length, take, drop, get_or, Option, Result, Ok, Err, refl, sym, ◌∙◌, ap, subst, arith}
use Rattle.std.specs.List.{flat_map}
use Rattle.std.specs.Result.{IsErrAnd}
use Rattle.std.proofs.lemmas.Result.{err_from_is_err_and}
use Rattle.outside.specs.Told.{Adds}
use Rattle.outside.proofs.Laws.{RoseOrFull-earlier, Adds-nothing, Adds-twice, AddsFront-nothing, AddsFront-after, AddsFront-longer}
use Rattle.result_sink.specs.Wrote.{WroteBy}
use Rattle.result_sink.proofs.TextLemmas.{flat_map-split, flat_map-parts, AddsBefore, AddsPart-nothing, AddsPart-after, AddsPart-longer}

module _ {E : Type 0} {output memory : E} where
  -- a text was added, and no fault counted
  pub wrote_whole : {A : Type 0} {old new : Option (List ℕ)} {m n : ℕ} (text : List ℕ) (x : A) → n ≡ m → Adds old new text
      → WroteBy output memory text old new m n (Ok x)
  wrote_whole text x kept added =
      record { counts = omega (arith, kept); ok = added; kept = kept; failed = λ e. absurd cc; front = tt; short = λ e. absurd cc }

  -- nothing was written
  pub wrote_nothing : {A : Type 0} (told : Option (List ℕ)) (faults : ℕ) (x : A) → WroteBy output memory [] told told faults faults (Ok x)
  wrote_nothing told faults x = wrote_whole [] x refl (Adds-nothing told)

  -- an error that isn't the output's, before anything of a text was written
  pub wrote_none : {A : Type 0} (text : List ℕ) (told : Option (List ℕ)) (faults : ℕ) (e : E) → text ≢ [] → e ≢ output
      → WroteBy output memory text told told faults faults {A = A} (Err e)
  wrote_none text told faults e some other = record {
    counts = omega arith;
    ok = tt;
    kept = tt;
    failed = λ q. absurd (other cc);
    front = AddsFront-nothing told text;
    short = λ q. AddsPart-nothing told text some;
  }

  -- a text is written behind another
  pub wrote_behind : {A B : Type 0} {old mid new : Option (List ℕ)} {m n o : ℕ} {x : B} (first second : List ℕ) (r : Result A E)
      → WroteBy output memory first old mid m n (Ok x) → WroteBy output memory second mid new n o r
      → WroteBy output memory (first ++ second) old new m o r
  wrote_behind {old = old} {mid = mid} {new = new} first second (Ok y) w v = record {
    counts = omega (arith, w.counts, v.counts);
    ok = Adds-twice old mid new first second w.ok v.ok;
    kept = v.kept ∙ w.kept;
    failed = λ e. absurd cc;
    front = tt;
    short = λ e. absurd cc;
  }
  wrote_behind {old = old} {mid = mid} {new = new} {m = m} {n = n} {o = o} first second (Err e) w v = record {
    counts = omega (arith, w.counts, v.counts);
    ok = tt;
    kept = tt;
    failed = λ f. RoseOrFull-earlier m n o w.counts (v.failed f);
    front = AddsFront-after old mid new first second w.ok v.front;
    short = λ f. AddsPart-after old mid new first second w.ok (v.short f);
  }

  -- a text of which a front was written is a front of a longer one
  pub wrote_front : {A B : Type 0} {old new : Option (List ℕ)} {m n : ℕ} (first second : List ℕ) (e : E)
      → WroteBy output memory first old new m n {A = B} (Err e) → WroteBy output memory (first ++ second) old new m n {A = A} (Err e)
  wrote_front {old = old} {new = new} first second e w = record {
    counts = w.counts;
    ok = tt;
    kept = tt;
    failed = λ f. w.failed cc;
    front = AddsFront-longer old new first second w.front;
    short = λ f. AddsPart-longer old new first second (w.short cc);
  }

  -- the same of an equal text
  pub wrote_text : {A : Type 0} {old new : Option (List ℕ)} {m n : ℕ} (text other : List ℕ) (r : Result A E) → text ≡ other
      → WroteBy output memory text old new m n r → WroteBy output memory other old new m n r
  wrote_text {old = old} {new = new} {m = m} {n = n} text other r e w =
      subst (λ (x : List ℕ). WroteBy output memory x old new m n r) e w

  -- the error that a `?` hands on, of a text that others come behind
  pub wrote_through : {A B : Type 0} {old new : Option (List ℕ)} {m n : ℕ} (first second : List ℕ) (q : Result B E) (r : Result A E)
      (y : E) → q ≡ Err y → IsErrAnd r (λ x. x ≡ y) → WroteBy output memory first old new m n q
      → WroteBy output memory (first ++ second) old new m n r
  wrote_through {A} {B} {old} {new} {m} {n} first second q r y e h w =
      let p = err_from_is_err_and r h in
      subst (λ (x : Result A E). WroteBy output memory (first ++ second) old new m n x) (sym (p.1 ∙ ap Err p.2))
      (wrote_front first second y (subst (λ (x : Result B E). WroteBy output memory first old new m n x) e w))

  -- and with a text before it, where a whole begins with both
  pub wrote_within : {A B : Type 0} {old mid new : Option (List ℕ)} {m n o : ℕ} (first second more text : List ℕ) (q : Result B E)
      (r : Result A E) (y : E) → q ≡ Err y → IsErrAnd r (λ x. x ≡ y) → text ≡ (first ++ second) ++ more → n ≡ m → Adds old mid first
      → WroteBy output memory second mid new n o q → WroteBy output memory text old new m o r
  wrote_within first second more text q r y e h split kept added w =
      wrote_text ((first ++ second) ++ more) text r (sym split)
      (wrote_through (first ++ second) more q r y e h
      (wrote_behind {B = Unit {0}} first second q (wrote_whole first tt kept added) w))

  -- in a loop that writes the text of each item
  pub wrote_at : {X A B : Type 0} {old mid new : Option (List ℕ)} {m n o : ℕ} (f : X → List ℕ) (xs : List X) (i : ℕ) (d x : X)
      (q : Result B E) (r : Result A E) (y : E) → q ≡ Err y → IsErrAnd r (λ e. e ≡ y) → i < length xs → x ≡ get_or xs i d → n ≡ m
      → Adds old mid (flat_map f (take i xs)) → WroteBy output memory (f x) mid new n o q
      → WroteBy output memory (flat_map f xs) old new m o r
  wrote_at f xs i d x q r y e h within is kept added w =
      wrote_within (flat_map f (take i xs)) (f x) (flat_map f (drop (i + 1) xs)) (flat_map f xs) q r y e h
      (flat_map-split f xs i d within ∙ ap (λ z. (flat_map f (take i xs) ++ f z) ++ flat_map f (drop (i + 1) xs)) (sym is)) kept added w

  -- in a loop that writes the text of some items at once
  pub wrote_before : {X A B : Type 0} {old mid new : Option (List ℕ)} {m n o : ℕ} (f : X → List ℕ) (xs rest some more : List X)
      (q : Result B E) (r : Result A E) (y : E) → q ≡ Err y → IsErrAnd r (λ e. e ≡ y) → rest ≡ some ++ more → n ≡ m
      → AddsBefore f xs rest old mid → WroteBy output memory (flat_map f some) mid new n o q
      → WroteBy output memory (flat_map f xs) old new m o r
  wrote_before f xs rest some more q r y e h split kept (front, is, added) w =
      wrote_within (flat_map f front) (flat_map f some) (flat_map f more) (flat_map f xs) q r y e h
      (flat_map-parts f xs front rest some more is split) kept added w
