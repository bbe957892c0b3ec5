-- Steps over a folder, one behind another; and texts that are written one behind another.
use Rattle.std.proofs.Common.{◌≡◌, ℕ, ◌≤◌, List, Option, Result, refl, ◌∙◌, subst, arith}
use Rattle.std.specs.Prelude.{IsSome, IfErr}
use Rattle.std.specs.Result.{IsErrAnd}
use Rattle.std.proofs.lemmas.Result.{err_from_is_err_and}
use Rattle.outside.specs.Files.{File}
use Rattle.outside.specs.Faults.{RoseOrFull}
use Rattle.run_plan.specs.Doing.{Went, Stopped, Refuses, never}
use Rattle.run_base.specs.Seen.{Folder}
use Rattle.run_plan.specs.declared.status.FileOf.{FileOf}
use Rattle.run_plan.specs.declared.status.Status.{Status}
use Rattle.run_plan.specs.declared.status.Status.TheVariants as status
use Rattle.run_plan.specs.Naming.{Counts}
use Rattle.run_plan.proofs.StageLemmas.{AreWithin, MayRefuse-weaker, IsEarly-weaker, holds_anyway, holds_same, pure_unread}

-- what holds of the error that a `?` hands on
pub through : {T E : Type 0} (r : Result T E) (y : E) (P : E → Type 0) → IsErrAnd r (λ x. x ≡ y) → P y → IfErr r P
through r y P h p = let q = err_from_is_err_and r h in rw (q.1, q.2) p

-- want of memory is free
pub refuses_memory : {known : Counts} (P : Type 0) → Refuses known P status.Memory
refuses_memory P = record { may = tt; early = record { between = tt; founded = tt; placed = tt; named = record { file = tt; access = tt; remote = tt } } }

pub refuses_weaker : {known : Counts} (P Q : Type 0) (s : Status) → (P → Q) → Refuses known P s → Refuses known Q s
refuses_weaker P Q s f r = record { may = MayRefuse-weaker never never P Q s f (λ g x. x) r.may; early = r.early }

-- and of more tables, accesses or remotes
pub refuses_more : (few many : Counts) (P Q : Type 0) (s : Status) → (P → Q) → Refuses few P s → AreWithin few many → Refuses many Q s
refuses_more few many P Q s f r w = record {
  may = MayRefuse-weaker never never P Q s f (λ g x. x) r.may;
  early = IsEarly-weaker few many ⊥ ⊥ s (λ (x : ⊥). x) w r.early;
}

-- a step that touches no folder, behind one that went well
pub stopped_pure : {few many : Counts} {X : Type 0} (old new : Folder) (IsAs : Option (List File) → X → Type 0) (told expected : X → Type 0)
    (reached : X → FileOf → Type 0) (P : Type 0) (s : Status) → (w : Went old new IsAs told) → (P → expected w.given) → Refuses few P s
    → AreWithin few many → Stopped many old new IsAs expected reached s
stopped_pure {few} {many} old new IsAs told expected reached P s w f r within = record {
  keeps = w.keeps;
  counts = omega (arith, w.kept);
  kept = holds_anyway s _ w.kept;
  given = w.given;
  agrees = w.agrees;
  refused = MayRefuse-weaker never (reached w.given) P (expected w.given) s f (λ g (x : ⊥). absurd x) r.may;
  read = λ g e. absurd (pure_unread P s g r.may e);
  early = IsEarly-weaker few many ⊥ (IsSome old.holds) s (λ (x : ⊥). absurd x) within r.early;
}

-- want of memory, behind a step that went well
pub stopped_memory : {known : Counts} {X : Type 0} (old new : Folder) (IsAs IsTo : Option (List File) → X → Type 0) (told expected : X → Type 0)
    (reached : X → FileOf → Type 0) → (w : Went old new IsAs told) → IsTo old.holds w.given
    → Stopped known old new IsTo expected reached status.Memory
stopped_memory old new IsAs IsTo told expected reached w agrees = record {
  keeps = w.keeps;
  counts = omega (arith, w.kept);
  kept = tt;
  given = w.given;
  agrees = agrees;
  refused = tt;
  read = λ g e. absurd cc;
  early = record { between = tt; founded = tt; placed = tt; named = record { file = tt; access = tt; remote = tt } };
}

-- want of memory before anything
pub stopped_first : {known : Counts} {X : Type 0} (old : Folder) (IsTo : Option (List File) → X → Type 0) (expected : X → Type 0)
    (reached : X → FileOf → Type 0) (x : X) → IsTo old.holds x → Stopped known old old IsTo expected reached status.Memory
stopped_first old IsTo expected reached x agrees = record {
  keeps = refl;
  counts = omega arith;
  kept = tt;
  given = x;
  agrees = agrees;
  refused = tt;
  read = λ g e. absurd cc;
  early = record { between = tt; founded = tt; placed = tt; named = record { file = tt; access = tt; remote = tt } };
}

-- a step that stopped, behind one that left the folder as it was, as one over what is given to both
pub stopped_into : {few many : Counts} {X Y : Type 0} (old mid new : Folder) (IsAs : Option (List File) → X → Type 0)
    (IsTo : Option (List File) → Y → Type 0) (expected : X → Type 0) (wanted : Y → Type 0) (reached : X → FileOf → Type 0)
    (met : Y → FileOf → Type 0) (s : Status) → mid.holds ≡ old.holds → mid.faults ≡ old.faults
    → (r : Stopped few mid new IsAs expected reached s) → (y : Y) → IsTo old.holds y → (expected r.given → wanted y)
    → ((f : FileOf) → reached r.given f → met y f) → AreWithin few many → Stopped many old new IsTo wanted met s
stopped_into {few} {many} old mid new IsAs IsTo expected wanted reached met s keeps kept r y agrees f g within = record {
  keeps = r.keeps ∙ keeps;
  counts = omega (arith, kept, r.counts);
  kept = holds_same s _ _ (λ e. e ∙ kept) r.kept;
  given = y;
  agrees = agrees;
  refused = MayRefuse-weaker (reached r.given) (met y) (expected r.given) (wanted y) s f g r.refused;
  read = λ x e. subst (λ (n : ℕ). RoseOrFull n new.faults) kept (r.read x e);
  early = IsEarly-weaker few many (IsSome mid.holds) (IsSome old.holds) s (subst IsSome keeps) within r.early;
}

-- a step that went well, behind one that left the folder as it was
pub went_into : {X Y : Type 0} (old mid new : Folder) (IsAs : Option (List File) → X → Type 0) (IsTo : Option (List File) → Y → Type 0)
    (told : X → Type 0) (tells : Y → Type 0) → mid.holds ≡ old.holds → mid.faults ≡ old.faults → (w : Went mid new IsAs told)
    → (y : Y) → IsTo old.holds y → (told w.given → tells y) → Went old new IsTo tells
went_into old mid new IsAs IsTo told tells keeps kept w y agrees f =
    record { keeps = w.keeps ∙ keeps; kept = w.kept ∙ kept; given = y; agrees = agrees; tells = f w.tells }
