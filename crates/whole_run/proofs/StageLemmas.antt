-- How a run may end, by the stage and the phase of its status.
use Rattle.std.proofs.Common.{◌≡◌, List, Option, Some, None, refl, sym, ◌∙◌, ap, subst, ◌⊎◌, inl, inr}
use Rattle.std.specs.Prelude.{MatchOption, unwrap_or}
use Rattle.run_plan.specs.Stage.{Phase, Before, AtStatement, Writing, AnyTime, phase_of, phase_of_file, stage_of, file_unread}
use Rattle.run_plan.specs.Naming.{Counts}
use Rattle.run_plan.specs.Refusal.{RefusesIn, MayRefuse, IsBetween, IsEarly}
use Rattle.run_plan.specs.declared.status.FileOf.{FileOf}
use Rattle.run_plan.specs.declared.status.FileOf.TheVariants as file
use Rattle.run_plan.specs.declared.status.LimitOf.{LimitOf}
use Rattle.run_plan.specs.declared.status.LimitOf.TheVariants as limit
use Rattle.run_plan.specs.declared.status.Stage.{Stage}
use Rattle.run_plan.specs.declared.status.Stage.TheVariants as stage
use Rattle.run_plan.specs.declared.status.Status.{Status}
use Rattle.run_plan.specs.declared.status.Status.TheVariants as status
use Rattle.whole_run.specs.Outcome.{Due, IsTextDue, status_of}
use Rattle.whole_run.specs.Run.{EndsAt, MayEnd, IsWriting, IsLate, IsSilent, IsBeforeOutput}

-- the statuses of these stages
pub Done-only : (s : Status) → stage_of s ≡ stage.Run → s ≡ status.Done
Done-only status.Done e = refl
Done-only _ e = absurd cc

Memory-only : (s : Status) → stage_of s ≡ stage.Memory → s ≡ status.Memory
Memory-only status.Memory e = refl
Memory-only _ e = absurd cc

-- each file is loaded before the output
pub file_not_late : (f : FileOf) → IsWriting (phase_of_file f) → ⊥
file_not_late file.Script h = h
file_not_late (file.Table number) h = h
file_not_late (file.Heading remote) h = h
file_not_late (file.Key at) h = h

refused_file : (f : FileOf) (P : Type 0) → RefusesIn (phase_of_file f) P → P
refused_file file.Script P h = h
refused_file (file.Table number) P h = h
refused_file (file.Heading remote) P h = h
refused_file (file.Key at) P h = absurd h

-- no read fault comes from a step that writes
late_unread : (s : Status) (f : FileOf) → file_unread s ≡ Some f → IsLate s → ⊥
late_unread (status.Read g) f e late = file_not_late g late
late_unread _ f e late = absurd cc

-- a refusal that is due
abbrev pub IsRefused : (Due → Type 0) → Status → Type 0
IsRefused IsDue s = (due : Due) × IsDue due × (due.refusal ≡ Some s)

-- a refusal before the output ends a run so
early_limit : (l : LimitOf) (writes P : Type 0) (IsDue : Due → Type 0) → (P → IsRefused IsDue (status.Limit l))
    → RefusesIn (phase_of (status.Limit l)) P → EndsAt (stage_of (status.Limit l)) writes IsDue (status.Limit l)
early_limit (limit.File g) writes P IsDue f h = f (refused_file g P h)
early_limit (limit.Keys remote) writes P IsDue f h = absurd h
early_limit (limit.Rows remote) writes P IsDue f h = absurd h
early_limit _ writes P IsDue f h = f h

early_at : (s : Status) (writes P : Type 0) (IsDue : Due → Type 0) → IsBetween s
    → (P → IsRefused IsDue s) → RefusesIn (phase_of s) P → EndsAt (stage_of s) writes IsDue s
early_at status.Memory writes P IsDue i f h = tt
early_at status.Done writes P IsDue i f h = absurd i
early_at status.Write writes P IsDue i f h = absurd i
early_at (status.BadKey at why) writes P IsDue i f h = absurd i
early_at (status.NotFound g) writes P IsDue i f h = f (refused_file g P h)
early_at (status.Read g) writes P IsDue i f h = f (refused_file g P h)
early_at (status.Limit l) writes P IsDue i f h = early_limit l writes P IsDue f h
early_at _ writes P IsDue i f h = f h

pub MayEnd-early : {known : Counts} (reads others : FileOf → Type 0) (writes told P : Type 0) (IsDue : Due → Type 0) (s : Status)
    → IsEarly known told s → (P → IsRefused IsDue s) → ((f : FileOf) → reads f → others f) → MayRefuse reads P s → MayEnd others writes IsDue s
MayEnd-early reads others writes told P IsDue s early f weaker h = by (file_unread s) h
  where
    by : (o : Option FileOf) → MatchOption o (RefusesIn (phase_of s) P) reads → MatchOption o (EndsAt (stage_of s) writes IsDue s) others
    by None k = early_at s writes P IsDue early.between f k
    by (Some g) k = weaker g k

-- a run whose text is due ends by a step that writes, and is done only where nothing refuses
late_limit : (l : LimitOf) (rises : Type 0) (IsDue : Due → Type 0) → IsLate (status.Limit l) → EndsAt (stage_of (status.Limit l)) rises IsDue (status.Limit l)
late_limit (limit.File g) rises IsDue late = absurd (file_not_late g late)
late_limit _ rises IsDue late = absurd late

late_at : (rises : Type 0) (IsDue : Due → Type 0) (due : Due) (s : Status) → IsDue due → IsTextDue due → (s ≡ status.Done → due.refusal ≡ None) → IsLate s
    → (s ≡ status.Write → rises) → EndsAt (stage_of s) rises IsDue s
late_at rises IsDue due status.Done d some whole late writes = (due, d, whole refl)
late_at rises IsDue due status.Write d some whole late writes = (writes refl, (due, d, some))
late_at rises IsDue due status.Memory d some whole late writes = tt
late_at rises IsDue due (status.NotFound g) d some whole late writes = absurd (file_not_late g late)
late_at rises IsDue due (status.Read g) d some whole late writes = absurd (file_not_late g late)
late_at rises IsDue due (status.Limit l) d some whole late writes = late_limit l rises IsDue late
late_at rises IsDue due _ d some whole late writes = absurd late

pub MayEnd-late : (reads : FileOf → Type 0) (rises : Type 0) (IsDue : Due → Type 0) (due : Due) (s : Status)
    → IsDue due → IsTextDue due → (s ≡ status.Done → due.refusal ≡ None) → IsLate s → (s ≡ status.Write → rises) → MayEnd reads rises IsDue s
MayEnd-late reads rises IsDue due s d some whole late writes = by (file_unread s) refl
  where
    by : (o : Option FileOf) → file_unread s ≡ o → MatchOption o (EndsAt (stage_of s) rises IsDue s) reads
    by None f = late_at rises IsDue due s d some whole late writes
    by (Some g) f = absurd (late_unread s g f late)

-- a fault of the output may have another reason
pub MayEnd-other : (reads : FileOf → Type 0) (writes other : Type 0) (IsDue : Due → Type 0) (s : Status) → (writes → other)
    → MayEnd reads writes IsDue s → MayEnd reads other IsDue s
MayEnd-other reads writes other IsDue s f h = by (file_unread s) (stage_of s) h
  where
    by : (o : Option FileOf) (st : Stage) → MatchOption o (EndsAt st writes IsDue s) reads → MatchOption o (EndsAt st other IsDue s) reads
    by (Some g) st h = h
    by None stage.Output h = (f h.0, h.1)
    by None _ h = h

-- the status of what is due
status_refused : (due : Due) (s : Status) → due.refusal ≡ Some s → s ≡ status_of due
status_refused due s e = sym (ap (λ (o : Option Status). unwrap_or o status.Done) e)

status_unrefused : (due : Due) → due.refusal ≡ None → status.Done ≡ status_of due
status_unrefused due e = sym (ap (λ (o : Option Status). unwrap_or o status.Done) e)

-- without a fault, a run ends by the one outcome's status or for want of memory
pub ends_by_outcome : (reads : FileOf → Type 0) (writes : Type 0) (IsDue : Due → Type 0) (s : Status) → MayEnd reads writes IsDue s
    → ((f : FileOf) → ¬ (reads f)) → ¬ writes → ((x y : Due) → IsDue x → IsDue y → x ≡ y)
    → (due : Due) → IsDue due → (s ≡ status_of due) ⊎ (s ≡ status.Memory)
ends_by_outcome reads writes IsDue s h calm quiet only due d = by (file_unread s) h
  where
    at : (st : Stage) → stage_of s ≡ st → EndsAt st writes IsDue s → (s ≡ status_of due) ⊎ (s ≡ status.Memory)
    at stage.Run e k = inl (Done-only s e ∙ status_unrefused k.0 k.2 ∙ ap status_of (only k.0 due k.1 d))
    at stage.Output e k = absurd (quiet k.0)
    at stage.Memory e k = inr (Memory-only s e)
    at _ e k = inl (status_refused k.0 s k.2 ∙ ap status_of (only k.0 due k.1 d))

    by : (o : Option FileOf) → MatchOption o (EndsAt (stage_of s) writes IsDue s) reads → (s ≡ status_of due) ⊎ (s ≡ status.Memory)
    by None k = at (stage_of s) refl k
    by (Some f) k = absurd (calm f k)

-- what a status of a step that writes isn't
pub late_not : (s t : Status) → IsLate s → s ≡ t → (IsLate t → ⊥) → ⊥
late_not s t late e none = none (subst IsLate e late)

-- a step that writes isn't before the output
pub late_not_before : (s : Status) → IsLate s → IsBeforeOutput s → ⊥
late_not_before s late before = at (phase_of s) late before
  where
    at : (phase : Phase) → IsWriting phase → IsSilent phase → ⊥
    at Before h k = h
    at AtStatement h k = h
    at Writing h k = k
    at AnyTime h k = k
