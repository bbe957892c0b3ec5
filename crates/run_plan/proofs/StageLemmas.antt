-- What the phase and the stage of a status tell of a step's refusal.
use Rattle.std.proofs.Common.{◌≡◌, ℕ, ◌<◌, ◌≤◌, arith, Option, Some, None, refl, sym, ap, subst}
use Rattle.std.specs.Prelude.{IfSome, MatchOption, ⊤}
use Rattle.run_plan.specs.Stage.{Phase, Before, AtStatement, Writing, AnyTime, phase_of, phase_of_file, stage_of, file_unread}
use Rattle.run_plan.specs.Refusal.{RefusesIn, MayRefuse, IsNotWriting, IsBetween, IsFounded, IsEarly, HoldsAt, UnlessReadOrMemory}
use Rattle.run_plan.specs.Doing.{never}
use Rattle.run_plan.specs.Naming.{Counts, IsNamed, IsFileOf, IsAccessOf, file_named, access_named, remote_limited, counts_to}
use Rattle.run_plan.specs.declared.status.FileOf.{FileOf}
use Rattle.run_plan.specs.declared.status.FileOf.TheVariants as file
use Rattle.run_plan.specs.declared.status.LimitOf.TheVariants as limit
use Rattle.run_plan.specs.declared.status.Stage.{Stage}
use Rattle.run_plan.specs.declared.status.Stage.TheVariants as stage
use Rattle.run_plan.specs.declared.status.Status.{Status}
use Rattle.run_plan.specs.declared.status.Status.TheVariants as status

-- nor from one that touches no folder
pub pure_unread : (P : Type 0) (s : Status) (f : FileOf) → MayRefuse never P s → s ≡ status.Read f → ⊥
pure_unread P s f h e = subst (MayRefuse never P) e h

-- a refusal for a reason that is weaker
weaker_in : (phase : Phase) (P Q : Type 0) → (P → Q) → RefusesIn phase P → RefusesIn phase Q
weaker_in Before P Q f h = f h
weaker_in AtStatement P Q f h = h
weaker_in Writing P Q f h = h
weaker_in AnyTime P Q f h = tt

pub MayRefuse-weaker : (reads others : FileOf → Type 0) (P Q : Type 0) (s : Status) → (P → Q) → ((f : FileOf) → reads f → others f)
    → MayRefuse reads P s → MayRefuse others Q s
MayRefuse-weaker reads others P Q s f weaker h = by (file_unread s) h
  where
    by : (o : Option FileOf) → MatchOption o (RefusesIn (phase_of s) P) reads → MatchOption o (RefusesIn (phase_of s) Q) others
    by None k = weaker_in (phase_of s) P Q f k
    by (Some g) k = weaker g k

-- what a step may answer where less is told
founded : (told tells : Type 0) (s : Status) → (told → tells) → IsFounded told s → IsFounded tells s
founded told tells (status.NotFound file) f h = f h
founded told tells _ f h = tt

-- so many are no more than so many others
pub record AreWithin (few many : Counts) : Type 0 where
  pub tables : few.tables ≤ many.tables
  pub accesses : few.accesses ≤ many.accesses
  pub remotes : few.remotes ≤ many.remotes

-- what a status names of so many, it names of more
named_more : (few many : Counts) (s : Status) → AreWithin few many → IsNamed few s → IsNamed many s
named_more few many s w h = record { file = at (file_named s) h.file; access = by (access_named s) h.access; remote = among (remote_limited s) h.remote }
  where
    at : (o : Option FileOf) → IfSome o (IsFileOf few) → IfSome o (IsFileOf many)
    at None k = k
    at (Some file.Script) k = tt
    at (Some (file.Table number)) k = omega (arith, k, w.tables)
    at (Some (file.Heading remote)) k = omega (arith, k, w.remotes)
    at (Some (file.Key key)) k = omega (arith, k, w.remotes)

    by : (o : Option ℕ) → IfSome o (IsAccessOf few.accesses) → IfSome o (IsAccessOf many.accesses)
    by None k = k
    by (Some number) k = (k.0, omega (arith, k.1, w.accesses))

    among : (o : Option ℕ) → IfSome o (λ (remote : ℕ). remote < few.remotes) → IfSome o (λ (remote : ℕ). remote < many.remotes)
    among None k = k
    among (Some remote) k = omega (arith, k, w.remotes)

-- a file is among those up to it
pub file_to : (f : FileOf) → IsFileOf (counts_to f) f
file_to file.Script = tt
file_to (file.Table number) = omega arith
file_to (file.Heading remote) = omega arith
file_to (file.Key at) = omega arith

pub IsEarly-weaker : (few many : Counts) (told tells : Type 0) (s : Status) → (told → tells) → AreWithin few many → IsEarly few told s → IsEarly many tells s
IsEarly-weaker few many told tells s f w h = record {
  between = h.between;
  founded = founded told tells s f h.founded;
  placed = h.placed;
  named = named_more few many s w h.named;
}

-- what holds of any status
pub holds_anyway : (s : Status) (P : Type 0) → P → UnlessReadOrMemory s P
holds_anyway s P p = by (file_unread s)
  where
    at : (st : Stage) → HoldsAt st P
    at stage.Memory = tt
    at _ = p

    by : (o : Option FileOf) → MatchOption o (HoldsAt (stage_of s) P) (λ file. ⊤)
    by None = at (stage_of s)
    by (Some f) = tt

-- what holds of a status holds by what it stands for
pub holds_same : (s : Status) (P Q : Type 0) → (P → Q) → UnlessReadOrMemory s P → UnlessReadOrMemory s Q
holds_same s P Q f = by (file_unread s)
  where
    at : (st : Stage) → HoldsAt st P → HoldsAt st Q
    at stage.Memory h = tt
    at _ h = f h

    by : (o : Option FileOf) → MatchOption o (HoldsAt (stage_of s) P) (λ file. ⊤) → MatchOption o (HoldsAt (stage_of s) Q) (λ file. ⊤)
    by None h = at (stage_of s) h
    by (Some g) h = tt

-- what a status between the words and the output isn't
between_not : (s t : Status) → s ≡ t → (IsBetween t → ⊥) → IsBetween s → ⊥
between_not s t e none h = none (subst IsBetween e h)

pub early_not_done : {known : Counts} (told : Type 0) (s : Status) → IsEarly known told s → s ≡ status.Done → ⊥
early_not_done told s h e = between_not s status.Done e (λ x. x) h.between

pub early_not_write : {known : Counts} (told : Type 0) (s : Status) → IsEarly known told s → s ≡ status.Write → ⊥
early_not_write told s h e = between_not s status.Write e (λ x. x) h.between

pub early_not_usage : {known : Counts} (told : Type 0) (s : Status) → IsEarly known told s → s ≡ status.Usage → ⊥
early_not_usage told s h e = between_not s status.Usage e (λ x. x) h.between

-- a refusal at a file that is loaded before the output
pub file_refuses : (f : FileOf) (P : Type 0) → phase_of_file f ≡ Before → P → RefusesIn (phase_of_file f) P
file_refuses f P e h = subst (λ (phase : Phase). RefusesIn phase P) (sym e) h

pub file_between : (f : FileOf) → phase_of_file f ≡ Before → IsNotWriting (phase_of_file f)
file_between f e = subst IsNotWriting (sym e) tt

pub early_not_found : {known : Counts} (told : Type 0) (s : Status) (f : FileOf) → IsEarly known told s → s ≡ status.NotFound f → told
early_not_found told s f h e = subst (IsFounded told) e h.founded

-- the file of a read fault
read_only : (s : Status) (f : FileOf) → file_unread s ≡ Some f → s ≡ status.Read f
read_only (status.Read g) f e = let same : g ≡ f = cc in ap status.Read same
read_only _ f e = absurd cc

-- a read fault has both its reasons
pub MayRefuse-read : (reached : FileOf → Type 0) (rose P : Type 0) (s : Status) → ((f : FileOf) → s ≡ status.Read f → rose)
    → MayRefuse reached P s → MayRefuse (λ f. rose × reached f) P s
MayRefuse-read reached rose P s read h = by (file_unread s) refl h
  where
    by : (o : Option FileOf) → file_unread s ≡ o → MatchOption o (RefusesIn (phase_of s) P) reached
        → MatchOption o (RefusesIn (phase_of s) P) (λ f. rose × reached f)
    by None e k = k
    by (Some f) e k = (read f (read_only s f e), k)

-- where nothing is expected, a step that touches no folder refuses for want of memory alone
pub memory_alone : (P : Type 0) (s : Status) → (P → ⊥) → MayRefuse never P s → s ≡ status.Memory
memory_alone P status.Memory f may = refl
memory_alone P status.Done f may = absurd may
memory_alone P status.Usage f may = absurd (f may)
memory_alone P (status.Script fault) f may = absurd (f may)
memory_alone P (status.Bind statement fault) f may = absurd (f may)
memory_alone P (status.BadTable table fault) f may = absurd (f may)
memory_alone P (status.BadHeading remote) f may = absurd (f may)
memory_alone P (status.BadKey at why) f may = absurd may
memory_alone P (status.NoColumn access) f may = absurd (f may)
memory_alone P (status.NotFound file.Script) f may = absurd (f may)
memory_alone P (status.NotFound (file.Table number)) f may = absurd (f may)
memory_alone P (status.NotFound (file.Heading remote)) f may = absurd (f may)
memory_alone P (status.NotFound (file.Key at)) f may = absurd may
memory_alone P (status.Read it) f may = absurd may
memory_alone P status.Write f may = absurd may
memory_alone P (status.Limit (limit.File file.Script)) f may = absurd (f may)
memory_alone P (status.Limit (limit.File (file.Table number))) f may = absurd (f may)
memory_alone P (status.Limit (limit.File (file.Heading remote))) f may = absurd (f may)
memory_alone P (status.Limit (limit.File (file.Key at))) f may = absurd may
memory_alone P (status.Limit (limit.Parse fault)) f may = absurd (f may)
memory_alone P (status.Limit (limit.Table number fault)) f may = absurd (f may)
memory_alone P (status.Limit (limit.Bind statement fault)) f may = absurd (f may)
memory_alone P (status.Limit (limit.Keys remote)) f may = absurd may
memory_alone P (status.Limit (limit.Rows remote)) f may = absurd may
