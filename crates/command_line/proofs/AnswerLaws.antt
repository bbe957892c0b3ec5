-- What a step answers that hands on the answer of an earlier one.
use Rattle.std.proofs.Common.{◌≡◌, ◌∙◌, refl, sym, ap, Option, Some, None, Ok, Err}
use Rattle.std.specs.Prelude.{Result, IfErr, IsErrAnd}
use Rattle.command_line.specs.Answers.{Reads}
use Rattle.command_line.specs.Steps.{◌>>=◌}
use Rattle.command_line.specs.declared.fault.WordsFault.{WordsFault}
use Rattle.command_line.specs.declared.fault.WordsFault.TheVariants.{OutOfForm}

-- a fault is handed on
pub handed_on : {A : Type 0} (r : Result A WordsFault) (e : WordsFault) (P : Type 0) → IsErrAnd r (λ y. y ≡ e) → (e ≡ OutOfForm → P)
    → IfErr r (λ y. y ≡ OutOfForm → P)
handed_on (Ok x) e P is h = absurd is
handed_on (Err y) e P is h = λ out. h (sym is ∙ out)

pub fault_read : {A : Type 0} (expected : Option A) (r : Result A WordsFault) (e : WordsFault) → IsErrAnd r (λ y. y ≡ e)
    → (e ≡ OutOfForm → expected ≡ None) → Reads expected r
fault_read expected (Ok x) e is h = absurd is
fault_read expected (Err y) e is h = λ out. h (sym is ∙ out)

-- nothing comes behind a step that gives nothing
pub no_step : {A B : Type 0} (o : Option A) (more : A → Option B) → o ≡ None → (o >>= more) ≡ None
no_step None more e = refl
no_step (Some x) more e = absurd cc

-- behind a step that gives something comes what follows it
pub then_step : {A B : Type 0} (o : Option A) (x : A) (more : A → Option B) → o ≡ Some x → (o >>= more) ≡ more x
then_step None x more e = absurd cc
then_step (Some y) x more e = ap more (given y x e)
  where
    given : {A : Type 0} (y x : A) → Some y ≡ Some x → y ≡ x
    given y x f = cc
