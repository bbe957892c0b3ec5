-- What holds of an answer.
use Rattle.std.specs.Prelude.{IfOk, Result, Ok, Err}

pub on_ok : {A E : Type 0} {P Q : A → Type 0} (r : Result A E) → ((a : A) → P a → Q a) → IfOk r P → IfOk r Q
on_ok (Ok a) f h = f a h
on_ok (Err e) f h = tt
