use Rattle.std.proofs.Common.{refl}
use Rattle.sq_token.proofs.form.is_in.Goals as goal

pub returns-in-Line : goal.returns-in-Line
returns-in-Line c = rw c.in-Line.is refl
