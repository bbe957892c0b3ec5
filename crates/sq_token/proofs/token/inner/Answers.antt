use Rattle.std.proofs.Common.{◌≡◌, ◌-◌, ◌∙◌, sym, arith}
use Rattle.sq_token.proofs.TokenLemmas.{inside_front}
use Rattle.sq_token.proofs.token.inner.Goals as goal

pub returns : goal.returns
returns c =
    let e : c.args.len - 1 - 1 ≡ c.args.len - 2 = omega arith in
    c.range.ensures.value ∙ rw e (sym (inside_front c.args.text.now c.args.len c.requires.long c.requires.within))
