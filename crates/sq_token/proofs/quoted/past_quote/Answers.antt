use Rattle.std.proofs.Common.{rules, ◌<◌, length, slice_index, arith}
use Rattle.std.proofs.lemmas.Str.{IsCharBoundary-after_ascii}
use Rattle.sq_token.proofs.quoted.past_quote.Goals as goal

pub returns-then-bytes-at-clause-cut : goal.returns-then-bytes-at-clause-cut
returns-then-bytes-at-clause-cut c =
    let z = c.args.text.now in
    let full : c.loop-at.at < length z = search rules in
    let small : slice_index z c.loop-at.at < 128 = grind arith in
    (omega arith, IsCharBoundary-after_ascii z c.loop-at.at c.utf8.text full small)
