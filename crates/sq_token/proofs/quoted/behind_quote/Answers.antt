use Rattle.std.proofs.Common.{rules, ◌<◌, length, slice_index, arith}
use Rattle.std.proofs.lemmas.Str.{IsCharBoundary-after_ascii}
use Rattle.sq_token.proofs.quoted.behind_quote.Goals as goal

pub range_from-requires : goal.range_from-requires
range_from-requires c =
    let z = c.args.text.now in
    let full : 0 < length z = search rules in
    let small : slice_index z 0 < 128 = grind arith in
    λ _. IsCharBoundary-after_ascii z 0 c.utf8.text full small
