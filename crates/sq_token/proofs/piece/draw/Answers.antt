use Rattle.std.proofs.Common.{rules, ◌+◌, ◌<◌, ◌∙◌, [], sym, refl, length, arith}
use Rattle.sq_token.proofs.PieceLemmas.{pieces_blank, pieces_bad, pieces_token, pieces_none}
use Rattle.sq_token.proofs.piece.draw.Goals as goal

pub loop-text-preserved : goal.loop-text-preserved
loop-text-preserved c =
    let z = c.loop-text.text.now in
    let full : 0 < length z = search rules in
    let e = pieces_blank c.loop-text.at z c.front-form.result c.front-form.ensures.value full c.front-form.ensures.within.0 c.in-Blank.is in
    (c.range_from-text.utf8, rw c.range_from-text.ensures.value (sym e ∙ c.loop-text.invariant.1), omega arith, omega arith)

pub returns-in-Bad-clause-drawn : goal.returns-in-Bad-clause-drawn
returns-in-Bad-clause-drawn c =
    let z = c.loop-text.text.now in
    let full : 0 < length z = search rules in
    let e = pieces_bad c.loop-text.at z c.front-form.result c.front-form.ensures.value full c.front-form.ensures.within.0 c.in-Bad.is in
    rw (pieces_none (c.loop-text.at + c.front-form.result.1) [] refl) (sym c.loop-text.invariant.1 ∙ e)

pub returns-in_default-clause-drawn : goal.returns-in_default-clause-drawn
returns-in_default-clause-drawn c =
    let z = c.loop-text.text.now in
    let full : 0 < length z = search rules in
    let e = pieces_token c.loop-text.at z c.front-form.result c.front-form.ensures.value full c.front-form.ensures.within.0 c.in_default.not-Blank c.in_default.not-Bad in
    rw c.range_from-rest.ensures.value (sym c.loop-text.invariant.1 ∙ e)

pub returns-clause-drawn : goal.returns-clause-drawn
returns-clause-drawn c = sym c.loop-text.invariant.1 ∙ pieces_none c.loop-text.at c.loop-text.text.now (search rules)

pub returns-in-Bad-clause-within : goal.returns-in-Bad-clause-within
returns-in-Bad-clause-within c = search rules
