use Rattle.std.proofs.Common.{rules, ◌≡◌, ◌+◌, ◌<◌, ◌≤◌, length, take, arith}
use Rattle.std.proofs.lemmas.List.{length-take-le}
use Rattle.sq_token.specs.Piece.{piece_of}
use Rattle.sq_token.proofs.TokenLemmas.{tokens_start, tokens_step, InOrder-step, InOrder-wider}
use Rattle.sq_token.proofs.token.tokens.Goals as goal

pub loop-drawn-init : goal.loop-drawn-init
loop-drawn-init c =
    (c.utf8.text, rw c.new-found.ensures.items (tokens_start c.args.text.now), rw c.new-found.ensures.items (omega arith), omega arith)

pub loop-drawn-preserved : goal.loop-drawn-preserved
loop-drawn-preserved c =
    let d = c.in-Some.drawn in
    let w : (c.loop-drawn.at ≤ d.at) × (1 ≤ d.length) × (d.length ≤ length d.text.now) × (d.at + d.length + length d.rest.now ≤ c.loop-drawn.at + length c.loop-drawn.rest.now) = c.in-Some.ensures.within in
    let e : length (take d.length d.text.now) ≡ d.length = length-take-le d.length d.text.now w.2 in
    let full : 0 < length (take d.length d.text.now) = omega arith in
    let ends : d.at + length (take d.length d.text.now) ≤ d.at + d.length = omega arith in (
      search rules,
      tokens_step _ _ _ _ (piece_of d) _ _ c.in_ok-push.ensures.items c.in_ok-token_of.ensures c.in-Some.ensures.drawn c.loop-drawn.invariant.1,
      InOrder-step c.loop-drawn.at _ _ _ _ (piece_of d) c.in_ok-push.ensures.items c.in_ok-token_of.ensures c.loop-drawn.invariant.2 w.0 full ends,
      omega arith,
    )

pub returns-clause-in_order : goal.returns-clause-in_order
returns-clause-in_order c = InOrder-wider 0 c.loop-drawn.at _ _ c.loop-drawn.invariant.2 (omega arith)
