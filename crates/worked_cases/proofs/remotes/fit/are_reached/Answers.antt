use Rattle.std.proofs.Common.{◌≡◌, ◌<◌, ◌≤◌, ◌+◌, ap, sym, subst, ℕ, List, length, take, take_all, arith}
use Rattle.std.specs.Prelude.{All}
use Rattle.std.proofs.lemmas.List.Elements.{All-more}
use Rattle.sq_expr.specs.declared.block.AliasUse.{AliasUse}
use Rattle.worked_cases.specs.FitRemotes.{IsReached}
use Rattle.worked_cases.proofs.RemoteLemmas.{all_reached}
use Rattle.worked_cases.proofs.remotes.fit.are_reached.Goals as goal

pub loop-item-preserved : goal.loop-item-preserved
loop-item-preserved c =
    let xs : List AliasUse = c.as_slice-item-items.result.now in
    let i : ℕ = c.loop-item.item-index in
    let low : i < length xs = omega (arith, c.loop-item-test.true, c.loop-item.auto.item-index-end) in
    let same : xs ≡ c.args.block.now.aliases = c.as_slice-item-items.ensures in
    subst (λ (l : List AliasUse). All (IsReached c.args.remotes.now) (take (i + 1) l)) same
    (All-more (IsReached c.args.remotes.now) xs i _ low
    (subst (λ (l : List AliasUse). All (IsReached c.args.remotes.now) (take i l)) (sym same) c.loop-item.invariant) (c.is_reached.ensures c.if-not-is_reached.false))

pub returns : goal.returns
returns c = λ _.
    let i : ℕ = c.loop-item.item-index in
    let size = ap (length {A = AliasUse}) c.as_slice-item-items.ensures in
    let past : length c.args.block.now.aliases ≤ i = omega (arith, c.loop-item-test.false, c.loop-item.auto.item-index-end, size) in
    all_reached c.args.block.now c.args.remotes.now (subst (All (IsReached c.args.remotes.now)) (take_all i c.args.block.now.aliases past) c.loop-item.invariant)
