use Rattle.std.proofs.Common.{◌≡◌, ℕ, List, [], ◌∷◌, ◌++◌, length, map, append_assoc, append-nil, ap, sym, ◌∙◌, arith}
use Rattle.std.specs.Vec.Iter.{into_iter_items}
use Rattle.std.proofs.lemmas.List.{nil_from_length}
use Rattle.sq_expr.specs.Fits.{aliases_of}
use Rattle.sq_expr.specs.declared.cond.Cond.{Cond}
use Rattle.sq_expr.specs.declared.block.Conjunct.{Conjunct}
use Rattle.sq_bind.specs.Statement.{span_of, placed_conjunct}
use Rattle.sq_bind.specs.declared.conjunct.Placed.{Placed}
use Rattle.sq_bind.proofs.span.conjuncts_of.Goals as goal

conjunct_at : Cond → ℕ → Conjunct
conjunct_at cond span = record { cond = cond; span = span }

pub loop-cond-preserved : goal.loop-cond-preserved
unfolding conjunct_at
loop-cond-preserved c =
    let at = c.loop-cond in
    let x = c.in-Some.field-0 in
    let rest = into_iter_items c.next.new.self in
    let steps : into_iter_items at.cond-iterator ≡ x ∷ rest = c.in-Some.ensures.steps.0 in
    let gone = c.in-Some.ensures.steps.1 in
    let short = ap length steps in
    let was = at.invariant.left in
    let pushed = c.in_ok-push.ensures.ok in
    let cond = c.in-Some.field-0.cond in
    let spans : c.span_of-span.result ≡ span_of (aliases_of cond) = c.span_of-span.ensures in
    let item = ap (λ (n : ℕ). conjunct_at cond n) spans in
    let front = at.conjuncts in
    record {
      so_far = ap (λ (cs : List Conjunct). cs ++ map placed_conjunct rest) (pushed ∙ ap (λ (d : Conjunct). front ++ d ∷ []) item)
          ∙ append_assoc front (placed_conjunct x ∷ []) (map placed_conjunct rest)
          ∙ ap (λ (xs : List Placed). front ++ map placed_conjunct xs) (sym steps) ∙ at.invariant.so_far;
      left = omega (arith, gone, short, was);
    }

pub returns : goal.returns
returns c =
    let at = c.loop-cond in
    let empty : into_iter_items at.cond-iterator ≡ [] = nil_from_length (into_iter_items at.cond-iterator) (sym at.invariant.left ∙ c.in-None.ensures.steps.0) in
    sym (append-nil at.conjuncts) ∙ ap (λ (xs : List Placed). at.conjuncts ++ map placed_conjunct xs) (sym empty) ∙ at.invariant.so_far
    ∙ (let gives : into_iter_items c.into_iter-cond-iterator.result ≡ c.args.placed.items = c.into_iter-cond-iterator.ensures.into_iter_gives.0 in
    ap (λ (xs : List Placed). map placed_conjunct xs) gives)
