use Rattle.std.proofs.Common.{arith, ◌∙◌, sym, subst}
use Rattle.std.specs.Prelude.{IfSome}
use Rattle.sq_value.specs.Relation.{HasKind}
use Rattle.fn_registry.proofs.RegistryLaws.{kinds_here, kinds_past, known_within}
use Rattle.fn_registry.proofs.calling.call_numbered.Goals as goal

pub call-requires : goal.call-requires
call-requires g c = (
  omega arith,
  subst (λ o. IfSome o (λ k. HasKind k.first c.args.x.now × HasKind k.second c.args.y.now))
      (sym c.loop-item.invariant ∙ kinds_here (λ r. r.signature) c.args.items.now c.loop-item.item-index c.args.number c.item-item.result
      c.loop-item-test.true c.item-item.is c.if-item-number.true)
      c.requires.fits,
)

pub loop-item-preserved : goal.loop-item-preserved
loop-item-preserved g c =
    sym (kinds_past (λ r. r.signature) c.args.items.now c.loop-item.item-index c.args.number c.item-item.result
    c.loop-item-test.true c.item-item.is c.if-item-number.false)
    ∙ c.loop-item.invariant

pub unreachable-requires : goal.unreachable-requires
unreachable-requires g c = known_within (λ r. r.signature) c.args.items.now c.loop-item.item-index c.args.number
    c.loop-item-test.false c.loop-item.invariant c.requires.known
