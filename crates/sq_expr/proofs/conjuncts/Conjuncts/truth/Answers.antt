use Rattle.std.proofs.Common.{◌≡◌, Some, length, ap, sym, subst, ◌∙◌, arith}
use Rattle.std.specs.Prelude.{slice_get}
use Rattle.std.proofs.lemmas.Option.{same_Some}
use Rattle.sq_expr.specs.declared.block.Conjunct.{Conjunct}
use Rattle.sq_expr.specs.Meaning.{truth_of, value_in}
use Rattle.sq_expr.specs.Prepared.{IsPrepared}
use Rattle.sq_expr.proofs.ReadyLemmas.{IsReady-fits}
use Rattle.sq_expr.proofs.PreparedLemmas.{conjunct_read, prepared_read}
use Rattle.sq_expr.proofs.conjuncts.Conjuncts.truth.Goals as goal

pub truth-requires : goal.truth-requires
truth-requires g c =
    let rows = c.args.rows.now in
    let item = c.index-as_slice-number.result in
    let there : slice_get c.args.self.now c.args.number ≡ Some item =
    conjunct_read c.args.self.now c.as_slice.result.now c.args.number item (c.as_slice.ensures ∙ c.self.view_is) c.requires.there c.index-as_slice-number.is in
    let is = subst (IsPrepared item.cond) c.in-Some-Membership.field-0-is
    (prepared_read c.args.self.now c.self.inside.items c.self.inside.prepared.items c.as_slice-2.result.now c.args.number item c.in-Some-Membership.field-0.now
    c.self.view_is c.as_slice-2.ensures.value c.self.invariant there c.in-Some-Membership.ensures) in
    let many : length rows.uses ≡ 12 = omega arith in
    is.reads (g.F.Predicates.kinds_of c.args.functions.now) rows.tables.now rows.uses rows.rows
    (IsReady-fits _ _ _ _ rows.span item.cond many (c.requires.fits item there) (c.requires.covered item there))

pub truth-requires-in-Some-IntegerTest : goal.truth-requires-in-Some-IntegerTest
truth-requires-in-Some-IntegerTest g c =
    let rows = c.args.rows.now in
    let item = c.index-as_slice-number.result in
    let there : slice_get c.args.self.now c.args.number ≡ Some item =
    conjunct_read c.args.self.now c.as_slice.result.now c.args.number item (c.as_slice.ensures ∙ c.self.view_is) c.requires.there c.index-as_slice-number.is in
    let is = subst (IsPrepared item.cond) c.in-Some-IntegerTest.field-0-is
    (prepared_read c.args.self.now c.self.inside.items c.self.inside.prepared.items c.as_slice-2.result.now c.args.number item c.in-Some-IntegerTest.field-0.now
    c.self.view_is c.as_slice-2.ensures.value c.self.invariant there c.in-Some-IntegerTest.ensures) in
    let many : length rows.uses ≡ 12 = omega arith in
    is.reads (g.F.Predicates.kinds_of c.args.functions.now) rows.tables.now rows.uses rows.rows
    (IsReady-fits _ _ _ _ rows.span item.cond many (c.requires.fits item there) (c.requires.covered item there))

pub truth-requires-in_default-clause-fits : goal.truth-requires-in_default-clause-fits
truth-requires-in_default-clause-fits g c =
    let item = c.index-as_slice-number.result in
    c.requires.fits item
    (conjunct_read c.args.self.now c.as_slice.result.now c.args.number item (c.as_slice.ensures ∙ c.self.view_is) c.requires.there c.index-as_slice-number.is)

pub truth-requires-in_default-clause-covered : goal.truth-requires-in_default-clause-covered
truth-requires-in_default-clause-covered g c =
    let item = c.index-as_slice-number.result in
    c.requires.covered item
    (conjunct_read c.args.self.now c.as_slice.result.now c.args.number item (c.as_slice.ensures ∙ c.self.view_is) c.requires.there c.index-as_slice-number.is)

pub returns-in-Some-Membership : goal.returns-in-Some-Membership
returns-in-Some-Membership g c x at =
    let rows = c.args.rows.now in
    let gives = g.F.Predicates.gives in
    let values = value_in rows.tables.now rows.uses rows.rows in
    let item = c.index-as_slice-number.result in
    let there : slice_get c.args.self.now c.args.number ≡ Some item =
    conjunct_read c.args.self.now c.as_slice.result.now c.args.number item (c.as_slice.ensures ∙ c.self.view_is) c.requires.there c.index-as_slice-number.is in
    let is = subst (IsPrepared item.cond) c.in-Some-Membership.field-0-is
    (prepared_read c.args.self.now c.self.inside.items c.self.inside.prepared.items c.as_slice-2.result.now c.args.number item c.in-Some-Membership.field-0.now
    c.self.view_is c.as_slice-2.ensures.value c.self.invariant there c.in-Some-Membership.ensures) in
    c.truth.ensures ∙ sym (is.truth gives values)
    ∙ ap (λ (d : Conjunct). truth_of gives values d.cond) (same_Some item x (sym there ∙ at))

pub returns-in-Some-IntegerTest : goal.returns-in-Some-IntegerTest
returns-in-Some-IntegerTest g c x at =
    let rows = c.args.rows.now in
    let gives = g.F.Predicates.gives in
    let values = value_in rows.tables.now rows.uses rows.rows in
    let item = c.index-as_slice-number.result in
    let there : slice_get c.args.self.now c.args.number ≡ Some item =
    conjunct_read c.args.self.now c.as_slice.result.now c.args.number item (c.as_slice.ensures ∙ c.self.view_is) c.requires.there c.index-as_slice-number.is in
    let is = subst (IsPrepared item.cond) c.in-Some-IntegerTest.field-0-is
    (prepared_read c.args.self.now c.self.inside.items c.self.inside.prepared.items c.as_slice-2.result.now c.args.number item c.in-Some-IntegerTest.field-0.now
    c.self.view_is c.as_slice-2.ensures.value c.self.invariant there c.in-Some-IntegerTest.ensures) in
    c.truth-in-Some-IntegerTest.ensures ∙ sym (is.truth gives values)
    ∙ ap (λ (d : Conjunct). truth_of gives values d.cond) (same_Some item x (sym there ∙ at))

pub returns-in_default : goal.returns-in_default
returns-in_default g c x at =
    let rows = c.args.rows.now in
    let item = c.index-as_slice-number.result in
    let there : slice_get c.args.self.now c.args.number ≡ Some item =
    conjunct_read c.args.self.now c.as_slice.result.now c.args.number item (c.as_slice.ensures ∙ c.self.view_is) c.requires.there c.index-as_slice-number.is in
    c.truth-in_default.ensures
    ∙ ap (λ (d : Conjunct). truth_of g.F.Predicates.gives (value_in rows.tables.now rows.uses rows.rows) d.cond) (same_Some item x (sym there ∙ at))
