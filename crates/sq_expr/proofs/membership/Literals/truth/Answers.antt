use Rattle.std.proofs.Common.{◌*◌, ◌^◌, ◌≤◌, Bool, Some, ℤ, ap, sym, subst, ◌∙◌}
use Rattle.std.specs.Prelude.{unsigned_abs}
use Rattle.std.specs.Int.{w128}
use Rattle.std.specs.Ordering.{int_cmp}
use Rattle.std.specs.BTreeSet.{contains}
use Rattle.std.proofs.lemmas.Int.{to_z-of_z}
use Rattle.sq_value.specs.Key.{rank_of_key, IsBounded}
use Rattle.sq_value.specs.declared.key.Key.{Key}
use Rattle.sq_expr.specs.Membership.{choice, among}
use Rattle.sq_expr.proofs.SumLemmas.{number_fits}
use Rattle.sq_expr.proofs.membership.Literals.truth.Goals as goal

pub returns-in-Some-Number : goal.returns-in-Some-Number
returns-in-Some-Number c =
    let n = c.in-Some-Number.number in
    let bounded : unsigned_abs n ≤ 2 ^ 63 * 1000000 = subst IsBounded c.in-Some-Number.field-0-is c.in-Some-Number.ensures.bounded in
    let same = to_z-of_z w128 n (number_fits n bounded) in
    c.choice-in-Some-Number.ensures
    ∙ ap (λ (b : Bool). choice b c.either-in-Some-Number.result)
    (c.contains-found.ensures ∙ ap (λ (z : ℤ). contains int_cmp c.args.self.now.numbers z) same)
    ∙ ap (λ (b : Bool). choice (contains int_cmp c.args.self.now.numbers n) b) c.either-in-Some-Number.ensures
    ∙ ap (λ (k : Key). among c.args.self.now (Some (rank_of_key k))) (sym c.in-Some-Number.field-0-is)
    ∙ ap (among c.args.self.now) c.in-Some-Number.ensures.rank
