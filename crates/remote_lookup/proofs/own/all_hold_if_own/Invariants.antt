use Rattle.std.proofs.Common.{◌≡◌, drop}
use Rattle.std.specs.List.{list_all}
use Rattle.sq_expr.specs.Meaning.{value_in}
use Rattle.remote_lookup.specs.Own.{holds_own}
use Rattle.remote_lookup.proofs.own.all_hold_if_own.Given as goal

abbrev pub invariant-loop-conjunct : goal.invariant-loop-conjunct
invariant-loop-conjunct g l =
    let holds = holds_own g.P.Predicates.gives (value_in l.rows.tables.now l.rows.uses l.rows.rows) l.alias in
    list_all holds (drop l.conjunct-index l.conjuncts) ≡ list_all holds l.conjuncts
