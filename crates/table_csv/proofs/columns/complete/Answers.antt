use Rattle.std.proofs.Common.{◌≡◌, ◌+◌, List, [], ◌∷◌, ◌++◌, drop, get_or, sym, ap, ◌∙◌, append_assoc, arith}
use Rattle.sq_value.specs.declared.table.Column.{Column}
use Rattle.table_csv.specs.declared.heading.Named.{Named}
use Rattle.table_csv.specs.declared.types.Seen.TheVariants as seen
use Rattle.table_csv.specs.Work.{column_of_head, completed}
use Rattle.table_csv.proofs.HeadLemmas.{completed-end, completed-more}
use Rattle.table_csv.proofs.columns.complete.Goals as goal

pub loop-i-preserved : goal.loop-i-preserved
loop-i-preserved c =
    let i = c.loop-i.i in
    let heads = c.args.heads.now in
    let known = c.args.seen.now in
    let old = c.loop-i.columns.items in
    let rest = completed (drop (i + 1) heads) (drop (i + 1) known) in
    let kind = get_or known i seen.Nulls in
    let made = column_of_head c.index-heads-i.result kind in
    let pushed : c.push.new.self.items ≡ old ++ made ∷ [] = c.in_ok-push.ensures.items ∙ ap (λ (x : Column). old ++ x ∷ []) c.in_ok-complete_one.ensures.ok in
    ap (λ (v : List Column). v ++ rest) pushed ∙ append_assoc old (made ∷ []) rest
    ∙ ap (λ (xs : List Column). old ++ xs)
    (sym (completed-more heads known i c.index-heads-i.result seen.Nulls c.loop-i-test.true (omega (arith, c.loop-i-test.true, c.requires))
    ∙ ap (λ (h : Named). column_of_head h kind ∷ rest) (sym c.index-heads-i.is)))
    ∙ c.loop-i.invariant

pub returns-clause-ok : goal.returns-clause-ok
returns-clause-ok c =
    sym (completed-end c.args.heads.now c.args.seen.now c.loop-i.columns.items c.loop-i.i c.loop-i-test.false) ∙ c.loop-i.invariant
