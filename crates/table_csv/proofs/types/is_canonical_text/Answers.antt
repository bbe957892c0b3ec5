use Rattle.table_csv.proofs.TypeLemmas.{canonical-is, canonical-not_utf8}
use Rattle.std.proofs.Common.{ap, ◌∙◌}
use Rattle.std.specs.Prelude.{is_ok}
use Rattle.table_csv.proofs.types.is_canonical_text.Goals as goal

pub returns-then-is_canonical_numeral : goal.returns-then-is_canonical_numeral
returns-then-is_canonical_numeral c =
    canonical-is c.args.field.now c.in-Ok.text.now c.is_canonical_numeral.result c.is_ok.result c.in-Ok.ensures.cases.0 c.in-Ok.ensures.cases.1
    c.is_canonical_numeral.ensures c.if-is_canonical_numeral.true (c.is_ok.ensures.value ∙ ap (λ r. is_ok r) c.read_int.ensures)

pub returns-in-Err : goal.returns-in-Err
returns-in-Err c = canonical-not_utf8 c.args.field.now c.in-Err.ensures.cases.0
