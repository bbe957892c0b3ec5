use Rattle.std.proofs.Common.{sym}
use Rattle.csv.specs.Records.{fields_of}
use Rattle.table_csv.proofs.FieldLemmas.{field_at-in}
use Rattle.table_csv.proofs.records.field_of.Goals as goal

pub returns-in-None : goal.returns-in-None
returns-in-None c = absurd (field_at-in (fields_of c.args.row.now) c.args.place c.requires (sym c.in-None.ensures.value))
