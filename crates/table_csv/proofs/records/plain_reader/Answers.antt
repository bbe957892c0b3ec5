use Rattle.table_csv.proofs.RecordLemmas.{records_left-new}
use Rattle.table_csv.proofs.records.plain_reader.Goals as goal

pub returns-in-Ok-clause-records : goal.returns-in-Ok-clause-records
returns-in-Ok-clause-records c = λ unmarked.
    records_left-new c.from_reader-reader.result c.set_byte_headers.new.self c.args.bytes.now
    c.in-Ok.ensures.same c.from_reader-reader.ensures.state c.from_reader-reader.ensures.source unmarked
