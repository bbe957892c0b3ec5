use Rattle.csv.specs.Records.{fields_of}
use Rattle.table_csv.proofs.RecordLemmas.{GivesNext-read}
use Rattle.table_csv.proofs.records.next_row.Goals as goal

pub returns-in-Ok-clause-gives : goal.returns-in-Ok-clause-gives
returns-in-Ok-clause-gives c =
    GivesNext-read c.args.reader.now c.read_byte_record.new.self c.in-Ok.found (fields_of c.read_byte_record.new.row) c.requires
    (c.in-Ok.ensures.reads c.requires.trim c.requires.ready)
