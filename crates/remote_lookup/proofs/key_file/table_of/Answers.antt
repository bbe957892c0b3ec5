use Rattle.std.proofs.Common.{◌≡◌, ◌≢◌, ◌∙◌, sym, refl, inr, true, false, Some, rules}
use Rattle.sq_value.specs.Columns.{are_same_columns}
use Rattle.table_csv.specs.TableFile.{table_of_bytes}
use Rattle.table_csv.specs.declared.fault.TableFault.TheVariants as table
use Rattle.remote_lookup.specs.KeyFiles.{other_key}
use Rattle.remote_lookup.specs.Rounds.{Bad}
use Rattle.remote_lookup.specs.declared.remote.KeyFault.TheVariants as fault
use Rattle.remote_lookup.proofs.TableLemmas.{other_columns, by_records}
use Rattle.remote_lookup.proofs.key_file.table_of.Goals as goal

pub returns-then-not-same_columns-clause-fault : goal.returns-then-not-same_columns-clause-fault
returns-then-not-same_columns-clause-fault c =
    let columns = c.args.columns.now in
    let differ : are_same_columns c.in-Ok.table.columns columns ≡ false = search rules in
    let apart : Bad fault.Columns ≢ Bad (fault.Table table.Memory) = (λ e. cc) in
    inr (Bad fault.Columns, apart, other_columns columns c.args.column c.args.at.key (table_of_bytes c.args.bytes.now) c.in-Ok.table c.in-Ok.ensures.ok differ, refl)

pub returns-in-Some-clause-fault : goal.returns-in-Some-clause-fault
returns-in-Some-clause-fault c =
    let columns = c.args.columns.now in
    let same : are_same_columns c.in-Ok.table.columns columns ≡ true = search rules in
    let apart : Bad (fault.OtherKey c.in-Some.rec) ≢ Bad (fault.Table table.Memory) = (λ e. cc) in
    let other : other_key c.args.column c.args.at.key 1 c.in-Ok.table.rows ≡ Some c.in-Some.rec = sym c.other_key.ensures ∙ c.in-Some.is in
    inr (Bad (fault.OtherKey c.in-Some.rec), apart, by_records columns c.args.column c.args.at.key (table_of_bytes c.args.bytes.now) c.in-Ok.table c.in-Ok.ensures.ok same (Some c.in-Some.rec) other, refl)
