use Rattle.std.proofs.Common.{sym, ◌∙◌, ap}
use Rattle.std.specs.Prelude.{not}
use Rattle.command_line.proofs.TableLaws.{names_differ-none, names_differ-more}
use Rattle.command_line.proofs.tables.+names_differ.Goals as goal

pub returns-in-empty : goal.returns-in-empty
returns-in-empty t c = names_differ-none c.args.tables.now c.in-empty.len_below

pub returns-then-not-is_named : goal.returns-then-not-is_named
returns-then-not-is_named t c =
    c.names_differ.ensures
    ∙ names_differ-more c.args.tables.now c.table-item.result c.as_str.result.now _ c.in-len1-up.len_at_least c.table-item.is c.as_str.ensures
    (sym c.if-not-is_named.true ∙ c.is_named.ensures)

pub returns-else-not-is_named : goal.returns-else-not-is_named
returns-else-not-is_named t c =
    ap not c.if-not-is_named.false
    ∙ names_differ-more c.args.tables.now c.table-item.result c.as_str.result.now _ c.in-len1-up.len_at_least c.table-item.is c.as_str.ensures
    (sym c.if-not-is_named.false ∙ c.is_named.ensures)
