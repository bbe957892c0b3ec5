use Rattle.std.proofs.Common.{sym, ◌∙◌}
use Rattle.command_line.proofs.RemoteLaws.{remotes_differ-none, remotes_differ-more}
use Rattle.command_line.proofs.remotes.+remotes_differ.Goals as goal

pub returns-in-empty : goal.returns-in-empty
returns-in-empty t c = remotes_differ-none c.args.tables.now c.args.remotes.now c.in-empty.len_below

pub returns-then-is_new : goal.returns-then-is_new
returns-then-is_new t c =
    c.remotes_differ.ensures
    ∙ remotes_differ-more c.args.tables.now c.args.remotes.now c.remote-item.result c.as_str.result.now _ c.in-len1-up.len_at_least c.remote-item.is c.as_str.ensures
    (sym c.if-is_new.true ∙ c.is_new.ensures)

pub returns-else-is_new : goal.returns-else-is_new
returns-else-is_new t c =
    c.if-is_new.false
    ∙ remotes_differ-more c.args.tables.now c.args.remotes.now c.remote-item.result c.as_str.result.now _ c.in-len1-up.len_at_least c.remote-item.is c.as_str.ensures
    (sym c.if-is_new.false ∙ c.is_new.ensures)
