use Rattle.std.proofs.Common.{◌++◌, take, ap, ◌∙◌, if◌then◌else◌}
use Rattle.std.specs.Result.{is_ok}
use Rattle.outside.proofs.kept.keep_first.Goals as goal

-- there is room, so the bytes are taken
pub returns-clause-items : goal.returns-clause-items
returns-clause-items c =
    let old = c.args.kept.now.items in
    c.extend_from_slice.ensures.items
    ∙ ap (λ r. if is_ok r then old ++ take c.args.count c.args.piece.now else old) c.unwrap.ensures
