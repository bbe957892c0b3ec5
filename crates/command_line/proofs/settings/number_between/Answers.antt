use Rattle.std.proofs.Common.{◌∙◌, sym}
use Rattle.command_line.proofs.NumberLaws.{number_unread}
use Rattle.command_line.proofs.settings.number_between.Goals as goal

pub returns-in_default-3 : goal.returns-in_default-3
returns-in_default-3 c =
    number_unread c.args.least c.args.most c.args.text.now c.ranges.most.fits (sym c.is_number.ensures ∙ c.if-not-is_number.false) c.in_default.ensures.value.0
