use Rattle.std.proofs.Common.{◌≡◌}
use Rattle.case_kit.specs.Tables.{with_lines, tables_in}
use Rattle.case_kit.proofs.LineLaws.{lines_from}
use Rattle.case_kit.proofs.tables.catalogue_of_lines.Given as goal

-- the lines that are left, behind the tables so far
abbrev pub invariant-loop-line : goal.invariant-loop-line
invariant-loop-line l = with_lines (lines_from l.line-items l.line-index) l.catalogue ≡ tables_in l.text
