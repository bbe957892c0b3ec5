use Rattle.std.proofs.Common.{◌≡◌, take}
use Rattle.case_kit.specs.Tables.{file_in}
use Rattle.case_kit.proofs.tables.file_of.Given as goal

abbrev pub invariant-loop-byte : goal.invariant-loop-byte
invariant-loop-byte l = l.file.items ≡ file_in (take l.byte-index l.text)
