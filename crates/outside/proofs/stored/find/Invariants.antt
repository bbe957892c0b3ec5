use Rattle.std.proofs.Common.{◌≡◌, drop}
use Rattle.outside.specs.Files.{lookup}
use Rattle.outside.proofs.stored.find.Given as goal

abbrev pub invariant-loop-file : goal.invariant-loop-file
invariant-loop-file l = lookup (drop l.file-index l.files) l.name ≡ lookup l.files l.name
