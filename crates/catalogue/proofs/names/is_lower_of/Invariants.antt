use Rattle.std.proofs.Common.{◌≡◌, drop}
use Rattle.std.specs.Str.{bytes_eq}
use Rattle.sq_value.specs.Name.{lower}
use Rattle.catalogue.proofs.names.is_lower_of.Given as goal

abbrev pub invariant-loop-place : goal.invariant-loop-place
invariant-loop-place l = bytes_eq (lower (drop l.place l.name)) (drop l.place l.text) ≡ bytes_eq (lower l.name) l.text
