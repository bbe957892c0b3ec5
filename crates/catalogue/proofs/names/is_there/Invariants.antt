use Rattle.std.proofs.Common.{◌≡◌, drop}
use Rattle.std.specs.Prelude.{string_bytes}
use Rattle.std.specs.List.{list_any}
use Rattle.std.specs.Str.{bytes_eq}
use Rattle.sq_value.specs.Name.{lower}
use Rattle.catalogue.proofs.names.is_there.Given as goal

abbrev pub invariant-loop-place : goal.invariant-loop-place
invariant-loop-place l =
    list_any (λ known. bytes_eq (lower l.name) (string_bytes known)) (drop l.place l.names.keys)
    ≡ list_any (λ known. bytes_eq (lower l.name) (string_bytes known)) l.names.keys
