use Rattle.std.proofs.Common.{◌≡◌, ◌+◌, drop}
use Rattle.remote_lookup.specs.KeyFiles as spec
use Rattle.remote_lookup.proofs.key_file.other_key.Given as goal

abbrev pub invariant-loop-row : goal.invariant-loop-row
invariant-loop-row l = spec.other_key l.column l.at.key (l.row + 1) (drop l.row l.table.rows) ≡ spec.other_key l.column l.at.key 1 l.table.rows
