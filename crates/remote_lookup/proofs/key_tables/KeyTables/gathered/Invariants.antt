use Rattle.std.proofs.Common.{◌≡◌, ◌++◌}
use Rattle.remote_lookup.specs.Gathered.{CanTake, with_keys}
use Rattle.remote_lookup.specs.Working.{known}
use Rattle.remote_lookup.proofs.key_tables.KeyTables.gathered.Given as goal

abbrev pub invariant-loop-key : goal.invariant-loop-key
invariant-loop-key l = record {
  can : (goal.iterator-loop-key).can_next l.key-iterator;
  ends : (goal.iterator-loop-key).is_finite l.key-iterator;
  keys : l.keys.items ++ known l.key-iterator ≡ known l.fn.self;
  rows : with_keys l.tables.items l.key-iterator ≡ with_keys l.fn.into.items l.fn.self;
  room : CanTake l.tables.items l.key-iterator;
}
