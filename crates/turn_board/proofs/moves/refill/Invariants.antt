use Rattle.std.proofs.Common.{◌≡◌, ℕ, ◌≤◌, ◌<◌, vec_len, vec_capacity, true, false, get_or}
use Rattle.std.specs.Slots.{slots_items, slots_filled, slots_len}
use mathlib.Core.Option.{some}
use lib.ListN.{get_elem?}
use Rattle.turn_board.specs.declared.lot.Lot.TheVariants.{OfModule}
use Rattle.turn_board.proofs.moves.refill.Given as goal

abbrev pub invariant-loop-i : goal.invariant-loop-i
invariant-loop-i g l = record {
  same : slots_items l.closed.slots ≡ slots_items l.fn.closed.slots;
  long : slots_len l.closed.slots ≡ slots_len l.fn.closed.slots;
  emptied : (k : ℕ) → k < l.i → get_or (slots_filled l.closed.slots) k false ≡ false;
  left : (k : ℕ) → l.i ≤ k → k < slots_len l.fn.closed.slots → get_or (slots_filled l.closed.slots) k false ≡ true;
  number : vec_len l.modules ≡ l.i;
  room : l.fn.count ≤ vec_capacity l.modules;
  modules : (m : ℕ) (k : g.row.K.Denot) → m < l.i → get_elem? (slots_items l.fn.closed.slots) m ≡ some (OfModule k) → get_elem? l.modules.items m ≡ some k;
}
