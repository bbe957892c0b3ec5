use Rattle.std.proofs.Common.{arith, ◌≡◌, ◌≤◌, ◌+◌, ◌++◌, [], ◌∷◌, true, sym, refl, ap, ◌∙◌, subst, ℕ, List, Option, Some, None, length, set, slice_index}
use Rattle.std.proofs.lemmas.List.{get_or-set_other}
use mathlib.Core.Option.{some}
use lib.ListN.{get_elem?}
use Rattle.atomic_table.proofs.Lists.{set_else}
use Rattle.turn_board.specs.declared.view.SeatView.{SeatView}
use Rattle.turn_board.specs.declared.view.Hold.{Hold}
use Rattle.turn_board.specs.declared.view.PoolHold.{PoolHold}
use Rattle.turn_board.specs.declared.seat.Seat.{Seat}
use Rattle.turn_board.specs.declared.lot.Lot.{Lot}
use Rattle.turn_board.specs.declared.lot.Lot.TheVariants.{Out, OfModule}
use Rattle.turn_board.specs.Views.{unended, debts}
use Rattle.turn_board.specs.Plays.{only, Sat, noted, noted_in, marked, marked_by, gave, slot_of}
use Rattle.turn_board.specs.PoolPlays.{bound_by}
use Rattle.turn_board.specs.Boards.{Completes, view}
use Rattle.turn_board.proofs.Debts.{ends_longer}
use Rattle.turn_board.proofs.Rosters.{length_set}
use Rattle.turn_board.proofs.Completions.{completes_before}
use Rattle.turn_board.proofs.Seats.{one_as, seat_as, set_most, set_more}
use Rattle.turn_board.proofs.board.Board.give.Goals as goal

pub note_as-requires-clause-hold : goal.note_as-requires-clause-hold
note_as-requires-clause-hold g c = let b = c.requires.busy in let h = b.2 in let p : SeatView g.row.K.Denot g.row.T.Denot = view c.args.seat.now in let m : ℕ = c.args.slot in let z : g.row.K.Denot = c.args.value in
    let me0 : c.args.seat.now.token.me ≡ (p ∷ [], (m, Out) ∷ []) = c.requires.seat.one ∙ ap (λ (l : List (ℕ × Lot g.row.K.Denot g.row.T.Denot)). let n : Sat g.row.K.Denot g.row.T.Denot = (p ∷ [], l) in n) h.out in
    let me1 : c.put_in.new.token.me ≡ (p ∷ [], (m, OfModule z) ∷ []) = c.put_in.ensures.put ∙ ap (λ (u : Sat g.row.K.Denot g.row.T.Denot). let n : Sat g.row.K.Denot g.row.T.Denot = (u.0, (m, OfModule z) ∷ []) in n) me0 in (
      h.turn,
      z,
      one_as c.put_in.new.token.me p ((m, OfModule z) ∷ []) me1,
      ap (λ (u : Sat g.row.K.Denot g.row.T.Denot). (only u.0).hold) me1 ∙ h.hold,
      h.unnoted,
      h.slot,
      subst (λ (y : g.row.K.Denot). g.K.Kept.extends y z) (sym h.taken) b.3,
      b.4 ∙ (λ j. g.K.Kept.history (sym h.taken j) ++ sym h.drawn j),
      c.entered-count.ensures,
    )

pub mark_as-requires-clause-hold : goal.mark_as-requires-clause-hold
mark_as-requires-clause-hold g c = let b = c.requires.busy in let h = b.2 in let p : SeatView g.row.K.Denot g.row.T.Denot = view c.args.seat.now in let m : ℕ = c.args.slot in let z : g.row.K.Denot = c.args.value in
    let me0 : c.args.seat.now.token.me ≡ (p ∷ [], (m, Out) ∷ []) = c.requires.seat.one ∙ ap (λ (l : List (ℕ × Lot g.row.K.Denot g.row.T.Denot)). let n : Sat g.row.K.Denot g.row.T.Denot = (p ∷ [], l) in n) h.out in
    let me1 : c.put_in.new.token.me ≡ (p ∷ [], (m, OfModule z) ∷ []) = c.put_in.ensures.put ∙ ap (λ (u : Sat g.row.K.Denot g.row.T.Denot). let n : Sat g.row.K.Denot g.row.T.Denot = (u.0, (m, OfModule z) ∷ []) in n) me0 in
    let done = c.note_as.ensures.noted z (ap (λ (u : Sat g.row.K.Denot g.row.T.Denot). u.1) me1) in
    let me2 : c.note_as.new.token.me ≡ (noted p z ∷ [], (m, OfModule z) ∷ []) = done.0 ∙ ap (λ (u : Sat g.row.K.Denot g.row.T.Denot). let n : Sat g.row.K.Denot g.row.T.Denot = (noted (only u.0) z ∷ [], u.1) in n) me1 in
    let h1 : Hold g.row.K.Denot = record h.turn { noted = true } in
    let has1 : noted_in p.hold ≡ Some h1 = ap (λ (o : Option (Hold g.row.K.Denot)). noted_in o) h.hold in
    let slot_is : slot_of p.hold ≡ m = ap (λ (o : Option (Hold g.row.K.Denot)). slot_of o) h.hold ∙ h.slot in
    let saw2 : get_elem? (only c.note_as.new.token.me.0).saw m ≡ some z = ap (λ (u : Sat g.row.K.Denot g.row.T.Denot). get_elem? (only u.0).saw m) done.0 ∙ done.1 (ap (λ (u : Sat g.row.K.Denot g.row.T.Denot). slot_of (only u.0).hold) me1 ∙ slot_is) in
    let owed = ap (λ (u : Sat g.row.K.Denot g.row.T.Denot). slice_index (only u.0).owed m) me2 in (
      h1,
      z,
      one_as c.note_as.new.token.me (noted p z) ((m, OfModule z) ∷ []) me2,
      ap (λ (u : Sat g.row.K.Denot g.row.T.Denot). (only u.0).hold) me2 ∙ has1,
      refl,
      h.unmarked,
      h.slot,
      saw2,
      subst (λ (y : g.row.K.Denot). length (g.K.Kept.marks y) ≤ length (g.K.Kept.marks z)) (sym h.taken) (ends_longer (g.K.Kept.marks b.0) (g.K.Kept.marks z) (g.met.K.Kept.marks_grow b.0 z b.3)),
      subst (λ (y : g.row.K.Denot). unended (g.K.Kept.marks y) ≤ slice_index (only c.note_as.new.token.me.0).owed m + unended (g.K.Kept.marks z)) (sym h.taken) (omega (arith, b.5, owed)),
      subst (λ (x : SeatView g.row.K.Denot g.row.T.Denot × Option (Hold g.row.K.Denot)). debts (marked_by g.K.Kept.marks x.0 z x.1) ≤ 1) (λ i. (sym (ap (λ (u : Sat g.row.K.Denot g.row.T.Denot). only u.0) me2) i, has1 i)) c.requires.thrifty,
      c.marked-marks.ensures,
    )

pub give_as-requires-clause-hold : goal.give_as-requires-clause-hold
give_as-requires-clause-hold g c = let b = c.requires.busy in let h = b.2 in let p : SeatView g.row.K.Denot g.row.T.Denot = view c.args.seat.now in let m : ℕ = c.args.slot in let z : g.row.K.Denot = c.args.value in
    let me0 : c.args.seat.now.token.me ≡ (p ∷ [], (m, Out) ∷ []) = c.requires.seat.one ∙ ap (λ (l : List (ℕ × Lot g.row.K.Denot g.row.T.Denot)). let n : Sat g.row.K.Denot g.row.T.Denot = (p ∷ [], l) in n) h.out in
    let me1 : c.put_in.new.token.me ≡ (p ∷ [], (m, OfModule z) ∷ []) = c.put_in.ensures.put ∙ ap (λ (u : Sat g.row.K.Denot g.row.T.Denot). let n : Sat g.row.K.Denot g.row.T.Denot = (u.0, (m, OfModule z) ∷ []) in n) me0 in
    let done = c.note_as.ensures.noted z (ap (λ (u : Sat g.row.K.Denot g.row.T.Denot). u.1) me1) in
    let me2 : c.note_as.new.token.me ≡ (noted p z ∷ [], (m, OfModule z) ∷ []) = done.0 ∙ ap (λ (u : Sat g.row.K.Denot g.row.T.Denot). let n : Sat g.row.K.Denot g.row.T.Denot = (noted (only u.0) z ∷ [], u.1) in n) me1 in
    let h1 : Hold g.row.K.Denot = record h.turn { noted = true } in
    let has1 : noted_in p.hold ≡ Some h1 = ap (λ (o : Option (Hold g.row.K.Denot)). noted_in o) h.hold in
    let slot_is : slot_of p.hold ≡ m = ap (λ (o : Option (Hold g.row.K.Denot)). slot_of o) h.hold ∙ h.slot in
    let saw2 : get_elem? (only c.note_as.new.token.me.0).saw m ≡ some z = ap (λ (u : Sat g.row.K.Denot g.row.T.Denot). get_elem? (only u.0).saw m) done.0 ∙ done.1 (ap (λ (u : Sat g.row.K.Denot g.row.T.Denot). slot_of (only u.0).hold) me1 ∙ slot_is) in
    let done3 = c.mark_as.ensures.marked z (ap (λ (u : Sat g.row.K.Denot g.row.T.Denot). u.1) me2) in
    let me3 : c.mark_as.new.token.me ≡ (marked g.K.Kept.marks (noted p z) z ∷ [], (m, OfModule z) ∷ []) = done3.0 ∙ ap (λ (u : Sat g.row.K.Denot g.row.T.Denot). let n : Sat g.row.K.Denot g.row.T.Denot = (marked g.K.Kept.marks (only u.0) z ∷ [], u.1) in n) me2 in (
      record h1 { marked = true },
      z,
      one_as c.mark_as.new.token.me (marked g.K.Kept.marks (noted p z) z) ((m, OfModule z) ∷ []) me3,
      ap (λ (u : Sat g.row.K.Denot g.row.T.Denot). (only u.0).hold) me3 ∙ ap (λ (o : Option (Hold g.row.K.Denot)). (marked_by g.K.Kept.marks (noted p z) z o).hold) has1,
      refl,
      refl,
      h.slot,
      ap (λ (u : Sat g.row.K.Denot g.row.T.Denot). get_elem? (only u.0).saw m) me3 ∙ (ap (λ (o : Option (Hold g.row.K.Denot)). get_elem? (marked_by g.K.Kept.marks (noted p z) z o).saw m) has1 ∙ (ap (λ (u : Sat g.row.K.Denot g.row.T.Denot). get_elem? (only u.0).saw m) (sym me2) ∙ saw2)),
      c.unended-open_keys.ensures,
      c.requires.seat.bound ∙ ap (λ (o : Option (Hold g.row.K.Denot)). bound_by o p.pooling) h.hold,
    )

pub give_as-requires-clause-small : goal.give_as-requires-clause-small
give_as-requires-clause-small g c = let b = c.requires.busy in let h = b.2 in let p : SeatView g.row.K.Denot g.row.T.Denot = view c.args.seat.now in let m : ℕ = c.args.slot in let z : g.row.K.Denot = c.args.value in
    let me0 : c.args.seat.now.token.me ≡ (p ∷ [], (m, Out) ∷ []) = c.requires.seat.one ∙ ap (λ (l : List (ℕ × Lot g.row.K.Denot g.row.T.Denot)). let n : Sat g.row.K.Denot g.row.T.Denot = (p ∷ [], l) in n) h.out in
    let me1 : c.put_in.new.token.me ≡ (p ∷ [], (m, OfModule z) ∷ []) = c.put_in.ensures.put ∙ ap (λ (u : Sat g.row.K.Denot g.row.T.Denot). let n : Sat g.row.K.Denot g.row.T.Denot = (u.0, (m, OfModule z) ∷ []) in n) me0 in
    let done = c.note_as.ensures.noted z (ap (λ (u : Sat g.row.K.Denot g.row.T.Denot). u.1) me1) in
    let me2 : c.note_as.new.token.me ≡ (noted p z ∷ [], (m, OfModule z) ∷ []) = done.0 ∙ ap (λ (u : Sat g.row.K.Denot g.row.T.Denot). let n : Sat g.row.K.Denot g.row.T.Denot = (noted (only u.0) z ∷ [], u.1) in n) me1 in
    let h1 : Hold g.row.K.Denot = record h.turn { noted = true } in
    let has1 : noted_in p.hold ≡ Some h1 = ap (λ (o : Option (Hold g.row.K.Denot)). noted_in o) h.hold in
    let slot_is : slot_of p.hold ≡ m = ap (λ (o : Option (Hold g.row.K.Denot)). slot_of o) h.hold ∙ h.slot in
    let saw2 : get_elem? (only c.note_as.new.token.me.0).saw m ≡ some z = ap (λ (u : Sat g.row.K.Denot g.row.T.Denot). get_elem? (only u.0).saw m) done.0 ∙ done.1 (ap (λ (u : Sat g.row.K.Denot g.row.T.Denot). slot_of (only u.0).hold) me1 ∙ slot_is) in
    let done3 = c.mark_as.ensures.marked z (ap (λ (u : Sat g.row.K.Denot g.row.T.Denot). u.1) me2) in
    let me3 : c.mark_as.new.token.me ≡ (marked g.K.Kept.marks (noted p z) z ∷ [], (m, OfModule z) ∷ []) = done3.0 ∙ ap (λ (u : Sat g.row.K.Denot g.row.T.Denot). let n : Sat g.row.K.Denot g.row.T.Denot = (marked g.K.Kept.marks (only u.0) z ∷ [], u.1) in n) me2 in (c.requires.seat.near.0, (let a = done3.1 in let b = c.unended-open_keys.ensures in omega arith))

pub returns-clause-seat : goal.returns-clause-seat
returns-clause-seat g c = let b = c.requires.busy in let h = b.2 in let p : SeatView g.row.K.Denot g.row.T.Denot = view c.args.seat.now in let m : ℕ = c.args.slot in let z : g.row.K.Denot = c.args.value in
    let me0 : c.args.seat.now.token.me ≡ (p ∷ [], (m, Out) ∷ []) = c.requires.seat.one ∙ ap (λ (l : List (ℕ × Lot g.row.K.Denot g.row.T.Denot)). let n : Sat g.row.K.Denot g.row.T.Denot = (p ∷ [], l) in n) h.out in
    let me1 : c.put_in.new.token.me ≡ (p ∷ [], (m, OfModule z) ∷ []) = c.put_in.ensures.put ∙ ap (λ (u : Sat g.row.K.Denot g.row.T.Denot). let n : Sat g.row.K.Denot g.row.T.Denot = (u.0, (m, OfModule z) ∷ []) in n) me0 in
    let done = c.note_as.ensures.noted z (ap (λ (u : Sat g.row.K.Denot g.row.T.Denot). u.1) me1) in
    let me2 : c.note_as.new.token.me ≡ (noted p z ∷ [], (m, OfModule z) ∷ []) = done.0 ∙ ap (λ (u : Sat g.row.K.Denot g.row.T.Denot). let n : Sat g.row.K.Denot g.row.T.Denot = (noted (only u.0) z ∷ [], u.1) in n) me1 in
    let h1 : Hold g.row.K.Denot = record h.turn { noted = true } in
    let has1 : noted_in p.hold ≡ Some h1 = ap (λ (o : Option (Hold g.row.K.Denot)). noted_in o) h.hold in
    let slot_is : slot_of p.hold ≡ m = ap (λ (o : Option (Hold g.row.K.Denot)). slot_of o) h.hold ∙ h.slot in
    let saw2 : get_elem? (only c.note_as.new.token.me.0).saw m ≡ some z = ap (λ (u : Sat g.row.K.Denot g.row.T.Denot). get_elem? (only u.0).saw m) done.0 ∙ done.1 (ap (λ (u : Sat g.row.K.Denot g.row.T.Denot). slot_of (only u.0).hold) me1 ∙ slot_is) in
    let done3 = c.mark_as.ensures.marked z (ap (λ (u : Sat g.row.K.Denot g.row.T.Denot). u.1) me2) in
    let me3 : c.mark_as.new.token.me ≡ (marked g.K.Kept.marks (noted p z) z ∷ [], (m, OfModule z) ∷ []) = done3.0 ∙ ap (λ (u : Sat g.row.K.Denot g.row.T.Denot). let n : Sat g.row.K.Denot g.row.T.Denot = (marked g.K.Kept.marks (only u.0) z ∷ [], u.1) in n) me2 in
    let q : SeatView g.row.K.Denot g.row.T.Denot = gave (marked_by g.K.Kept.marks (noted p z) z (Some h1)) in
    let me4 : c.give_as.new.token.me ≡ (gave (marked g.K.Kept.marks (noted p z) z) ∷ [], []) = c.give_as.ensures.gave ∙ ap (λ (u : Sat g.row.K.Denot g.row.T.Denot). let n : Sat g.row.K.Denot g.row.T.Denot = (gave (only u.0) ∷ [], []) in n) me3 in
    let me5 : c.give_as.new.token.me ≡ (q ∷ [], []) = me4 ∙ ap (λ (o : Option (Hold g.row.K.Denot)). let n : Sat g.row.K.Denot g.row.T.Denot = (gave (marked_by g.K.Kept.marks (noted p z) z o) ∷ [], []) in n) has1 in
    let new : Seat g.row.K.Denot g.row.T.Denot = record { token = c.give_as.new.token; dry = c.args.seat.now.dry; bound = 0; last = c.args.seat.now.last } in
    seat_as c.args.self.now c.args.seat.now new c.requires.seat q [] (c.give_as.ensures.board.0 ∙ (c.mark_as.ensures.board.0 ∙ (c.note_as.ensures.board.0 ∙ c.put_in.ensures.board))) me5 refl (length_set p.saw (slot_of p.hold) z) c.requires.seat.dry
    (sym (ap (λ (o : Option (PoolHold g.row.T.Denot)). bound_by {K = g.row.K.Denot} None o) h.pooling)) (omega arith) c.requires.seat.near.1 (subst (λ (o : Option (Hold g.row.K.Denot)). debts (marked_by g.K.Kept.marks (noted p z) z o) ≤ 1) has1 c.requires.thrifty)
    (set_most p.tops (slot_of p.hold) p.reach p.reach c.requires.seat.tops (omega arith))

pub returns-clause-idle : goal.returns-clause-idle
returns-clause-idle g c = let b = c.requires.busy in let h = b.2 in let p : SeatView g.row.K.Denot g.row.T.Denot = view c.args.seat.now in let m : ℕ = c.args.slot in let z : g.row.K.Denot = c.args.value in
    let me0 : c.args.seat.now.token.me ≡ (p ∷ [], (m, Out) ∷ []) = c.requires.seat.one ∙ ap (λ (l : List (ℕ × Lot g.row.K.Denot g.row.T.Denot)). let n : Sat g.row.K.Denot g.row.T.Denot = (p ∷ [], l) in n) h.out in
    let me1 : c.put_in.new.token.me ≡ (p ∷ [], (m, OfModule z) ∷ []) = c.put_in.ensures.put ∙ ap (λ (u : Sat g.row.K.Denot g.row.T.Denot). let n : Sat g.row.K.Denot g.row.T.Denot = (u.0, (m, OfModule z) ∷ []) in n) me0 in
    let done = c.note_as.ensures.noted z (ap (λ (u : Sat g.row.K.Denot g.row.T.Denot). u.1) me1) in
    let me2 : c.note_as.new.token.me ≡ (noted p z ∷ [], (m, OfModule z) ∷ []) = done.0 ∙ ap (λ (u : Sat g.row.K.Denot g.row.T.Denot). let n : Sat g.row.K.Denot g.row.T.Denot = (noted (only u.0) z ∷ [], u.1) in n) me1 in
    let h1 : Hold g.row.K.Denot = record h.turn { noted = true } in
    let has1 : noted_in p.hold ≡ Some h1 = ap (λ (o : Option (Hold g.row.K.Denot)). noted_in o) h.hold in
    let slot_is : slot_of p.hold ≡ m = ap (λ (o : Option (Hold g.row.K.Denot)). slot_of o) h.hold ∙ h.slot in
    let saw2 : get_elem? (only c.note_as.new.token.me.0).saw m ≡ some z = ap (λ (u : Sat g.row.K.Denot g.row.T.Denot). get_elem? (only u.0).saw m) done.0 ∙ done.1 (ap (λ (u : Sat g.row.K.Denot g.row.T.Denot). slot_of (only u.0).hold) me1 ∙ slot_is) in
    let done3 = c.mark_as.ensures.marked z (ap (λ (u : Sat g.row.K.Denot g.row.T.Denot). u.1) me2) in
    let me3 : c.mark_as.new.token.me ≡ (marked g.K.Kept.marks (noted p z) z ∷ [], (m, OfModule z) ∷ []) = done3.0 ∙ ap (λ (u : Sat g.row.K.Denot g.row.T.Denot). let n : Sat g.row.K.Denot g.row.T.Denot = (marked g.K.Kept.marks (only u.0) z ∷ [], u.1) in n) me2 in
    let q : SeatView g.row.K.Denot g.row.T.Denot = gave (marked_by g.K.Kept.marks (noted p z) z (Some h1)) in
    let me4 : c.give_as.new.token.me ≡ (gave (marked g.K.Kept.marks (noted p z) z) ∷ [], []) = c.give_as.ensures.gave ∙ ap (λ (u : Sat g.row.K.Denot g.row.T.Denot). let n : Sat g.row.K.Denot g.row.T.Denot = (gave (only u.0) ∷ [], []) in n) me3 in
    let me5 : c.give_as.new.token.me ≡ (q ∷ [], []) = me4 ∙ ap (λ (o : Option (Hold g.row.K.Denot)). let n : Sat g.row.K.Denot g.row.T.Denot = (gave (marked_by g.K.Kept.marks (noted p z) z o) ∷ [], []) in n) has1 in record { out = ap (λ (u : Sat g.row.K.Denot g.row.T.Denot). u.1) me5; hold = ap (λ (u : Sat g.row.K.Denot g.row.T.Denot). (only u.0).hold) me5; pooling = ap (λ (u : Sat g.row.K.Denot g.row.T.Denot). (only u.0).pooling) me5 ∙ h.pooling }

pub returns-clause-gave : goal.returns-clause-gave
returns-clause-gave g c = let b = c.requires.busy in let h = b.2 in let p : SeatView g.row.K.Denot g.row.T.Denot = view c.args.seat.now in let m : ℕ = c.args.slot in let z : g.row.K.Denot = c.args.value in
    let me0 : c.args.seat.now.token.me ≡ (p ∷ [], (m, Out) ∷ []) = c.requires.seat.one ∙ ap (λ (l : List (ℕ × Lot g.row.K.Denot g.row.T.Denot)). let n : Sat g.row.K.Denot g.row.T.Denot = (p ∷ [], l) in n) h.out in
    let me1 : c.put_in.new.token.me ≡ (p ∷ [], (m, OfModule z) ∷ []) = c.put_in.ensures.put ∙ ap (λ (u : Sat g.row.K.Denot g.row.T.Denot). let n : Sat g.row.K.Denot g.row.T.Denot = (u.0, (m, OfModule z) ∷ []) in n) me0 in
    let done = c.note_as.ensures.noted z (ap (λ (u : Sat g.row.K.Denot g.row.T.Denot). u.1) me1) in
    let me2 : c.note_as.new.token.me ≡ (noted p z ∷ [], (m, OfModule z) ∷ []) = done.0 ∙ ap (λ (u : Sat g.row.K.Denot g.row.T.Denot). let n : Sat g.row.K.Denot g.row.T.Denot = (noted (only u.0) z ∷ [], u.1) in n) me1 in
    let h1 : Hold g.row.K.Denot = record h.turn { noted = true } in
    let has1 : noted_in p.hold ≡ Some h1 = ap (λ (o : Option (Hold g.row.K.Denot)). noted_in o) h.hold in
    let slot_is : slot_of p.hold ≡ m = ap (λ (o : Option (Hold g.row.K.Denot)). slot_of o) h.hold ∙ h.slot in
    let saw2 : get_elem? (only c.note_as.new.token.me.0).saw m ≡ some z = ap (λ (u : Sat g.row.K.Denot g.row.T.Denot). get_elem? (only u.0).saw m) done.0 ∙ done.1 (ap (λ (u : Sat g.row.K.Denot g.row.T.Denot). slot_of (only u.0).hold) me1 ∙ slot_is) in
    let done3 = c.mark_as.ensures.marked z (ap (λ (u : Sat g.row.K.Denot g.row.T.Denot). u.1) me2) in
    let me3 : c.mark_as.new.token.me ≡ (marked g.K.Kept.marks (noted p z) z ∷ [], (m, OfModule z) ∷ []) = done3.0 ∙ ap (λ (u : Sat g.row.K.Denot g.row.T.Denot). let n : Sat g.row.K.Denot g.row.T.Denot = (marked g.K.Kept.marks (only u.0) z ∷ [], u.1) in n) me2 in
    let q : SeatView g.row.K.Denot g.row.T.Denot = gave (marked_by g.K.Kept.marks (noted p z) z (Some h1)) in
    let me4 : c.give_as.new.token.me ≡ (gave (marked g.K.Kept.marks (noted p z) z) ∷ [], []) = c.give_as.ensures.gave ∙ ap (λ (u : Sat g.row.K.Denot g.row.T.Denot). let n : Sat g.row.K.Denot g.row.T.Denot = (gave (only u.0) ∷ [], []) in n) me3 in
    let me5 : c.give_as.new.token.me ≡ (q ∷ [], []) = me4 ∙ ap (λ (o : Option (Hold g.row.K.Denot)). let n : Sat g.row.K.Denot g.row.T.Denot = (gave (marked_by g.K.Kept.marks (noted p z) z o) ∷ [], []) in n) has1 in ap (λ (u : Sat g.row.K.Denot g.row.T.Denot). only u.0) me4

pub returns-clause-completes : goal.returns-clause-completes
returns-clause-completes g c family full = let b = c.requires.busy in let h = b.2 in let p : SeatView g.row.K.Denot g.row.T.Denot = view c.args.seat.now in let m : ℕ = c.args.slot in let z : g.row.K.Denot = c.args.value in
    let me0 : c.args.seat.now.token.me ≡ (p ∷ [], (m, Out) ∷ []) = c.requires.seat.one ∙ ap (λ (l : List (ℕ × Lot g.row.K.Denot g.row.T.Denot)). let n : Sat g.row.K.Denot g.row.T.Denot = (p ∷ [], l) in n) h.out in
    let me1 : c.put_in.new.token.me ≡ (p ∷ [], (m, OfModule z) ∷ []) = c.put_in.ensures.put ∙ ap (λ (u : Sat g.row.K.Denot g.row.T.Denot). let n : Sat g.row.K.Denot g.row.T.Denot = (u.0, (m, OfModule z) ∷ []) in n) me0 in
    let done = c.note_as.ensures.noted z (ap (λ (u : Sat g.row.K.Denot g.row.T.Denot). u.1) me1) in
    let me2 : c.note_as.new.token.me ≡ (noted p z ∷ [], (m, OfModule z) ∷ []) = done.0 ∙ ap (λ (u : Sat g.row.K.Denot g.row.T.Denot). let n : Sat g.row.K.Denot g.row.T.Denot = (noted (only u.0) z ∷ [], u.1) in n) me1 in
    let h1 : Hold g.row.K.Denot = record h.turn { noted = true } in
    let has1 : noted_in p.hold ≡ Some h1 = ap (λ (o : Option (Hold g.row.K.Denot)). noted_in o) h.hold in
    let slot_is : slot_of p.hold ≡ m = ap (λ (o : Option (Hold g.row.K.Denot)). slot_of o) h.hold ∙ h.slot in
    let saw2 : get_elem? (only c.note_as.new.token.me.0).saw m ≡ some z = ap (λ (u : Sat g.row.K.Denot g.row.T.Denot). get_elem? (only u.0).saw m) done.0 ∙ done.1 (ap (λ (u : Sat g.row.K.Denot g.row.T.Denot). slot_of (only u.0).hold) me1 ∙ slot_is) in
    let done3 = c.mark_as.ensures.marked z (ap (λ (u : Sat g.row.K.Denot g.row.T.Denot). u.1) me2) in
    let me3 : c.mark_as.new.token.me ≡ (marked g.K.Kept.marks (noted p z) z ∷ [], (m, OfModule z) ∷ []) = done3.0 ∙ ap (λ (u : Sat g.row.K.Denot g.row.T.Denot). let n : Sat g.row.K.Denot g.row.T.Denot = (marked g.K.Kept.marks (only u.0) z ∷ [], u.1) in n) me2 in
    let q : SeatView g.row.K.Denot g.row.T.Denot = gave (marked_by g.K.Kept.marks (noted p z) z (Some h1)) in
    let me4 : c.give_as.new.token.me ≡ (gave (marked g.K.Kept.marks (noted p z) z) ∷ [], []) = c.give_as.ensures.gave ∙ ap (λ (u : Sat g.row.K.Denot g.row.T.Denot). let n : Sat g.row.K.Denot g.row.T.Denot = (gave (only u.0) ∷ [], []) in n) me3 in
    let me5 : c.give_as.new.token.me ≡ (q ∷ [], []) = me4 ∙ ap (λ (o : Option (Hold g.row.K.Denot)). let n : Sat g.row.K.Denot g.row.T.Denot = (gave (marked_by g.K.Kept.marks (noted p z) z o) ∷ [], []) in n) has1 in
    completes_before g.K.Kept.history g.K.Kept.extends g.met.K.Kept.further g.met.K.Kept.history_grows m b.0 z b.1 p q h.found b.3 b.4 h.fresh
    (ap (λ (u : Sat g.row.K.Denot g.row.T.Denot). get_elem? (only u.0).saw m) (sym me2) ∙ saw2)
    (λ d ne. set_else p.saw (slot_of p.hold) d z (λ e. ne (e ∙ slot_is)))
    (subst (λ (j : ℕ). slice_index p.tops m ≤ slice_index (set p.tops j p.reach) m) (sym slot_is) (set_more p.tops m p.reach (c.requires.seat.tops m)))
    (λ d ne. get_or-set_other p.tops (slot_of p.hold) d p.reach 0 (λ e. ne (e ∙ slot_is))) refl family (subst (Completes g.K.Kept.history g.K.Kept.extends family) (ap (λ (u : Sat g.row.K.Denot g.row.T.Denot). only u.0) me5) full)
