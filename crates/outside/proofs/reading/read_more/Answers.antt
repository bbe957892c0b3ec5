use Rattle.std.proofs.Common.{◌≡◌, ◌+◌, take, length, drop, refl, sym, ap, ◌∙◌, subst, rules, arith}
use Rattle.std.specs.Io.KnownBytes.{Consumes}
use Rattle.std.proofs.lemmas.List.{with_items_is, places, drop-take}
use Rattle.outside.proofs.reading.read_more.Goals as goal

pub returns-clause-taken : goal.returns-clause-taken
returns-clause-taken g c =
    let start = c.len-start.result in
    let count = c.in-Some.count in
    let all = c.read_once.new.all in
    let items = c.truncate.ensures.items ∙ ap (take (start + count)) (with_items_is c.resize.new.self all (search (rules, places))) in
    let from : length c.args.bytes.now.items ≡ start = search (rules, places) in
    let appended = ap (drop (length c.args.bytes.now.items)) items
    ∙ ap (λ n. drop n (take (start + count) all)) from ∙ drop-take start count all in
    subst (Consumes _ _) (sym appended) c.in-Some.ensures.taken

-- no more is read than there is room for, which is `most` at the most
pub returns-clause-within : goal.returns-clause-within
returns-clause-within g c =
    let read = c.in-Some.ensures.within in
    omega (arith, read, c.as_mut_slice.ensures.len, c.in_ok-resize.ensures.len, c.min-room.ensures)

-- a failed call: an Err says nothing of bytes, and the fault was counted
pub returns-in_default-clause-within : goal.returns-in_default-clause-within
returns-in_default-clause-within g c = tt

pub returns-in_default-clause-longer : goal.returns-in_default-clause-longer
returns-in_default-clause-longer g c = tt

pub returns-in_default-clause-behind : goal.returns-in_default-clause-behind
returns-in_default-clause-behind g c = tt

pub returns-in_default-clause-taken : goal.returns-in_default-clause-taken
returns-in_default-clause-taken g c = tt

pub returns-in_default-clause-at_end : goal.returns-in_default-clause-at_end
returns-in_default-clause-at_end g c = tt

pub returns-in_default-clause-failed : goal.returns-in_default-clause-failed
returns-in_default-clause-failed g c = λ _. c.in_default.ensures.counts

pub returns-in_default-clause-kept : goal.returns-in_default-clause-kept
returns-in_default-clause-kept g c = λ other. absurd (other refl)
