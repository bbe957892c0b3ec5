use Rattle.std.proofs.Common.{◌≡◌, length, rules, sym, arith}
use Rattle.run_answers.proofs.CountLemmas.{counts_nothing}
use Rattle.run_answers.proofs.PutLemmas.{put_equal, put_nothing, put_through}
use Rattle.run_answers.proofs.TogetherLemmas.{records_every, records_next, records_stopped}
use Rattle.run_answers.proofs.together.put_records.Goals as goal

pub loop-index-init : goal.loop-index-init
loop-index-init g c = λ gives items bags. put_equal _ _ _ _ _ (sym (counts_nothing gives 1)) (put_nothing _)

pub loop-index-preserved : goal.loop-index-preserved
loop-index-preserved g c = λ gives items bags.
    let rows : c.len.result ≡ length c.index-found-index.result.combos.items = search rules in
    records_next (λ f. f.combos.items) gives items c.args.found.now c.loop-index.index c.len.result c.index-found-index.result _ _ _ c.put_record.result bags
    c.loop-index-test.true c.index-found-index.is rows (c.loop-index.invariant gives items bags) c.put_record.ensures c.in_ok-put_record.was

pub returns-in_err-put_record : goal.returns-in_err-put_record
returns-in_err-put_record g c = λ gives items bags.
    let rows : c.len.result ≡ length c.index-found-index.result.combos.items = search rules in
    put_through _ _ _ c.from_residual.result c.in_err-put_record.field-0.0 c.from_residual.ensures.1
    (records_stopped (λ f. f.combos.items) gives items c.args.found.now c.loop-index.index c.len.result c.index-found-index.result _ _ _ c.put_record.result
    c.in_err-put_record.field-0.0 bags c.loop-index-test.true c.index-found-index.is rows (c.loop-index.invariant gives items bags) c.put_record.ensures
    c.in_err-put_record.was)

pub returns : goal.returns
returns g c = λ gives items bags.
    let past = c.loop-index-test.false in
    records_every (λ f. f.combos.items) gives items c.args.found.now c.loop-index.index _ _ bags (omega (arith, past)) (c.loop-index.invariant gives items bags)
