use Rattle.std.proofs.Common.{◌∙◌, arith}
use Rattle.std.proofs.lemmas.Option.{slice_get_within}
use Rattle.case_kit.proofs.WayLemmas.{next_fits}
use Rattle.case_kit.proofs.ways.are_ways_of.Goals as goal

pub loop-table-preserved : goal.loop-table-preserved
loop-table-preserved c =
    next_fits c.args.tables.now c.args.accesses.now c.loop-table.table _ (c.fits.ensures c.if-not-fits.false) c.loop-table.invariant

pub returns : goal.returns
returns c e = record {
  one_each = c.if-accesses-len.false ∙ c.len.ensures;
  fits = λ place one at.
      let within = slice_get_within c.args.accesses.now place one at in
      let past = c.loop-table-test.false in
      c.loop-table.invariant place one (omega arith) at;
}
