use Rattle.std.proofs.Common.{◌<◌, length, refl, arith}
use Rattle.sq_value.specs.Relation.{IsRow}
use Rattle.sq_value.proofs.FlatLemmas.{length-rows_of, IsPushed, IsPushed-append}
use Rattle.sq_value.proofs.table.Table.append_row.Goals as goal

pub overflow_add-self : goal.overflow_add-self
overflow_add-self c =
    let few : length c.args.self.now.rows < 4294967295 = c.requires.room in
    let many = rw (← c.self.view_is) at few in
    omega (arith, many, length-rows_of (length c.self.inside.columns.items) c.self.inside.rows c.self.inside.values.items)

pushed : (c : goal.After-self-1) → IsPushed c.self.inside.columns.items c.self.inside.rows c.self.inside.values.items c.args.row.now.items c.append.new.self.items
pushed c =
    let fits : IsRow c.args.self.now.columns c.args.row.now.items = c.requires.fits in
    IsPushed-append _ _ _ _ _ c.in_ok-append.ensures.items c.self.invariant.full c.self.invariant.each (rw (← c.self.view_is) at fits)

pub invariant_of-self-2 : goal.invariant_of-self-2
invariant_of-self-2 c =
    let p = pushed c in
    record { heading = c.self.invariant.heading; full = p.full; each = p.each }

pub returns-clause-ok : goal.returns-clause-ok
returns-clause-ok c = rw (← c.self.view_is, (pushed c).rows) refl
