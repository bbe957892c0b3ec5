use Rattle.std.proofs.Common.{◌≡◌, ◌+◌, ◌<◌, ◌∙◌, List, length, refl, sym, ap, arith}
use Rattle.sq_value.specs.Relation.{rows_of}
use Rattle.sq_value.specs.declared.table.Column.{Column}
use Rattle.sq_value.proofs.FlatLemmas.{length-rows_of, IsJoined-flat}
use Rattle.sq_value.proofs.table.Table.append.Goals as goal

pub overflow_add-self : goal.overflow_add-self
overflow_add-self c =
    let few : length c.args.self.now.rows + length c.args.other.now.rows < 4294967296 = c.requires.room in
    let many = rw (← c.self.view_is, ← c.other.view_is) at few in
    omega (
      arith,
      many,
      length-rows_of (length c.self.inside.columns.items) c.self.inside.rows c.self.inside.values.items,
      length-rows_of (length c.other.inside.columns.items) c.other.inside.rows c.other.inside.values.items,
    )

pub invariant_of-self-2 : goal.invariant_of-self-2
invariant_of-self-2 c =
    let columns : c.args.other.now.columns ≡ c.args.self.now.columns = c.requires.columns in
    let same = rw (← c.self.view_is, ← c.other.view_is) at columns in
    let p = IsJoined-flat c.self.inside c.other.inside _ c.self.invariant c.other.invariant same c.in_ok-append.ensures.items in
    record { heading = c.self.invariant.heading; full = p.full; each = p.each }

pub invariant_of-other-2 : goal.invariant_of-other-2
unfolding rows_of
invariant_of-other-2 c =
    record {
      heading = c.other.invariant.heading;
      full = ap length c.in_ok-append.ensures.other_items ∙ omega arith;
      each = λ k d h. absurd (omega arith);
    }

pub returns-clause-ok : goal.returns-clause-ok
returns-clause-ok c =
    let columns : c.args.other.now.columns ≡ c.args.self.now.columns = c.requires.columns in
    let same = rw (← c.self.view_is, ← c.other.view_is) at columns in
    let p = IsJoined-flat c.self.inside c.other.inside _ c.self.invariant c.other.invariant same c.in_ok-append.ensures.items in
    let row = ap (λ (cs : List Column). rows_of (length cs) c.other.inside.rows c.other.inside.values.items) (sym same) in
    rw (← c.self.view_is, ← c.other.view_is, p.rows, row) refl

pub returns-clause-moved : goal.returns-clause-moved
unfolding rows_of
returns-clause-moved c = rw (← c.other.view_is) refl
