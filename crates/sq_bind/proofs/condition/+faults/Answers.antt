use Rattle.std.proofs.Common.{List, [], ◌∷◌, map, sym, ap, ◌∙◌}
use Rattle.std.specs.List.{flat_map}
use Rattle.sq_parse.specs.declared.tree.Tree.{Tree}
use Rattle.sq_bind.specs.Fault.{first_of}
use Rattle.sq_parse.specs.declared.tree.Operand.{Operand}
use Rattle.sq_bind.specs.Operand.{compared_faults}
use Rattle.sq_bind.specs.Condition.{calling, tree_faults, faults_of_call}
use Rattle.sq_bind.specs.Seen.{seen}
use Rattle.sq_bind.proofs.ConditionLemmas as by
use Rattle.sq_bind.proofs.condition.+faults.Goals as goal

pub tree_fault-returns-in-Compare : goal.tree_fault-returns-in-Compare
tree_fault-returns-in-Compare g t c =
    let calls = calling (g.F.Predicates.number_of c.args.functions.now) (g.F.Predicates.kinds_of c.args.functions.now) in
    let aliases = map seen c.args.aliases.now in
    let of = λ (tree : Tree). first_of (tree_faults calls aliases tree) in
    c.compare_fault.ensures ∙ sym (ap of c.in-Compare.is ∙ ap first_of (by.tree_faults-Compare calls aliases _ _ _ _))

pub tree_fault-returns-in-Between : goal.tree_fault-returns-in-Between
tree_fault-returns-in-Between g t c =
    let calls = calling (g.F.Predicates.number_of c.args.functions.now) (g.F.Predicates.kinds_of c.args.functions.now) in
    let aliases = map seen c.args.aliases.now in
    let of = λ (tree : Tree). first_of (tree_faults calls aliases tree) in
    c.between_fault.ensures ∙ ap (λ (high : Operand). first_of (compared_faults aliases c.in-Between.at (c.in-Between.subject ∷ c.in-Between.low ∷ high ∷ []))) c.get.ensures
    ∙ sym (ap of c.in-Between.is ∙ ap first_of (by.tree_faults-Between calls aliases _ _ _ _ _))

pub tree_fault-returns-in-Within : goal.tree_fault-returns-in-Within
tree_fault-returns-in-Within g t c =
    let calls = calling (g.F.Predicates.number_of c.args.functions.now) (g.F.Predicates.kinds_of c.args.functions.now) in
    let aliases = map seen c.args.aliases.now in
    let of = λ (tree : Tree). first_of (tree_faults calls aliases tree) in
    c.within_fault.ensures ∙ ap (λ (items : List Operand). first_of (compared_faults aliases c.in-Within.at (c.in-Within.subject ∷ items))) c.as_slice.ensures
    ∙ sym (ap of c.in-Within.is ∙ ap first_of (by.tree_faults-Within calls aliases _ _ _ _))

pub tree_fault-returns-in-IsNull : goal.tree_fault-returns-in-IsNull
tree_fault-returns-in-IsNull g t c =
    let calls = calling (g.F.Predicates.number_of c.args.functions.now) (g.F.Predicates.kinds_of c.args.functions.now) in
    let aliases = map seen c.args.aliases.now in
    let of = λ (tree : Tree). first_of (tree_faults calls aliases tree) in
    c.operand_fault.ensures ∙ sym (ap of c.in-IsNull.is ∙ ap first_of (by.tree_faults-IsNull calls aliases _ _ _))

pub tree_fault-returns-in-Call : goal.tree_fault-returns-in-Call
tree_fault-returns-in-Call g t c =
    let calls = calling (g.F.Predicates.number_of c.args.functions.now) (g.F.Predicates.kinds_of c.args.functions.now) in
    let aliases = map seen c.args.aliases.now in
    let of = λ (tree : Tree). first_of (tree_faults calls aliases tree) in
    c.call_fault.ensures ∙ ap (λ (args : List Operand). first_of (faults_of_call calls aliases c.in-Call.function args)) c.as_slice-in-Call.ensures
    ∙ sym (ap of c.in-Call.is ∙ ap first_of (by.tree_faults-Call calls aliases _ _))

pub tree_fault-returns-in-Not : goal.tree_fault-returns-in-Not
tree_fault-returns-in-Not g t c =
    let calls = calling (g.F.Predicates.number_of c.args.functions.now) (g.F.Predicates.kinds_of c.args.functions.now) in
    let aliases = map seen c.args.aliases.now in
    let of = λ (tree : Tree). first_of (tree_faults calls aliases tree) in
    c.tree_fault.ensures ∙ ap of c.get-in-Not.ensures ∙ sym (ap of c.in-Not.is ∙ ap first_of (by.tree_faults-Not calls aliases _))

pub tree_fault-returns-in-All : goal.tree_fault-returns-in-All
tree_fault-returns-in-All g t c =
    let calls = calling (g.F.Predicates.number_of c.args.functions.now) (g.F.Predicates.kinds_of c.args.functions.now) in
    let aliases = map seen c.args.aliases.now in
    let of = λ (tree : Tree). first_of (tree_faults calls aliases tree) in
    c.parts_fault.ensures ∙ ap (λ (parts : List Tree). first_of (flat_map (tree_faults calls aliases) parts)) c.as_slice-in-All.ensures
    ∙ sym (ap of c.in-All.is ∙ ap first_of (by.tree_faults-All calls aliases _))

pub tree_fault-returns-in-Any : goal.tree_fault-returns-in-Any
tree_fault-returns-in-Any g t c =
    let calls = calling (g.F.Predicates.number_of c.args.functions.now) (g.F.Predicates.kinds_of c.args.functions.now) in
    let aliases = map seen c.args.aliases.now in
    let of = λ (tree : Tree). first_of (tree_faults calls aliases tree) in
    c.parts_fault-in-Any.ensures ∙ ap (λ (parts : List Tree). first_of (flat_map (tree_faults calls aliases) parts)) c.as_slice-in-Any.ensures
    ∙ sym (ap of c.in-Any.is ∙ ap first_of (by.tree_faults-Any calls aliases _))

pub tree_fault-returns-in-Is : goal.tree_fault-returns-in-Is
tree_fault-returns-in-Is g t c =
    let calls = calling (g.F.Predicates.number_of c.args.functions.now) (g.F.Predicates.kinds_of c.args.functions.now) in
    let aliases = map seen c.args.aliases.now in
    let of = λ (tree : Tree). first_of (tree_faults calls aliases tree) in
    c.tree_fault-in-Is.ensures ∙ ap of c.get-in-Is.ensures ∙ sym (ap of c.in-Is.is ∙ ap first_of (by.tree_faults-Is calls aliases _ _ _))
