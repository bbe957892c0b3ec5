-- The demo's statements bind to its tables, and so the demo has a plan.
use Rattle.std.proofs.Common.{◌≡◌, ℕ, zero, suc, ◌<◌, ◌%◌, true, false, List, [], ◌∷◌, ◌++◌, length, map, Some, None, Ok, Err, refl, ap, ◌∙◌, slice_get, arith}
use Rattle.std.specs.Prelude.{⊤}
use Rattle.std.specs.List.{flat_map}
use Rattle.sq_value.specs.declared.value.Cmp.{Cmp}
use Rattle.sq_parse.specs.Shaped.{is_shaped}
use Rattle.sq_parse.specs.declared.tree.Operand.{Operand}
use Rattle.sq_parse.specs.declared.tree.Source.{Source}
use Rattle.sq_parse.specs.declared.tree.Statement.{Statement}
use Rattle.sq_parse.specs.declared.tree.Tree.{Tree}
use Rattle.sq_parse.specs.declared.tree.Tree.TheVariants as tree
use Rattle.sq_expr.specs.Reach.{IsReachable}
use Rattle.sq_expr.specs.declared.cond.Cond.TheVariants as cond
use Rattle.sq_expr.specs.declared.block.AliasUse.{AliasUse}
use Rattle.sq_expr.specs.declared.block.Block.{Block}
use Rattle.sq_bind.specs.Condition.{Calls, Split, tree_faults, conjuncts_in, conjunct_faults}
use Rattle.sq_bind.specs.Given.{over}
use Rattle.sq_bind.specs.Operand.{operand_faults, operand_class, side_of}
use Rattle.sq_bind.specs.Statement.{Scope, from_faults, rest_faults, faults_among, placed_in, parts_of, selected_faults, item_faults, grouped_faults, key_faults, order_on, cells_of, item_cells, grouping_of, matches_of, plain_block, block_of, aliases_in, sorting_of, use_of}
use Rattle.sq_bind.specs.Visible.{Alias, meant, named_from}
use Rattle.sq_bind.proofs.ConditionLemmas.{tree_faults-All, tree_faults-Compare}
use Rattle.sq_bind.proofs.SplitLemmas.{placed_at, split_of-All, split_of-Compare, all_conjuncts}
use Rattle.demo_tables.specs.Demo.{demo}
use Rattle.run_base.specs.declared.bound.Bound.{Bound}
use Rattle.run_plan.specs.Accesses.{accesses_to, accesses_read, first_lacking}
use Rattle.run_plan.specs.Headings.{opened_as}
use Rattle.run_plan.specs.Prepared.{Predicates, HasDemoPlan, IsBoundTo, AreBoundTo, IsBoundPlan, IsDemoPlan, plan_opened}
use Rattle.run_plan.specs.declared.plan.Plan.{Plan}
use Rattle.run_plan.specs.declared.status.Status.{Status}
use Rattle.run_plan.proofs.DemoReading.{spelled_demo}
use Rattle.run_plan.proofs.DemoTree.{first, second, third, demo_tree, first_condition, second_condition, third_condition}
use Rattle.run_plan.proofs.OnePlan.{one_demo}

-- ---- a block whose aliases are all scanned can be reached

-- each of some aliases is scanned
abbrev AreScanned : List AliasUse → Type 0
AreScanned uses = (i : ℕ) → i < length uses → (u : AliasUse) × (slice_get uses i ≡ Some u) × (u.access.scan ≡ true)

reached : (block : Block) → 0 < length block.aliases → AreScanned block.aliases → IsReachable block
reached block some scanned =
    let f = scanned 0 some in record {
      first = 0;
      u = f.0;
      at = f.1;
      scanned = f.2;
      each = λ set' closed alias less. let s = scanned alias less in closed.scanned alias s.0 s.1 s.2;
    }

-- ---- the faults of a statement whose one condition is a conjunction

module _ (calls : Calls) (aliases : List Alias) where
  -- the conjuncts of a conjunction, and of a comparison
  of_all : (parts : List Tree) → conjuncts_in calls aliases (tree.All parts) ≡ flat_map (conjuncts_in calls aliases) parts
  of_all parts = ap (λ (s : Split). s.conjuncts) (split_of-All calls aliases parts) ∙ all_conjuncts calls aliases parts

  of_one : (at : ℕ) (x : Operand) (how : Cmp) (y : Operand) → conjuncts_in calls aliases (tree.Compare at x how y)
      ≡ (placed_at at (cond.Compare (side_of aliases x) how (side_of aliases y)) ∷ [])
  of_one at x how y = ap (λ (s : Split). s.conjuncts) (split_of-Compare calls aliases at x how y)

  -- a conjunction without a fault, of few conjuncts
  record IsFaultless (parts : List Tree) : Type 0 where
    right : tree_faults calls aliases (tree.All parts) ≡ []
    few : conjunct_faults (conjuncts_in calls aliases (tree.All parts) ++ []) ≡ []

  rest : (s : Statement) (parts : List Tree) → parts_of aliases s ≡ record { aliases = aliases; tree = tree.All parts } ∷ []
      → IsFaultless parts → selected_faults aliases s.items ≡ [] → s.groups ≡ [] → grouped_faults aliases s ≡ []
      → flat_map (key_faults aliases (sorting_of aliases s)) s.order ≡ [] → faults_among calls aliases s ≡ []
  unfolding faults_among placed_in
  rest s parts is faultless items groups grouped keys =
      rw (items, is, faultless.right, faultless.few, grouped, keys, groups) refl

-- ---- the demo's statements over its tables

module _ (p : Predicates) (rows shift : ℕ) where
  abbrev scope : Scope
  scope = over (demo rows shift) (accesses_to (demo rows shift).tables [] []) p.calls

  abbrev seen : Statement → List Alias
  seen s = aliases_in scope s

  -- the aliases of sources whose tables are scanned
  abbrev AreAll : List Source → Type 0
  AreAll [] = ⊤
  AreAll (s ∷ more) = ((use_of scope s).access.scan ≡ true) × AreAll more

  all_scanned : (ss : List Source) → AreAll ss → AreScanned (map (use_of scope) ss)
  all_scanned [] all i less = absurd (omega (arith, less))
  all_scanned (s ∷ more) all zero less = (use_of scope s, refl, all.0)
  all_scanned (s ∷ more) all (suc i) less = all_scanned more all.1 i (omega (arith, less))

  -- a statement without a fault, whose aliases are scanned, is bound to its block
  abbrev bound_of : Statement → Bound
  bound_of s = record { block = block_of scope s; shape = None }

  bound_to : (number : ℕ) (s : Statement) → is_shaped s ≡ false → from_faults scope s.sources ≡ [] → rest_faults scope s ≡ []
      → 0 < length (map (use_of scope) s.sources) → AreAll s.sources → IsBoundTo scope number s (Ok (bound_of s))
  unfolding matches_of plain_block
  bound_to number s plain from others some all =
      (plain, record { from = from; rest = others; is = refl; reachable = reached (block_of scope s) some (all_scanned s.sources all) })

  first_right : IsFaultless p.calls (seen first) first_condition
  unfolding operand_faults operand_class meant named_from
  first_right = record {
    right = rw (tree_faults-All p.calls (seen first) first_condition, tree_faults-Compare p.calls (seen first), tree_faults-Compare p.calls (seen first))
        refl;
    few = rw (of_all p.calls (seen first) first_condition, of_one p.calls (seen first), of_one p.calls (seen first)) refl;
  }

  first_bound : IsBoundTo scope 1 first (Ok (bound_of first))
  unfolding from_faults parts_of selected_faults item_faults grouped_faults key_faults order_on cells_of item_cells grouping_of meant named_from
  first_bound = bound_to 1 first refl refl
      (rest p.calls (seen first) first first_condition refl first_right refl refl refl refl) (omega arith) (refl, (refl, tt))

  second_right : IsFaultless p.calls (seen second) second_condition
  unfolding operand_faults operand_class meant named_from
  second_right = record {
    right = rw (tree_faults-All p.calls (seen second) second_condition, tree_faults-Compare p.calls (seen second), tree_faults-Compare p.calls (seen second), tree_faults-Compare p.calls (seen second))
        refl;
    few = rw (of_all p.calls (seen second) second_condition, of_one p.calls (seen second), of_one p.calls (seen second), of_one p.calls (seen second)) refl;
  }

  second_bound : IsBoundTo scope 2 second (Ok (bound_of second))
  unfolding from_faults parts_of selected_faults item_faults grouped_faults key_faults order_on cells_of item_cells grouping_of meant named_from
  second_bound = bound_to 2 second refl refl
      (rest p.calls (seen second) second second_condition refl second_right refl refl refl refl) (omega arith) (refl, (refl, (refl, tt)))

  third_right : IsFaultless p.calls (seen third) third_condition
  unfolding operand_faults operand_class meant named_from
  third_right = record {
    right = rw (tree_faults-All p.calls (seen third) third_condition, tree_faults-Compare p.calls (seen third), tree_faults-Compare p.calls (seen third))
        refl;
    few = rw (of_all p.calls (seen third) third_condition, of_one p.calls (seen third), of_one p.calls (seen third)) refl;
  }

  third_bound : IsBoundTo scope 3 third (Ok (bound_of third))
  unfolding from_faults parts_of selected_faults item_faults grouped_faults key_faults order_on cells_of item_cells grouping_of meant named_from
  third_bound = bound_to 3 third refl refl
      (rest p.calls (seen third) third third_condition refl third_right refl refl refl refl) (omega arith) (refl, (refl, tt))

  abbrev demo_plan : Plan
  demo_plan = plan_opened (opened_as (demo rows shift) []) (bound_of first ∷ bound_of second ∷ bound_of third ∷ [])

  all_bound : AreBoundTo scope 1 demo_tree.statements (Ok demo_plan.statements)
  unfolding AreBoundTo
  all_bound = (
    Ok (bound_of first),
    first_bound,
    (
      Ok (bound_of second ∷ bound_of third ∷ []),
      (Ok (bound_of second), second_bound, (Ok (bound_of third ∷ []), (Ok (bound_of third), third_bound, (Ok [], refl, refl)), refl)),
      refl,
    ),
  )

  planned_over : IsBoundPlan p [] demo_tree (opened_as (demo rows shift) []) (Ok demo_plan)
  unfolding accesses_read first_lacking
  planned_over = (Ok (accesses_to (demo rows shift).tables [] []), refl, (Ok demo_plan.statements, all_bound, refl))

pub planned_demo : (p : Predicates) (rows seed : ℕ) → HasDemoPlan p rows seed
unfolding IsDemoPlan
planned_demo p rows seed = (demo_plan p rows (seed % 1000), (Ok demo_tree, spelled_demo, planned_over p rows (seed % 1000)))

apart : {plan : Plan} {s : Status} → Ok plan ≡ Err s → ⊥
apart e = cc

-- so it has no refusal
pub unrefused_demo : (p : Predicates) (rows seed : ℕ) (s : Status) → IsDemoPlan p rows seed (Err s) → ⊥
unrefused_demo p rows seed s h = let plan = planned_demo p rows seed in apart (one_demo p rows seed (Ok plan.0) (Err s) plan.1 h)
