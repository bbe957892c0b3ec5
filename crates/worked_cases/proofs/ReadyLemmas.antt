-- Blocks and combinations of the tests are ones that can be put in order and written.
use Rattle.std.proofs.Common.{◌≡◌, ℕ, ◌<◌, List, length, get_or, Option, arith, ap, AllPairs}
use Rattle.std.proofs.lemmas.List.{get_or-take}
use Rattle.sq_value.specs.Relation.{Relation}
use Rattle.sq_value.specs.declared.predicate.Kinds.{Kinds}
use Rattle.sq_expr.specs.Fits.{IsFit}
use Rattle.sq_expr.specs.declared.block.Block.{Block}
use Rattle.bag_meaning.specs.declared.combo.Combo.{Combo}
use Rattle.result_sink.specs.Ready.{Differs, rows_of_combo}
use Rattle.worked_cases.specs.Ready.{IsReady, Fall}

pub fit_ready : (kinds : ℕ → Option Kinds) (tables : List Relation) (block : Block) → IsFit kinds tables block → IsReady tables block
fit_ready kinds tables block fit =
    record {
      some = fit.some_alias;
      shown = record { few = fit.few_aliases; output = fit.output };
      ordered = record { few = fit.few_aliases; order = fit.order };
    }

pub some_apart : (block : Block) (combos : List Combo) → 0 < length block.aliases → Fall combos → AllPairs (Differs block) combos
some_apart block combos some fall i j d low within same =
    let first : (c : Combo) → get_or (rows_of_combo block c) 0 0 ≡ get_or c.rows 0 0 =
    λ c. get_or-take (length block.aliases) c.rows 0 0 some in
    omega
    (arith, fall i j d low within, first (get_or combos i d), first (get_or combos j d), ap (λ (rows : List ℕ). get_or rows 0 0) same)
