-- Serves proofs: the tables that were found for the sources of FROM.
use Rattle.std.specs.Prelude.{◌≡◌, ℕ, List, [], ◌∷◌, map, Option, unwrap_or}
use Rattle.sq_parse.specs.declared.tree.Source.{Source}
use Rattle.sq_expr.specs.declared.block.Access.{Access}
use Rattle.sq_expr.specs.declared.block.AliasUse.{AliasUse}
use Rattle.sq_expr.specs.declared.block.Block.{Block}
use Rattle.sq_bind.specs.declared.conjunct.Placed.{Placed}
use Rattle.sq_bind.specs.Visible.{Alias}
use Rattle.sq_bind.specs.Statement.{Scope, used, placed_conjunct, first_output}

-- each source's table, where there is one
abbrev pub IsFound : Scope → List Source → List (Option ℕ) → Type 0
IsFound scope sources tables = tables ≡ map (λ (s : Source). scope.table s.table.text) sources

-- an alias whose table was found there
abbrev pub used_at : List Access → Option ℕ → AliasUse
used_at accesses table = used accesses (unwrap_or table 0)

-- the matches of aliases with these tables and conjuncts
abbrev pub matches_with : List Access → List (Option ℕ) → List Alias → List Placed → Block
matches_with accesses found aliases placed = record {
  aliases = map (used_at accesses) found;
  conjuncts = map placed_conjunct placed;
  output = first_output aliases ∷ [];
  order = [];
}
