use Rattle.std.proofs.Common.{◌≡◌, ◌<◌, ◌++◌, length, map, drop, All}
use Rattle.sq_bind.specs.Statement.{Scope, aliases_from}
use Rattle.sq_bind.specs.Found.{IsFound}
use Rattle.sq_bind.specs.Seen.{seen}
use Rattle.sq_bind.specs.declared.visible.SeenAlias.{SeenAlias}
use Rattle.sq_bind.proofs.alias.aliases_of.Given as goal

abbrev pub invariant-loop-index : goal.invariant-loop-index
invariant-loop-index l = record {
  some : All (λ (a : SeenAlias). 0 < length (seen a).columns) l.aliases.items;
  so_far : (scope : Scope) → scope.tables ≡ l.tables → IsFound scope l.sources l.found
      → (map seen l.aliases.items ++ aliases_from scope l.index (drop l.index l.sources)) ≡ aliases_from scope 0 l.sources;
}
