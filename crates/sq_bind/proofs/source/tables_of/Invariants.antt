use Rattle.std.proofs.Common.{◌≡◌, ◌<◌, length, map, take, IfSome, All}
use Rattle.catalogue.specs.Named.{place_of_table}
use Rattle.sq_parse.specs.declared.tree.Source.{Source}
use Rattle.sq_bind.proofs.source.tables_of.Given as goal

abbrev pub invariant-loop-source : goal.invariant-loop-source
invariant-loop-source l = record {
  found : l.tables.items ≡ map (λ (s : Source). place_of_table l.catalogue s.table.text) (take l.source-index l.sources);
  within : All (λ one. IfSome one (λ table. table < length l.catalogue.tables)) l.tables.items;
}
