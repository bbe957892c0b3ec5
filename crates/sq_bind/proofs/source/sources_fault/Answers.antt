use Rattle.std.proofs.Common.{◌≡◌, ◌+◌, List, [], ◌∷◌, ◌++◌, take, drop, Option, sym, ap, refl, subst, ◌∙◌}
use Rattle.std.proofs.lemmas.List.{take_more}
use Rattle.sq_parse.specs.declared.tree.Source.{Source}
use Rattle.sq_bind.specs.Fault.{sooner, first_of}
use Rattle.sq_bind.specs.Repeated.{HoldsNames}
use Rattle.sq_bind.specs.Statement.{sources_faults, source_faults}
use Rattle.sq_bind.specs.declared.fault.BindFault.{BindFault}
use Rattle.sq_bind.proofs.SourceLemmas.{next_source, found_at}
use Rattle.sq_bind.proofs.source.sources_fault.Goals as goal

pub loop-index-preserved : goal.loop-index-preserved
loop-index-preserved c =
    let sources = c.args.sources.now in
    let i = c.loop-index.index in
    let x = c.index-sources-index.result in
    let is = c.index-sources-index.is in
    let within = c.loop-index-test.true in
    let front = take i sources in
    let held = c.loop-index.invariant.names in
    let put = c.in_ok-repeated.ensures.put front x refl held in
    let longer : front ++ x ∷ [] ≡ take (i + 1) sources = ap (λ (s : Source). front ++ s ∷ []) is ∙ sym (take_more sources i x within) in
    record {
      names = subst (λ (ss : List Source). HoldsNames c.put_alias.new.names ss) longer put;
      so_far = λ scope found. (
          let table = found_at scope sources c.args.tables.now i x _ found within ∙ ap (λ (s : Source). scope.table s.table.text) (sym is) in
          let here = c.source_fault.ensures scope front table (c.in_ok-repeated.ensures.told front held)
          ∙ ap (λ (s : Source). first_of (source_faults scope front s)) is in
          ap (λ (f : Option BindFault). sooner f (first_of (sources_faults scope (take (i + 1) sources) (drop (i + 1) sources))))
          (c.sooner-fault.ensures ∙ ap (sooner c.loop-index.fault) here)
          ∙ next_source scope sources i x _ _ within (c.loop-index.invariant.so_far scope found)
          );
    }
