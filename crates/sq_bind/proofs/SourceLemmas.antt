-- The faults of FROM, one source after another.
use Rattle.std.proofs.Common.{◌≡◌, ℕ, ◌+◌, ◌<◌, List, [], ◌∷◌, ◌++◌, length, take, drop, get_or, Option, ap, sym, ◌∙◌}
use Rattle.std.specs.Prelude.{slice_get}
use Rattle.std.proofs.lemmas.List.{drop_more, take_more, get_or-map}
use Rattle.sq_parse.specs.declared.tree.Source.{Source}
use Rattle.sq_bind.specs.Fault.{sooner, first_of}
use Rattle.sq_bind.specs.Statement.{Scope, from_faults, sources_faults, source_faults, thirteenth_faults}
use Rattle.sq_bind.specs.Found.{IsFound}
use Rattle.sq_bind.specs.declared.fault.BindFault.{BindFault}
use Rattle.sq_bind.proofs.FaultLemmas.{first_of-append, sooner_assoc}

-- the next source
pub next_source : (scope : Scope) (sources : List Source) (i : ℕ) (d : Source) (sofar whole : Option BindFault) → i < length sources
    → sooner sofar (first_of (sources_faults scope (take i sources) (drop i sources))) ≡ whole
    → sooner (sooner sofar (first_of (source_faults scope (take i sources) (get_or sources i d))))
    (first_of (sources_faults scope (take (i + 1) sources) (drop (i + 1) sources))) ≡ whole
next_source scope sources i d sofar whole within before =
    let x = get_or sources i d in
    let here = first_of (source_faults scope (take i sources) x) in
    let rest = λ (front : List Source). first_of (sources_faults scope front (drop (i + 1) sources)) in
    sooner_assoc sofar here (rest (take (i + 1) sources))
    ∙ ap (sooner sofar)
    (ap (λ (front : List Source). sooner here (rest front)) (take_more sources i d within)
    ∙ sym (first_of-append (source_faults scope (take i sources) x) (sources_faults scope (take i sources ++ (x ∷ [])) (drop (i + 1) sources)))
    ∙ ap (λ (left : List Source). first_of (sources_faults scope (take i sources) left)) (sym (drop_more sources i d within)))
    ∙ before

pub from_first : (scope : Scope) (sources : List Source)
    → first_of (from_faults scope sources) ≡ sooner (first_of (sources_faults scope [] sources)) (first_of (thirteenth_faults (slice_get sources 12)))
unfolding from_faults
from_first scope sources = first_of-append (sources_faults scope [] sources) (thirteenth_faults (slice_get sources 12))

-- the table of a source
pub found_at : (scope : Scope) (sources : List Source) (tables : List (Option ℕ)) (i : ℕ) (d : Source) (e : Option ℕ)
    → IsFound scope sources tables → i < length sources → get_or tables i e ≡ scope.table (get_or sources i d).table.text
found_at scope sources tables i d e found within =
    ap (λ (ts : List (Option ℕ)). get_or ts i e) found ∙ get_or-map (λ (s : Source). scope.table s.table.text) sources i d e within
