use Rattle.std.proofs.Common.{◌≡◌, ◌⊎◌, ◌<◌, List, Option, Some, None, map, length, ap, sym, subst, ◌∙◌, arith, ℕ}
use Rattle.std.specs.Prelude.{All, IsSomeAnd}
use Rattle.std.proofs.lemmas.List.{length-map}
use Rattle.std.proofs.lemmas.List.Elements.{All-map}
use Rattle.sq_parse.specs.declared.tree.Source.{Source}
use Rattle.catalogue.specs.Named.{place_of_table}
use Rattle.sq_bind.specs.Condition.{calling}
use Rattle.sq_bind.specs.Fault.{first_of}
use Rattle.sq_bind.specs.Found.{matches_with}
use Rattle.sq_bind.specs.Given.{over}
use Rattle.sq_bind.specs.Seen.{seen}
use Rattle.sq_bind.specs.Visible.{Alias}
use Rattle.sq_bind.specs.Statement.{from_faults, aliases_from, aliases_in, placed_in, shape_in, faults_among}
use Rattle.sq_bind.specs.declared.visible.SeenAlias.{SeenAlias}
use Rattle.sq_bind.specs.declared.fault.BindFault.TheVariants.{Memory}
use Rattle.sq_bind.proofs.AnswerLemmas as by
use Rattle.sq_bind.proofs.FirstLemmas.{none_first}
use Rattle.sq_bind.proofs.RestFits.{length-aliases}
use Rattle.sq_bind.proofs.ParsedLemmas.{parsed_sound}
use Rattle.sq_bind.proofs.binding.answer.Goals as goal

pub returns-in-Some-clause-answer : goal.returns-in-Some-clause-answer
returns-in-Some-clause-answer g c =
    let calls = calling (g.F.Predicates.number_of c.args.functions.now) (g.F.Predicates.kinds_of c.args.functions.now) in
    let scope = over c.args.catalogue.now c.args.accesses.now calls in
    let s = c.args.statement.now in
    let sources = c.as_slice-sources.ensures in
    let tables = λ (ss : List Source). map (λ (x : Source). place_of_table c.args.catalogue.now x.table.text) ss in
    let items : c.in_ok-found.found.items ≡ tables s.sources = c.in_ok-found.ensures.found ∙ ap tables sources in
    let first = c.in_ok-fault.ensures scope (c.as_slice.ensures.value ∙ c.in_ok-found.ensures.found) in
    let told = ap (λ (ss : List Source). first_of (from_faults scope ss)) (sym sources) ∙ sym first in
    by.from_answer scope s c.in-Some.first (told ∙ c.in-Some.is)

pub aliases_of-requires-clause-few : goal.aliases_of-requires-clause-few
aliases_of-requires-clause-few g c =
    let calls = calling (g.F.Predicates.number_of c.args.functions.now) (g.F.Predicates.kinds_of c.args.functions.now) in
    let scope = over c.args.catalogue.now c.args.accesses.now calls in
    let s = c.args.statement.now in
    let sources = c.as_slice-sources.ensures in
    let tables = λ (ss : List Source). map (λ (x : Source). place_of_table c.args.catalogue.now x.table.text) ss in
    let items : c.in_ok-found.found.items ≡ tables s.sources = c.in_ok-found.ensures.found ∙ ap tables sources in
    let first = c.in_ok-fault.ensures scope (c.as_slice.ensures.value ∙ c.in_ok-found.ensures.found) in
    let told = ap (λ (ss : List Source). first_of (from_faults scope ss)) (sym sources) ∙ sym first in
    let from = none_first (from_faults scope s.sources) (told ∙ c.in_default.is) in
    let few = by.few_sources scope s from in
    let same = ap length sources in
    omega (arith, few, same)

pub aliases_of-requires-clause-there : goal.aliases_of-requires-clause-there
aliases_of-requires-clause-there g c =
    let calls = calling (g.F.Predicates.number_of c.args.functions.now) (g.F.Predicates.kinds_of c.args.functions.now) in
    let scope = over c.args.catalogue.now c.args.accesses.now calls in
    let s = c.args.statement.now in
    let sources = c.as_slice-sources.ensures in
    let tables = λ (ss : List Source). map (λ (x : Source). place_of_table c.args.catalogue.now x.table.text) ss in
    let items : c.in_ok-found.found.items ≡ tables s.sources = c.in_ok-found.ensures.found ∙ ap tables sources in
    let first = c.in_ok-fault.ensures scope (c.as_slice.ensures.value ∙ c.in_ok-found.ensures.found) in
    let told = ap (λ (ss : List Source). first_of (from_faults scope ss)) (sym sources) ∙ sym first in
    let from = none_first (from_faults scope s.sources) (told ∙ c.in_default.is) in
    let there = by.found_there scope s (λ (table : ℕ). table < length c.args.catalogue.now.tables) c.in_ok-found.found.items items from c.in_ok-found.ensures.within in
    let P = λ (n : ℕ) (found : List (Option ℕ)). All (λ one. IsSomeAnd one (λ table. table < n)) found in
    subst (λ (found : List (Option ℕ)). P (length c.tables.result.now) found) (sym c.as_slice-2.ensures.value)
    (subst (λ (n : ℕ). P n c.in_ok-found.found.items) (ap length (sym c.tables.ensures)) there)

pub shaped_or_fault-requires : goal.shaped_or_fault-requires
shaped_or_fault-requires g c =
    let calls = calling (g.F.Predicates.number_of c.args.functions.now) (g.F.Predicates.kinds_of c.args.functions.now) in
    let scope = over c.args.catalogue.now c.args.accesses.now calls in
    let s = c.args.statement.now in
    let sources = c.as_slice-sources.ensures in
    let tables = λ (ss : List Source). map (λ (x : Source). place_of_table c.args.catalogue.now x.table.text) ss in
    let items : c.in_ok-found.found.items ≡ tables s.sources = c.in_ok-found.ensures.found ∙ ap tables sources in
    let first = c.in_ok-fault.ensures scope (c.as_slice.ensures.value ∙ c.in_ok-found.ensures.found) in
    let told = ap (λ (ss : List Source). first_of (from_faults scope ss)) (sym sources) ∙ sym first in
    let kept : map seen c.in_ok-aliases.aliases.items ≡ aliases_in scope s =
    c.in_ok-aliases.ensures.aliases scope (sym c.tables.ensures) (c.as_slice-2.ensures.value ∙ c.in_ok-found.ensures.found)
    ∙ ap (aliases_from scope 0) sources in
    let seen' : map seen c.as_slice-4.result.now ≡ aliases_in scope s = ap (λ (xs : List SeenAlias). map seen xs) c.as_slice-4.ensures.value ∙ kept in
    let long = sym (length-map c.as_slice-4.result.now seen) ∙ ap length seen' ∙ length-aliases scope 0 s.sources in
    omega (arith, long)

pub returns-in_err-shaped-clause-answer : goal.returns-in_err-shaped-clause-answer
returns-in_err-shaped-clause-answer g c =
    let calls = calling (g.F.Predicates.number_of c.args.functions.now) (g.F.Predicates.kinds_of c.args.functions.now) in
    let scope = over c.args.catalogue.now c.args.accesses.now calls in
    let s = c.args.statement.now in
    let sources = c.as_slice-sources.ensures in
    let tables = λ (ss : List Source). map (λ (x : Source). place_of_table c.args.catalogue.now x.table.text) ss in
    let items : c.in_ok-found.found.items ≡ tables s.sources = c.in_ok-found.ensures.found ∙ ap tables sources in
    let first = c.in_ok-fault.ensures scope (c.as_slice.ensures.value ∙ c.in_ok-found.ensures.found) in
    let told = ap (λ (ss : List Source). first_of (from_faults scope ss)) (sym sources) ∙ sym first in
    let from = none_first (from_faults scope s.sources) (told ∙ c.in_default.is) in
    let kept : map seen c.in_ok-aliases.aliases.items ≡ aliases_in scope s =
    c.in_ok-aliases.ensures.aliases scope (sym c.tables.ensures) (c.as_slice-2.ensures.value ∙ c.in_ok-found.ensures.found)
    ∙ ap (aliases_from scope 0) sources in
    let seen' : map seen c.as_slice-4.result.now ≡ aliases_in scope s = ap (λ (xs : List SeenAlias). map seen xs) c.as_slice-4.ensures.value ∙ kept in
    let f = c.in_err-shaped.field-0.0 in
    let what = subst (λ (these : List Alias). (f ≡ Memory) ⊎ (first_of (faults_among calls these s) ≡ Some f)) seen' c.in_err-shaped.ensures.fault in
    by.handed_on scope s c.from_residual-in_err-shaped.result f c.from_residual-in_err-shaped.ensures.1 (by.rest_answer scope s from f what)

pub reached_shape-requires : goal.reached_shape-requires
reached_shape-requires g c =
    let calls = calling (g.F.Predicates.number_of c.args.functions.now) (g.F.Predicates.kinds_of c.args.functions.now) in
    let scope = over c.args.catalogue.now c.args.accesses.now calls in
    let s = c.args.statement.now in
    let sources = c.as_slice-sources.ensures in
    let tables = λ (ss : List Source). map (λ (x : Source). place_of_table c.args.catalogue.now x.table.text) ss in
    let items : c.in_ok-found.found.items ≡ tables s.sources = c.in_ok-found.ensures.found ∙ ap tables sources in
    let first = c.in_ok-fault.ensures scope (c.as_slice.ensures.value ∙ c.in_ok-found.ensures.found) in
    let told = ap (λ (ss : List Source). first_of (from_faults scope ss)) (sym sources) ∙ sym first in
    let from = none_first (from_faults scope s.sources) (told ∙ c.in_default.is) in
    let kept : map seen c.in_ok-aliases.aliases.items ≡ aliases_in scope s =
    c.in_ok-aliases.ensures.aliases scope (sym c.tables.ensures) (c.as_slice-2.ensures.value ∙ c.in_ok-found.ensures.found)
    ∙ ap (aliases_from scope 0) sources in
    let seen' : map seen c.as_slice-4.result.now ≡ aliases_in scope s = ap (λ (xs : List SeenAlias). map seen xs) c.as_slice-4.ensures.value ∙ kept in
    let found = c.as_slice-3.ensures.value ∙ items in
    let whole = λ (these : List Alias). matches_with c.args.accesses.now c.as_slice-3.result.now these (placed_in calls these s) in
    let block : c.in_ok-shaped.shaped.block ≡ whole (map seen c.as_slice-4.result.now) = c.in_ok-shaped.ensures.block in
    let is = block ∙ ap whole seen' ∙ by.matches_are scope s c.as_slice-3.result.now found in
    let shape : c.in_ok-shaped.shaped.shape ≡ shape_in (aliases_in scope s) s =
    c.in_ok-shaped.ensures.shape ∙ ap (λ (these : List Alias). shape_in these s) seen' in
    let made = by.made_is scope s c.in_ok-shaped.shaped is shape in
    let rest : first_of (faults_among calls (map seen c.as_slice-4.result.now) s) ≡ None = c.in_ok-shaped.ensures.faultless in
    let faultless = ap (λ (these : List Alias). first_of (faults_among calls these s)) (sym seen') ∙ rest in
    by.few_uses scope s from c.in_ok-shaped.shaped is

pub returns-clause-answer : goal.returns-clause-answer
returns-clause-answer g c =
    let calls = calling (g.F.Predicates.number_of c.args.functions.now) (g.F.Predicates.kinds_of c.args.functions.now) in
    let scope = over c.args.catalogue.now c.args.accesses.now calls in
    let s = c.args.statement.now in
    let sources = c.as_slice-sources.ensures in
    let tables = λ (ss : List Source). map (λ (x : Source). place_of_table c.args.catalogue.now x.table.text) ss in
    let items : c.in_ok-found.found.items ≡ tables s.sources = c.in_ok-found.ensures.found ∙ ap tables sources in
    let first = c.in_ok-fault.ensures scope (c.as_slice.ensures.value ∙ c.in_ok-found.ensures.found) in
    let told = ap (λ (ss : List Source). first_of (from_faults scope ss)) (sym sources) ∙ sym first in
    let from = none_first (from_faults scope s.sources) (told ∙ c.in_default.is) in
    let kept : map seen c.in_ok-aliases.aliases.items ≡ aliases_in scope s =
    c.in_ok-aliases.ensures.aliases scope (sym c.tables.ensures) (c.as_slice-2.ensures.value ∙ c.in_ok-found.ensures.found)
    ∙ ap (aliases_from scope 0) sources in
    let seen' : map seen c.as_slice-4.result.now ≡ aliases_in scope s = ap (λ (xs : List SeenAlias). map seen xs) c.as_slice-4.ensures.value ∙ kept in
    let found = c.as_slice-3.ensures.value ∙ items in
    let whole = λ (these : List Alias). matches_with c.args.accesses.now c.as_slice-3.result.now these (placed_in calls these s) in
    let block : c.in_ok-shaped.shaped.block ≡ whole (map seen c.as_slice-4.result.now) = c.in_ok-shaped.ensures.block in
    let is = block ∙ ap whole seen' ∙ by.matches_are scope s c.as_slice-3.result.now found in
    let shape : c.in_ok-shaped.shaped.shape ≡ shape_in (aliases_in scope s) s =
    c.in_ok-shaped.ensures.shape ∙ ap (λ (these : List Alias). shape_in these s) seen' in
    let made = by.made_is scope s c.in_ok-shaped.shaped is shape in
    let rest : first_of (faults_among calls (map seen c.as_slice-4.result.now) s) ≡ None = c.in_ok-shaped.ensures.faultless in
    let faultless = ap (λ (these : List Alias). first_of (faults_among calls these s)) (sym seen') ∙ rest in
    by.reach_answer scope s from faultless (parsed_sound s c.requires.parsed).some_source c.in_ok-shaped.shaped made c.reached_shape.result
    c.reached_shape.ensures.same c.reached_shape.ensures.reached c.reached_shape.ensures.fault

pub returns-clause-plain_fits : goal.returns-clause-plain_fits
returns-clause-plain_fits g c =
    let calls = calling (g.F.Predicates.number_of c.args.functions.now) (g.F.Predicates.kinds_of c.args.functions.now) in
    let scope = over c.args.catalogue.now c.args.accesses.now calls in
    let s = c.args.statement.now in
    let sources = c.as_slice-sources.ensures in
    let tables = λ (ss : List Source). map (λ (x : Source). place_of_table c.args.catalogue.now x.table.text) ss in
    let items : c.in_ok-found.found.items ≡ tables s.sources = c.in_ok-found.ensures.found ∙ ap tables sources in
    let first = c.in_ok-fault.ensures scope (c.as_slice.ensures.value ∙ c.in_ok-found.ensures.found) in
    let told = ap (λ (ss : List Source). first_of (from_faults scope ss)) (sym sources) ∙ sym first in
    let from = none_first (from_faults scope s.sources) (told ∙ c.in_default.is) in
    let kept : map seen c.in_ok-aliases.aliases.items ≡ aliases_in scope s =
    c.in_ok-aliases.ensures.aliases scope (sym c.tables.ensures) (c.as_slice-2.ensures.value ∙ c.in_ok-found.ensures.found)
    ∙ ap (aliases_from scope 0) sources in
    let seen' : map seen c.as_slice-4.result.now ≡ aliases_in scope s = ap (λ (xs : List SeenAlias). map seen xs) c.as_slice-4.ensures.value ∙ kept in
    let found = c.as_slice-3.ensures.value ∙ items in
    let whole = λ (these : List Alias). matches_with c.args.accesses.now c.as_slice-3.result.now these (placed_in calls these s) in
    let block : c.in_ok-shaped.shaped.block ≡ whole (map seen c.as_slice-4.result.now) = c.in_ok-shaped.ensures.block in
    let is = block ∙ ap whole seen' ∙ by.matches_are scope s c.as_slice-3.result.now found in
    let shape : c.in_ok-shaped.shaped.shape ≡ shape_in (aliases_in scope s) s =
    c.in_ok-shaped.ensures.shape ∙ ap (λ (these : List Alias). shape_in these s) seen' in
    let made = by.made_is scope s c.in_ok-shaped.shaped is shape in
    let rest : first_of (faults_among calls (map seen c.as_slice-4.result.now) s) ≡ None = c.in_ok-shaped.ensures.faultless in
    let faultless = ap (λ (these : List Alias). first_of (faults_among calls these s)) (sym seen') ∙ rest in
    let some = subst (All (λ (a : Alias). 0 < length a.columns)) kept
    (All-map (λ (a : Alias). 0 < length a.columns) seen c.in_ok-aliases.aliases.items c.in_ok-aliases.ensures.some) in
    let fits = by.fit_made scope s (parsed_sound s c.requires.parsed) c.requires.reached c.in_ok-found.found.items items c.in_ok-found.ensures.within some from faultless
    c.in_ok-shaped.shaped made in
    by.fit_plain scope s c.in_ok-shaped.shaped fits c.reached_shape.result c.reached_shape.ensures.same

pub returns-clause-fits : goal.returns-clause-fits
returns-clause-fits g c =
    let calls = calling (g.F.Predicates.number_of c.args.functions.now) (g.F.Predicates.kinds_of c.args.functions.now) in
    let scope = over c.args.catalogue.now c.args.accesses.now calls in
    let s = c.args.statement.now in
    let sources = c.as_slice-sources.ensures in
    let tables = λ (ss : List Source). map (λ (x : Source). place_of_table c.args.catalogue.now x.table.text) ss in
    let items : c.in_ok-found.found.items ≡ tables s.sources = c.in_ok-found.ensures.found ∙ ap tables sources in
    let first = c.in_ok-fault.ensures scope (c.as_slice.ensures.value ∙ c.in_ok-found.ensures.found) in
    let told = ap (λ (ss : List Source). first_of (from_faults scope ss)) (sym sources) ∙ sym first in
    let from = none_first (from_faults scope s.sources) (told ∙ c.in_default.is) in
    let kept : map seen c.in_ok-aliases.aliases.items ≡ aliases_in scope s =
    c.in_ok-aliases.ensures.aliases scope (sym c.tables.ensures) (c.as_slice-2.ensures.value ∙ c.in_ok-found.ensures.found)
    ∙ ap (aliases_from scope 0) sources in
    let seen' : map seen c.as_slice-4.result.now ≡ aliases_in scope s = ap (λ (xs : List SeenAlias). map seen xs) c.as_slice-4.ensures.value ∙ kept in
    let found = c.as_slice-3.ensures.value ∙ items in
    let whole = λ (these : List Alias). matches_with c.args.accesses.now c.as_slice-3.result.now these (placed_in calls these s) in
    let block : c.in_ok-shaped.shaped.block ≡ whole (map seen c.as_slice-4.result.now) = c.in_ok-shaped.ensures.block in
    let is = block ∙ ap whole seen' ∙ by.matches_are scope s c.as_slice-3.result.now found in
    let shape : c.in_ok-shaped.shaped.shape ≡ shape_in (aliases_in scope s) s =
    c.in_ok-shaped.ensures.shape ∙ ap (λ (these : List Alias). shape_in these s) seen' in
    let made = by.made_is scope s c.in_ok-shaped.shaped is shape in
    let rest : first_of (faults_among calls (map seen c.as_slice-4.result.now) s) ≡ None = c.in_ok-shaped.ensures.faultless in
    let faultless = ap (λ (these : List Alias). first_of (faults_among calls these s)) (sym seen') ∙ rest in
    let some = subst (All (λ (a : Alias). 0 < length a.columns)) kept
    (All-map (λ (a : Alias). 0 < length a.columns) seen c.in_ok-aliases.aliases.items c.in_ok-aliases.ensures.some) in
    let fits = by.fit_made scope s (parsed_sound s c.requires.parsed) c.requires.reached c.in_ok-found.found.items items c.in_ok-found.ensures.within some from faultless
    c.in_ok-shaped.shaped made in
    by.fit_block scope s c.in_ok-shaped.shaped fits c.reached_shape.result c.reached_shape.ensures.same

pub returns-clause-shape_fits : goal.returns-clause-shape_fits
returns-clause-shape_fits g c =
    let calls = calling (g.F.Predicates.number_of c.args.functions.now) (g.F.Predicates.kinds_of c.args.functions.now) in
    let scope = over c.args.catalogue.now c.args.accesses.now calls in
    let s = c.args.statement.now in
    let sources = c.as_slice-sources.ensures in
    let tables = λ (ss : List Source). map (λ (x : Source). place_of_table c.args.catalogue.now x.table.text) ss in
    let items : c.in_ok-found.found.items ≡ tables s.sources = c.in_ok-found.ensures.found ∙ ap tables sources in
    let first = c.in_ok-fault.ensures scope (c.as_slice.ensures.value ∙ c.in_ok-found.ensures.found) in
    let told = ap (λ (ss : List Source). first_of (from_faults scope ss)) (sym sources) ∙ sym first in
    let from = none_first (from_faults scope s.sources) (told ∙ c.in_default.is) in
    let kept : map seen c.in_ok-aliases.aliases.items ≡ aliases_in scope s =
    c.in_ok-aliases.ensures.aliases scope (sym c.tables.ensures) (c.as_slice-2.ensures.value ∙ c.in_ok-found.ensures.found)
    ∙ ap (aliases_from scope 0) sources in
    let seen' : map seen c.as_slice-4.result.now ≡ aliases_in scope s = ap (λ (xs : List SeenAlias). map seen xs) c.as_slice-4.ensures.value ∙ kept in
    let found = c.as_slice-3.ensures.value ∙ items in
    let whole = λ (these : List Alias). matches_with c.args.accesses.now c.as_slice-3.result.now these (placed_in calls these s) in
    let block : c.in_ok-shaped.shaped.block ≡ whole (map seen c.as_slice-4.result.now) = c.in_ok-shaped.ensures.block in
    let is = block ∙ ap whole seen' ∙ by.matches_are scope s c.as_slice-3.result.now found in
    let shape : c.in_ok-shaped.shaped.shape ≡ shape_in (aliases_in scope s) s =
    c.in_ok-shaped.ensures.shape ∙ ap (λ (these : List Alias). shape_in these s) seen' in
    let made = by.made_is scope s c.in_ok-shaped.shaped is shape in
    let rest : first_of (faults_among calls (map seen c.as_slice-4.result.now) s) ≡ None = c.in_ok-shaped.ensures.faultless in
    let faultless = ap (λ (these : List Alias). first_of (faults_among calls these s)) (sym seen') ∙ rest in
    let some = subst (All (λ (a : Alias). 0 < length a.columns)) kept
    (All-map (λ (a : Alias). 0 < length a.columns) seen c.in_ok-aliases.aliases.items c.in_ok-aliases.ensures.some) in
    let fits = by.fit_made scope s (parsed_sound s c.requires.parsed) c.requires.reached c.in_ok-found.found.items items c.in_ok-found.ensures.within some from faultless
    c.in_ok-shaped.shaped made in
    by.fit_shape scope s c.in_ok-shaped.shaped fits c.reached_shape.result c.reached_shape.ensures.same
