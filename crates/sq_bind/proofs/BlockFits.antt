-- The block of a statement without a fault fits.
use Rattle.std.proofs.Common.{◌≡◌, ℕ, ◌<◌, ◌≤◌, List, [], ◌∷◌, ◌++◌, length, map, Option, Some, None, Result, Ok, Err, refl, ap, sym, subst, arith}
use Rattle.std.specs.Prelude.{All, slice_get, slice_index_or, unwrap_or, IfSome, IsSome, ⊤}
use Rattle.std.specs.List.{flat_map, AllByRecursion as Each}
use Rattle.std.proofs.lemmas.List.{length-map}
use Rattle.std.proofs.lemmas.List.Elements.{All-from_recursion}
use Rattle.sq_value.specs.declared.table.Column.{Column}
use Rattle.sq_parse.specs.declared.tree.Name.{Name}
use Rattle.sq_parse.specs.declared.tree.ColRef.{ColRef}
use Rattle.sq_parse.specs.declared.tree.Items.{Items}
use Rattle.sq_parse.specs.declared.tree.Items.TheVariants as items
use Rattle.sq_parse.specs.declared.tree.Item.{Item}
use Rattle.sq_parse.specs.declared.tree.Item.TheVariants as item
use Rattle.sq_parse.specs.declared.tree.Source.{Source}
use Rattle.sq_parse.specs.declared.tree.OrderItem.{OrderItem}
use Rattle.sq_parse.specs.declared.tree.Statement.{Statement}
use Rattle.sq_expr.specs.Fits.{kind_in, FitsAlias, FitsConjunct, tables_used, IsFit}
use Rattle.sq_expr.specs.declared.cond.ColumnOf.{ColumnOf}
use Rattle.sq_expr.specs.declared.block.AliasUse.{AliasUse}
use Rattle.sq_expr.specs.declared.block.OutCol.{OutCol}
use Rattle.sq_expr.specs.declared.block.OrderKey.{OrderKey}
use Rattle.sq_expr.specs.declared.block.Block.{Block}
use Rattle.sq_expr.specs.declared.shape.AggKind.{AggKind}
use Rattle.sq_expr.specs.declared.shape.AggKind.TheVariants as agg
use Rattle.sq_expr.specs.declared.shape.Cell.{Cell}
use Rattle.sq_expr.specs.declared.shape.ShapeOrder.{ShapeOrder}
use Rattle.sq_bind.specs.Visible.{Alias, called, meant}
use Rattle.sq_bind.specs.Operand.{column_faults}
use Rattle.sq_bind.specs.Condition.{extra_faults, conjunct_faults}
use Rattle.sq_bind.specs.Statement.{Scope, from_faults, source_faults, sources_faults, table_faults, alias_faults, thirteenth_faults, table_number, columns_at, aliases_from, aliases_in, cells_from, columns_of, named_column, called_columns, called_faults, first_column, agg_of, agg_cells, summed_faults, agg_faults, item_cells, item_faults, cells_of, selected_faults, group_faults, grouped_faults, Sorting, sorting_of, parts_of, part_faults, placed_in, key_faults, faults_among, rest_faults, placed_conjunct, scanned, used, use_of, key_of, shape_in, first_output, matches_of, output_column, plain_key, plain_block, block_of}
use Rattle.sq_bind.specs.Given.{AreAccesses}
use Rattle.sq_bind.specs.Sound.{IsSound, IsSoundList}
use Rattle.sq_bind.specs.declared.conjunct.Placed.{Placed}
use Rattle.sq_bind.specs.declared.visible.Resolved.{Resolved}
use Rattle.sq_bind.specs.declared.fault.BindFault.{BindFault}
use Rattle.sq_parse.specs.Tree.{column_place}
use Rattle.sq_bind.proofs.HeldLemmas.{ColumnsHave, AliasHas, called_held}
use Rattle.sq_bind.proofs.OperandFits.{both_empty}
use Rattle.sq_bind.proofs.RestFits.{each_map, each_also, each_both, map_map, none_past, get_at, some_is, length-aliases, HasKindIn, aliases_have, CellThere, cells_there, OnThere, key_there, OutThere, KeyThere, output_there, plain_there, Fit, placed_fit, conjunct_fits}

-- ---- the first round

module _ (scope : Scope) where
  -- each source has a table
  found_each : (before sources : List Source) → sources_faults scope before sources ≡ [] → Each (λ (s : Source). IsSome (scope.table s.table.text)) sources
  found_each before [] e = tt
  found_each before (s ∷ more) e =
      let both = both_empty (source_faults scope before s) (sources_faults scope (before ++ s ∷ []) more) e in
      let own = both_empty (table_faults s.table.at (scope.table s.table.text)) (alias_faults before s.alias) both.0 in
      (is_found (scope.table s.table.text) own.0, found_each (before ++ s ∷ []) more both.1)
    where
      is_found : (o : Option ℕ) → table_faults s.table.at o ≡ [] → IsSome o
      is_found None e = absurd cc
      is_found (Some n) e = refl

  few_sources : (sources : List Source) → thirteenth_faults (slice_get sources 12) ≡ [] → length sources ≤ 12
  few_sources sources e = none_past sources 12 (by (slice_get sources 12) e)
    where
      by : (o : Option Source) → thirteenth_faults o ≡ [] → o ≡ None
      by None e = refl
      by (Some s) e = absurd cc

  pub record FirstRound (sources : List Source) : Type 0 where
    pub few : length sources ≤ 12
    pub found : Each (λ (s : Source). IsSome (scope.table s.table.text)) sources

  pub first_round : (sources : List Source) → from_faults scope sources ≡ [] → FirstRound sources
  unfolding from_faults
  first_round sources e =
      let both = both_empty (sources_faults scope [] sources) (thirteenth_faults (slice_get sources 12)) e in
      record { few = few_sources sources both.1; found = found_each [] sources both.0 }

  -- each alias fits
  use_fits : AreAccesses scope.tables scope.accesses → (s : Source) → IsSome (scope.table s.table.text)
      → IfSome (scope.table s.table.text) (λ (table : ℕ). table < length scope.tables) → FitsAlias scope.tables (use_of scope s)
  use_fits accesses s found within = by (scope.table s.table.text) refl found within
    where
      by : (o : Option ℕ) → scope.table s.table.text ≡ o → IsSome o → IfSome o (λ (table : ℕ). table < length scope.tables) → FitsAlias scope.tables (use_of scope s)
      by None is found within = absurd cc
      by (Some n) is found within =
          let low : n < length scope.accesses = (let same = accesses.one_each in omega (arith, within, same)) in
          subst (λ (o : Option ℕ). FitsAlias scope.tables (used scope.accesses (unwrap_or o 0))) (sym is)
          (accesses.fits n (slice_index_or scope.accesses n scanned) (get_at scope.accesses n scanned low))

-- ---- the cells

some_columns : (alias first : ℕ) (cs : List Column) → 0 < length cs → 0 < length (cells_from alias first cs)
unfolding cells_from
some_columns alias first [] h = h
some_columns alias first (c ∷ cs) h = omega arith

length_columns : (a : Alias) → 0 < length a.columns → 0 < length (columns_of a)
length_columns a h = some_columns a.number 0 a.columns h

some_front : {X : Type 0} (xs ys : List X) → 0 < length xs → 0 < length (xs ++ ys)
some_front [] ys h = absurd (omega (arith, h))
some_front (x ∷ xs) ys h = omega arith

agg_some : (aliases : List Alias) (kind : AggKind) (name : Option Name) (c : Option ColRef) → agg_faults aliases kind c ≡ []
    → 0 < length (agg_cells aliases kind name c)
agg_some aliases kind name None e = omega arith
agg_some aliases kind name (Some c) e = by kind (meant aliases c) e
  where
    by : (kind : AggKind) (r : Result Resolved BindFault) → summed_faults kind (column_place c) r ≡ [] → 0 < length (agg_of kind name r)
    by kind (Ok m) e = omega arith
    by agg.CountAll (Err f) e = absurd cc
    by agg.Count (Err f) e = absurd cc
    by agg.Sum (Err f) e = absurd cc
    by agg.Min (Err f) e = absurd cc
    by agg.Max (Err f) e = absurd cc

item_some : (aliases : List Alias) → Each (λ (a : Alias). 0 < length a.columns) aliases → (i : Item) → item_faults aliases i ≡ [] → 0 < length (item_cells aliases i)
unfolding item_faults item_cells
item_some aliases some (item.AllOf name) e = by (called name.text aliases) refl e
  where
    by : (o : Option Alias) → called name.text aliases ≡ o → called_faults name.at o ≡ [] → 0 < length (called_columns o)
    by None is e = absurd cc
    by (Some a) is e = length_columns a (called_held (λ c k. ⊤) (λ (a : Alias). 0 < length a.columns) name.text aliases a some is)
item_some aliases some (item.Col c name) e = by name (meant aliases c) e
  where
    by : (n : Option Name) (r : Result Resolved BindFault) → column_faults r ≡ [] → 0 < length (named_column aliases n r)
    by n (Ok m) e = omega arith
    by n (Err f) e = absurd cc
item_some aliases some (item.Agg at kind c name) e = agg_some aliases kind name c e

pub cells_some : (aliases : List Alias) → Each (λ (a : Alias). 0 < length a.columns) aliases → 0 < length aliases → (i : Items) → IsSoundList i
    → selected_faults aliases i ≡ [] → 0 < length (cells_of aliases i)
unfolding cells_of selected_faults
cells_some [] some any items.Star sound e = absurd (omega (arith, any))
cells_some (a ∷ aliases) some any items.Star sound e = some_front (columns_of a) (flat_map columns_of aliases) (length_columns a some.0)
cells_some aliases some any (items.List []) sound e = absurd (omega (arith, sound))
cells_some aliases some any (items.List (i ∷ list)) sound e =
    let both = both_empty (item_faults aliases i) (flat_map (item_faults aliases) list) e in
    some_front (item_cells aliases i) (flat_map (item_cells aliases) list) (item_some aliases some i both.0)

-- ---- the block

few_placed : (placed : List Placed) → conjunct_faults placed ≡ [] → length placed ≤ 48
few_placed placed e = none_past placed 48 (by (slice_get placed 48) e)
  where
    by : (o : Option Placed) → extra_faults o ≡ [] → o ≡ None
    by None e = refl
    by (Some p) e = absurd cc

module _ (scope : Scope) (s : Statement) where
  abbrev pub uses : List ℕ
  uses = map (table_number scope) s.sources

  abbrev pub aliases : List Alias
  aliases = aliases_in scope s

  abbrev pub cells : List Cell
  cells = cells_of aliases s.items

  abbrev pub Holds : Type 0
  Holds = Each (AliasHas (HasKindIn scope uses)) aliases

  abbrev pub IsThere' : ColumnOf → Type 0
  IsThere' c = IsSome (kind_in scope.tables uses c)

  -- the aliases have their columns
  pub held : from_faults scope s.sources ≡ [] → Holds
  held from =
      let few = (first_round scope s.sources from).few in
      aliases_have scope uses 0 s.sources (omega (arith, few)) (λ k. ap (slice_get uses) (omega arith))

  -- the first alias has a first column
  first_there : (sources : List Source) → 0 < length sources → Each (AliasHas (HasKindIn scope uses)) (aliases_from scope 0 sources)
      → Each (λ (a : Alias). 0 < length a.columns) (aliases_from scope 0 sources) → IsThere' first_column
  first_there [] any h some = absurd (omega (arith, any))
  first_there (x ∷ more) any h some = by (columns_at scope.tables (table_number scope x)) h.0 some.0
    where
      by : (cs : List Column) → ColumnsHave (HasKindIn scope uses) 0 0 cs → 0 < length cs → IsThere' first_column
      by [] hs some = absurd (omega (arith, some))
      by (c ∷ cs) hs some = some_is (kind_in scope.tables uses first_column) c.kind hs.0.1

  pub order_there : (h : Holds) (order : List OrderItem) (by : Sorting) → flat_map (key_faults aliases by) order ≡ []
      → Each (λ (k : ShapeOrder). OnThere scope uses aliases h by.cells k.on) (map (key_of aliases by.cells) order)
  order_there h [] by e = tt
  order_there h (key ∷ order) by e =
      let both = both_empty (key_faults aliases by key) (flat_map (key_faults aliases by) order) e in
      (key_there scope uses aliases h by key both.0, order_there h order by both.1)

  -- what a statement without a fault has
  pub record Faultless (h : Holds) : Type 0 where
    pub first : IsThere' first_column
    pub conditions : flat_map (part_faults scope.calls) (parts_of aliases s) ≡ []
    pub few : length (placed_in scope.calls aliases s) ≤ 48
    pub some : 0 < length cells
    pub shown : Each (CellThere scope uses aliases h) cells
    pub order : Each (λ (k : ShapeOrder). OnThere scope uses aliases h cells k.on) (map (key_of aliases cells) s.order)
    pub grouped : grouped_faults aliases s ≡ []

  pub faultless : IsSound s → Each (λ (a : Alias). 0 < length a.columns) aliases → (h : Holds) → rest_faults scope s ≡ [] → Faultless h
  unfolding faults_among
  faultless sound some h rest =
      let selected = both_empty (selected_faults aliases s.items) _ rest in
      let conditions = both_empty (flat_map (part_faults scope.calls) (parts_of aliases s)) _ selected.1 in
      let counted = both_empty (conjunct_faults (placed_in scope.calls aliases s)) _ conditions.1 in
      let groups = both_empty (flat_map (group_faults aliases) s.groups) _ counted.1 in
      let grouped = both_empty (grouped_faults aliases s) _ groups.1 in
      let any : 0 < length aliases = (let l = length-aliases scope 0 s.sources in let n = sound.some_source in omega (arith, l, n)) in
      let first = first_there s.sources sound.some_source h some in
      record {
        first = first;
        conditions = conditions.0;
        few = few_placed (placed_in scope.calls aliases s) counted.0;
        some = cells_some aliases some any s.items sound.items selected.0;
        shown = cells_there scope uses aliases h first s.items selected.0;
        order = order_there h s.order (sorting_of aliases s) grouped.1;
        grouped = grouped.0;
      }

  -- the block with some output columns and keys
  abbrev pub block_by : List OutCol → List OrderKey → Block
  block_by output order = record {
    aliases = map (use_of scope) s.sources;
    conjuncts = map placed_conjunct (placed_in scope.calls aliases s);
    output = output;
    order = order;
  }

  pub tables-used : (output : List OutCol) (order : List OrderKey) → tables_used (block_by output order) ≡ uses
  tables-used output order = map_map (use_of scope) (λ (u : AliasUse). u.table) s.sources

  fits_with : IsSound s → AreAccesses scope.tables scope.accesses
      → Each (λ (source : Source). IfSome (scope.table source.table.text) (λ (table : ℕ). table < length scope.tables)) s.sources
      → from_faults scope s.sources ≡ [] → (h : Holds) → Faultless h
      → (output : List OutCol) (order : List OrderKey) → 0 < length output → Each (OutThere scope uses aliases h) output → Each (KeyThere scope uses aliases h) order
      → IsFit scope.calls.kinds scope.tables (block_by output order)
  fits_with sound accesses within from h fine output order some outs keys =
      let first = first_round scope s.sources from in
      let few = first.few in
      let placed = placed_in scope.calls aliases s in
      let same = tables-used output order in
      record {
        some_alias = (let l = length-map s.sources (use_of scope) in let n = sound.some_source in omega (arith, l, n));
        few_aliases = (let l = length-map s.sources (use_of scope) in omega (arith, l, few));
        aliases = All-from_recursion (FitsAlias scope.tables) (map (use_of scope) s.sources)
            (each_map (FitsAlias scope.tables) (use_of scope) s.sources
            (each_both (λ (source : Source). IsSome (scope.table source.table.text))
            (λ (source : Source). IfSome (scope.table source.table.text) (λ (table : ℕ). table < length scope.tables))
            (λ (source : Source). FitsAlias scope.tables (use_of scope source)) s.sources (use_fits scope accesses) first.found within));
        few_conjuncts = (let l = length-map placed placed_conjunct in let f = fine.few in omega (arith, l, f));
        conjuncts = subst (λ (ts : List ℕ). All (FitsConjunct scope.calls.kinds scope.tables ts) (map placed_conjunct placed)) (sym same)
            (All-from_recursion (FitsConjunct scope.calls.kinds scope.tables uses) (map placed_conjunct placed)
            (each_map (FitsConjunct scope.calls.kinds scope.tables uses) placed_conjunct placed
            (each_also (Fit scope uses aliases h) (λ p. FitsConjunct scope.calls.kinds scope.tables uses (placed_conjunct p)) placed
            (conjunct_fits scope uses aliases h) (placed_fit scope uses aliases h s sound fine.conditions))));
        some_output = some;
        output = subst (λ (ts : List ℕ). All (λ (o : OutCol). IsSome (kind_in scope.tables ts (record { alias = o.alias; column = o.column }))) output) (sym same)
            (All-from_recursion (OutThere scope uses aliases h) output outs);
        order = subst (λ (ts : List ℕ). All (λ (k : OrderKey). IsSome (kind_in scope.tables ts (record { alias = k.alias; column = k.column }))) order) (sym same)
            (All-from_recursion (KeyThere scope uses aliases h) order keys);
      }

  -- both blocks of a statement fit: the plain one, and that of its matches
  pub record BothFit : Type 0 where
    pub plain : IsFit scope.calls.kinds scope.tables (block_of scope s)
    pub matches : IsFit scope.calls.kinds scope.tables (matches_of scope s)

  pub both_fit : IsSound s → AreAccesses scope.tables scope.accesses
      → Each (λ (source : Source). IfSome (scope.table source.table.text) (λ (table : ℕ). table < length scope.tables)) s.sources
      → from_faults scope s.sources ≡ [] → (h : Holds) → Faultless h → BothFit
  unfolding plain_block matches_of shape_in
  both_fit sound accesses within from h fine = record {
    plain = fits_with sound accesses within from h fine (map output_column cells) (map (plain_key cells) (map (key_of aliases cells) s.order))
        (let l = length-map cells output_column in let n = fine.some in omega (arith, l, n))
        (output_there scope uses aliases h cells fine.shown)
        (plain_there scope uses aliases h fine.first cells fine.shown (map (key_of aliases cells) s.order) fine.order);
    matches = fits_with sound accesses within from h fine (first_output aliases ∷ []) [] (omega arith) (fine.first, tt) tt;
  }
