-- Which tables can be asked for keys.
use Rattle.std.proofs.Common.{◌≡◌, ◌⊎◌, inl, inr, ℕ, zero, suc, ◌<◌, get_or, List, [], ◌∷◌, length, replicate, Option, Some, None, refl, ap, sym, ◌∙◌, subst, arith}
use Rattle.std.specs.Prelude.{ℤ, Contains, slice_get, option_and_then}
use Rattle.std.specs.Option.{option_map, option_map_or}
use Rattle.std.specs.Prelude.{◌==◌}
use Rattle.std.proofs.lemmas.Bool.{eqb-true}
use Rattle.std.proofs.lemmas.List.Quantifiers.{position-Some}
use Rattle.std.proofs.lemmas.Option.{slice_get-map}
use Rattle.std.proofs.lemmas.List.Elements.{All-weaker}
use Rattle.sq_value.specs.Relation.{Relation}
use Rattle.sq_value.specs.declared.table.Column.{Column}
use Rattle.sq_value.specs.declared.value.ColType.{ColType}
use Rattle.sq_value.specs.declared.predicate.Kinds.{Kinds}
use Rattle.sq_value.specs.declared.value.Cmp.TheVariants.{Eq}
use Rattle.sq_expr.specs.Fits.{column_kind, kind_in, FitsHere, FitsConjunct, IsFit, tables_used}
use Rattle.sq_expr.specs.declared.cond.ColumnOf.{ColumnOf}
use Rattle.sq_expr.specs.declared.cond.Cond.TheVariants as variants
use Rattle.sq_expr.specs.declared.cond.Side.TheVariants as side
use Rattle.sq_expr.specs.declared.block.AliasUse.{AliasUse}
use Rattle.sq_expr.specs.declared.block.Block.{Block}
use Rattle.sq_expr.specs.declared.block.Conjunct.{Conjunct}
use Rattle.sq_expr.proofs.FitLemmas.{every-here}
use Rattle.eddy_meaning.proofs.MatchLemmas.{All-at}
use Rattle.sq_value.specs.declared.value.Value.{Value}
use Rattle.sq_value.specs.declared.value.Truth.{Truth}
use Rattle.remote_lookup.specs.Asked.{Grows}
use Rattle.remote_lookup.specs.declared.asked.Asked.{Asked}
use Rattle.remote_lookup.specs.Asking.{IsAskedByRows, IsAskedAt, IsAskedIn, IsQuery, CanAsk, AreSpare}
use Rattle.remote_lookup.specs.Filled.{remote_of}
use Rattle.remote_lookup.specs.KeyFiles.{table_columns}
use Rattle.remote_lookup.specs.Needed.{Asks}
use Rattle.remote_lookup.specs.Own.{FitsOwn, FitOwn}
use Rattle.remote_lookup.specs.declared.asks.Ask.{Ask}
use Rattle.remote_lookup.specs.declared.asks.By.{By}
use Rattle.remote_lookup.specs.declared.asks.By.TheVariants as by
use Rattle.remote_lookup.specs.declared.remote.Remote.{Remote}
use Rattle.remote_lookup.proofs.FilledLemmas.{remote_there}
use Rattle.remote_lookup.proofs.GrowthLemmas.{within, got_or, grows_none, grows_as}
use Rattle.remote_lookup.proofs.MeantLemmas.{meant_of, Meant, IsMeant}
use Rattle.remote_lookup.proofs.OwnLemmas.{own-fits}
use Rattle.remote_lookup.proofs.RowLemmas.{repeated}

pub some_one : {X : Type 0} {x y : X} → Some x ≡ Some y → x ≡ y
some_one e = cc

none_some : {X : Type 0} {x : X} → None ≡ Some x → ⊥
none_some e = cc

none_low : {X : Type 0} (xs : List X) (k : ℕ) → k < length xs → slice_get xs k ≡ None → ⊥
none_low {X} [] k low is = omega (arith, low)
none_low {X} (x ∷ xs) zero low is = some_none is
  where
    some_none : {x : X} → Some x ≡ None → ⊥
    some_none e = cc
none_low {X} (x ∷ xs) (suc k) low is = none_low xs k (omega (arith, low)) is

-- the remote at a number has its table
remote_table : (remotes : List Remote) (table from : ℕ) (r : Remote) → remote_of remotes table ≡ Some from → slice_get remotes from ≡ Some r → r.table ≡ table
remote_table [] table from r of is = absurd (none_some is)
remote_table (x ∷ xs) table from r of is =
    let at = position-Some (λ (s : Remote). s.table == table) (x ∷ xs) from x of in
    sym (ap (λ (s : Remote). s.table) (got_or (x ∷ xs) from x r is)) ∙ eqb-true (get_or (x ∷ xs) from x).table table at.1

-- the element at a place that is within
pub element : {X : Type 0} (xs : List X) (k : ℕ) → k < length xs → (x : X) × (slice_get xs k ≡ Some x)
element {X} xs k low = by (slice_get xs k) refl
  where
    by : (o : Option X) → slice_get xs k ≡ o → (x : X) × (slice_get xs k ≡ Some x)
    by None is = absurd (none_low xs k low is)
    by (Some x) is = (x, is)

-- a column that a block asks by has a type
kind_of : (kinds : ℕ → Option Kinds) (block : Block) (tables : List Relation) (remotes : List Remote) (remote : ℕ) (c : ColumnOf) → IsFit kinds tables block
    → Asks block remotes remote (side.Column c) → (kind : ColType) × (kind_in tables (tables_used block) c ≡ Some kind)
kind_of kinds block tables remotes remote c fits h = by h.compares.is
  where
    fit : FitsConjunct kinds tables (tables_used block) h.conjunct
    fit = All-at (FitsConjunct kinds tables (tables_used block)) block.conjuncts h.p h.conjunct fits.conjuncts h.at

    by : (h.conjunct.cond ≡ variants.Compare (side.Column h.own) Eq (side.Column c)) ⊎ (h.conjunct.cond ≡ variants.Compare (side.Column c) Eq (side.Column h.own))
        → (kind : ColType) × (kind_in tables (tables_used block) c ≡ Some kind)
    by (inl is) =
        let here = every-here (FitsHere kinds (λ d kind. kind_in tables (tables_used block) d ≡ Some kind)) h.conjunct.cond (variants.Compare (side.Column h.own) Eq (side.Column c)) _
        (variants.outs-Compare (side.Column h.own) Eq (side.Column c)) is fit.cond in
        (here.1.1.0, here.1.1.1.0)
    by (inr is) =
        let here = every-here (FitsHere kinds (λ d kind. kind_in tables (tables_used block) d ≡ Some kind)) h.conjunct.cond (variants.Compare (side.Column c) Eq (side.Column h.own)) _
        (variants.outs-Compare (side.Column c) Eq (side.Column h.own)) is fit.cond in
        (here.1.0.0, here.1.0.1.0)

-- so its alias is there
use_of : (block : Block) (tables : List Relation) (c : ColumnOf) (kind : ColType) → kind_in tables (tables_used block) c ≡ Some kind
    → (u : AliasUse) × (slice_get block.aliases c.alias ≡ Some u)
use_of block tables c kind e = by (slice_get block.aliases c.alias) refl
  where
    by : (o : Option AliasUse) → slice_get block.aliases c.alias ≡ o → (u : AliasUse) × (slice_get block.aliases c.alias ≡ Some u)
    by (Some u) is = (u, is)
    by None is =
        absurd (none_some (sym (ap (λ (o : Option ℕ). option_and_then (λ table. column_kind tables table c.column) o)
        (slice_get-map (λ (u : AliasUse). u.table) block.aliases c.alias ∙ ap (option_map (λ (u : AliasUse). u.table)) is)) ∙ e))

-- the type of a column of an alias, by its table
kind_at : (block : Block) (tables : List Relation) (c : ColumnOf) (u : AliasUse) → slice_get block.aliases c.alias ≡ Some u
    → kind_in tables (tables_used block) c ≡ column_kind tables u.table c.column
kind_at block tables c u used =
    ap (λ (o : Option ℕ). option_and_then (λ table. column_kind tables table c.column) o)
    (slice_get-map (λ (u : AliasUse). u.table) block.aliases c.alias ∙ ap (option_map (λ (u : AliasUse). u.table)) used)

-- a column with a type is one of a table
column_there : (tables : List Relation) (table column : ℕ) (kind : ColType) → column_kind tables table column ≡ Some kind
    → (t : Relation) × (slice_get tables table ≡ Some t) × (column < length t.columns)
column_there tables table column kind e = by (slice_get tables table) refl e
  where
    at : (t : Relation) → slice_get tables table ≡ Some t → (o : Option Column) → slice_get t.columns column ≡ o
        → option_map (λ (c : Column). c.kind) o ≡ Some kind → (t : Relation) × (slice_get tables table ≡ Some t) × (column < length t.columns)
    at t is None none e = absurd (none_some e)
    at t is (Some d) there e = (t, is, within t.columns column d there)

    by : (o : Option Relation) → slice_get tables table ≡ o → option_map (λ (c : Column). c.kind) (option_and_then (λ (t : Relation). slice_get t.columns column) o) ≡ Some kind
        → (t : Relation) × (slice_get tables table ≡ Some t) × (column < length t.columns)
    by None is e = absurd (none_some e)
    by (Some t) is e = at t is (slice_get t.columns column) refl e

kind_by : (tables : List Relation) (table column : ℕ) (t : Relation) → slice_get tables table ≡ Some t
    → column_kind tables table column ≡ option_map (λ (c : Column). c.kind) (slice_get t.columns column)
kind_by tables table column t is =
    ap (λ (o : Option Relation). option_map (λ (c : Column). c.kind) (option_and_then (λ (r : Relation). slice_get r.columns column) o)) is

module _ (kinds : ℕ → Option Kinds) (block : Block) (tables : List Relation) (remotes : List Remote) (asks : List Ask)
    (query : IsQuery kinds block tables remotes asks) where
  -- own conjuncts fit a table that has the columns of the alias's
  fit_own : (others : List Relation) (n a : ℕ) (u : AliasUse) (t s : Relation) → a < 12 → slice_get block.aliases a ≡ Some u
      → slice_get tables u.table ≡ Some t → slice_get others n ≡ Some s → s.columns ≡ t.columns → FitOwn kinds others n a block
  fit_own others n a u t s low used is at columns =
      All-weaker (FitsConjunct kinds tables (tables_used block)) (FitsOwn kinds others n a) one block.conjuncts query.fits.conjuncts
    where
      same : (col : ColumnOf) → col.alias ≡ a → kind_in tables (tables_used block) col ≡ kind_in others (replicate 12 n) col
      same col e =
          kind_at block tables col u (ap (slice_get block.aliases) e ∙ used)
          ∙ kind_by tables u.table col.column t is
          ∙ ap (λ (cs : List Column). option_map (λ (c : Column). c.kind) (slice_get cs col.column)) (sym columns)
          ∙ sym (kind_by others n col.column s at)
          ∙ sym (ap (λ (o : Option ℕ). option_and_then (λ table. column_kind others table col.column) o) (ap (slice_get (replicate 12 n)) e ∙ repeated 12 a n low))

      one : (c : Conjunct) → FitsConjunct kinds tables (tables_used block) c → FitsOwn kinds others n a c
      one c fit = record {
        span = fit.span;
        fits = λ own. own-fits kinds tables others (tables_used block) (replicate 12 n) a c.cond own same fit.cond;
      }

  -- the alias of a column that is asked by, its table, and the column there
  pub record Named (c : ColumnOf) : Type 0 where
    pub u : AliasUse
    pub used : slice_get block.aliases c.alias ≡ Some u
    pub low : c.alias < length block.aliases
    pub t : Relation
    pub is : slice_get tables u.table ≡ Some t
    pub column : c.column < length t.columns

  pub named : (ask : Ask) (c : ColumnOf) → Contains asks ask → ask.by ≡ by.Column c → Named c
  named ask c in' is = found (meant_of block remotes asks query.are ask in')
    where
      found : Meant block remotes ask → Named c
      found m =
          let meant = subst (λ (w : By). IsMeant block remotes m.other m.own.alias w) is m.meant in
          let kind = kind_of kinds block tables remotes ask.remote c query.fits (subst (Asks block remotes ask.remote) meant.0 m.asks) in
          let use' = use_of block tables c kind.0 kind.1 in
          let there = column_there tables use'.0.table c.column kind.0 (sym (kind_at block tables c use'.0 use'.1) ∙ kind.1) in
          record {
            u = use'.0;
            used = use'.1;
            low = within block.aliases c.alias use'.0 use'.1;
            t = there.0;
            is = there.1;
            column = there.2;
          }

  pub can_ask_table : (ask : Ask) (c : ColumnOf) → Contains asks ask → ask.by ≡ by.Column c → (u : AliasUse) → slice_get block.aliases c.alias ≡ Some u
      → (t : Relation) × CanAsk kinds block tables u.table c t
  can_ask_table ask c in' is u used =
      let n = named ask c in' is in
      let same : n.u ≡ u = some_one (sym n.used ∙ used) in
      let low : c.alias < 12 = omega (arith, n.low, query.fits.few_aliases) in
      let there : slice_get tables u.table ≡ Some n.t = sym (ap (λ (v : AliasUse). slice_get tables v.table) same) ∙ n.is in
      (n.t, record { alias = low; is = there; own = fit_own tables u.table c.alias u n.t n.t low used there there refl; column = n.column })

  pub can_ask_spare : (spare : List Relation) (from : ℕ) (ask : Ask) (c : ColumnOf) → AreSpare tables remotes spare → from < length remotes
      → Contains asks ask → ask.by ≡ by.Column c → (u : AliasUse) → slice_get block.aliases c.alias ≡ Some u → remote_of remotes u.table ≡ Some from
      → (t : Relation) × CanAsk kinds block spare from c t
  can_ask_spare spare from ask c are low in' is u used of =
      let n = named ask c in' is in
      let same : n.u ≡ u = some_one (sym n.used ∙ used) in
      let few : c.alias < 12 = omega (arith, n.low, query.fits.few_aliases) in
      let there : slice_get tables u.table ≡ Some n.t = sym (ap (λ (v : AliasUse). slice_get tables v.table) same) ∙ n.is in
      let r = remote_there remotes u.table from of in
      let table : r.0.table ≡ u.table = remote_table remotes u.table from r.0 of r.1 in
      let s = element spare from (omega (arith, low, are.count)) in
      let columns : s.0.columns ≡ n.t.columns =
      are.columns from r.0 s.0 r.1 s.1
      ∙ ap (table_columns tables) table
      ∙ ap (λ (o : Option Relation). option_map_or (λ (t : Relation). t.columns) o []) there in (
        s.0,
        record {
          alias = few;
          is = s.1;
          own = fit_own spare from c.alias u n.t s.0 few used there s.1 columns;
          column = subst (λ (cs : List Column). c.column < length cs) (sym columns) n.column;
        },
      )

  -- nothing is asked before any file is loaded by a column of a remote's alias
  pub not_first : (gives : ℕ → Value → Value → Truth) (ask : Ask) (c : ColumnOf) (u : AliasUse) (n : ℕ) → ask.by ≡ by.Column c
      → slice_get block.aliases c.alias ≡ Some u → remote_of remotes u.table ≡ Some n
      → (a : Asked) → Grows (IsAskedAt gives block tables remotes ask.remote ask.by) a a
  not_first gives ask c u n is used of a = grows_none a none
    where
      by_column : (remote : ℕ) (key : ℤ) → IsAskedAt gives block tables remotes ask.remote (by.Column c) remote key → ⊥
      by_column remote key h =
          let same : h.0 ≡ u = some_one (sym h.1 ∙ used) in
          none_some (sym h.2 ∙ ap (λ (v : AliasUse). remote_of remotes v.table) same ∙ of)

      none : (remote : ℕ) (key : ℤ) → IsAskedAt gives block tables remotes ask.remote ask.by remote key → ⊥
      none remote key h = by_column remote key (subst (λ (w : By). IsAskedAt gives block tables remotes ask.remote w remote key) is h)

  -- what the rows of a table ask for
  pub by_table : (gives : ℕ → Value → Value → Truth) (ask : Ask) (c : ColumnOf) (u : AliasUse) (t : Relation) → ask.by ≡ by.Column c
      → slice_get block.aliases c.alias ≡ Some u → remote_of remotes u.table ≡ None → slice_get tables u.table ≡ Some t
      → (a b : Asked) → Grows (IsAskedByRows gives block ask.remote c t.rows) a b → Grows (IsAskedAt gives block tables remotes ask.remote ask.by) a b
  by_table gives ask c u t is used of there a b grows =
      subst (λ (w : By). Grows (IsAskedAt gives block tables remotes ask.remote w) a b) (sym is)
      (grows_as a b (λ remote key. (λ h. (u, used, of, (t, there, h)), λ h. back remote key h)) grows)
    where
      back : (remote : ℕ) (key : ℤ) → IsAskedAt gives block tables remotes ask.remote (by.Column c) remote key → IsAskedByRows gives block ask.remote c t.rows remote key
      back remote key h =
          let same : h.0 ≡ u = some_one (sym h.1 ∙ used) in
          let one : h.3.0 ≡ t = some_one (sym h.3.1 ∙ ap (λ (v : AliasUse). slice_get tables v.table) same ∙ there) in
          subst (λ (s : Relation). IsAskedByRows gives block ask.remote c s.rows remote key) one h.3.2

  -- and by the rows of a file, where the column is of the remote, and where it isn't
  pub not_in : (gives : ℕ → Value → Value → Truth) (rows : List (List Value)) (from : ℕ) (ask : Ask) (c : ColumnOf) (u : AliasUse) → ask.by ≡ by.Column c
      → slice_get block.aliases c.alias ≡ Some u → (remote_of remotes u.table ≡ Some from → ⊥)
      → (a : Asked) → Grows (IsAskedIn gives block remotes from rows ask.remote ask.by) a a
  not_in gives rows from ask c u is used of a = grows_none a none
    where
      by_column : (remote : ℕ) (key : ℤ) → IsAskedIn gives block remotes from rows ask.remote (by.Column c) remote key → ⊥
      by_column remote key h =
          let same : h.0 ≡ u = some_one (sym h.1 ∙ used) in
          of (sym (ap (λ (v : AliasUse). remote_of remotes v.table) same) ∙ h.2)

      none : (remote : ℕ) (key : ℤ) → IsAskedIn gives block remotes from rows ask.remote ask.by remote key → ⊥
      none remote key h = by_column remote key (subst (λ (w : By). IsAskedIn gives block remotes from rows ask.remote w remote key) is h)

  pub by_file : (gives : ℕ → Value → Value → Truth) (rows : List (List Value)) (from : ℕ) (ask : Ask) (c : ColumnOf) (u : AliasUse) → ask.by ≡ by.Column c
      → slice_get block.aliases c.alias ≡ Some u → remote_of remotes u.table ≡ Some from
      → (a b : Asked) → Grows (IsAskedByRows gives block ask.remote c rows) a b → Grows (IsAskedIn gives block remotes from rows ask.remote ask.by) a b
  by_file gives rows from ask c u is used of a b grows =
      subst (λ (w : By). Grows (IsAskedIn gives block remotes from rows ask.remote w) a b) (sym is)
      (grows_as a b (λ remote key. (λ h. (u, used, of, h), λ h. h.3)) grows)
