-- What asks ask for is what is needed next.
use Rattle.std.proofs.Common.{◌≡◌, ◌≢◌, ◌↔◌, ◌⊎◌, inl, inr, ℕ, Bool, true, false, cond, List, [], ◌∷◌, Option, Some, None, refl, ap, sym, ◌∙◌, subst}
use Rattle.std.specs.Prelude.{◌==◌, ℤ, is_none, option_and_then, Contains, slice_get}
use Rattle.std.specs.Option.{option_map}
use Rattle.std.proofs.lemmas.Bool.{false≢true, eqb-true, eq-eqb}
use Rattle.sq_value.specs.Relation.{Relation}
use Rattle.sq_value.specs.declared.value.Value.{Value}
use Rattle.sq_value.specs.declared.value.Truth.{Truth}
use Rattle.sq_value.specs.declared.value.Cmp.TheVariants.{Eq}
use Rattle.sq_expr.specs.Fits.{side_aliases}
use Rattle.sq_expr.specs.Plain.{is_plain}
use Rattle.sq_expr.specs.declared.cond.ColumnOf.{ColumnOf}
use Rattle.sq_expr.specs.declared.cond.Cond.TheVariants.{Compare}
use Rattle.sq_expr.specs.declared.cond.Side.{Side}
use Rattle.sq_expr.specs.declared.cond.Side.TheVariants as side
use Rattle.sq_expr.specs.declared.cond.Term.{Term}
use Rattle.sq_expr.specs.declared.block.AliasUse.{AliasUse}
use Rattle.sq_expr.specs.declared.block.Block.{Block}
use Rattle.sq_expr.specs.declared.block.Conjunct.{Conjunct}
use Rattle.eddy_meaning.proofs.MatchLemmas.{Contains-nil, Contains-here, Contains-cons_cases}
use Rattle.remote_lookup.proofs.GrowthLemmas.{within as place_low}
use Rattle.remote_lookup.specs.Filled.{remote_of}
use Rattle.remote_lookup.specs.Needed.{Asks, HasRowOf, IsAskedFor, IsAskedByFile}
use Rattle.remote_lookup.specs.Rounds.{lists_key}
use Rattle.remote_lookup.specs.Asks.{remote_by, literal_of, by_of, asked_at, ask_by, IsAskIn, AreAsks}
use Rattle.remote_lookup.specs.Asking.{IsAskedAt, IsAskedIn, IsAskedFirst, IsAskedBehind}
use Rattle.remote_lookup.specs.declared.asks.Ask.{Ask}
use Rattle.remote_lookup.specs.declared.asks.By.{By}
use Rattle.remote_lookup.specs.declared.asks.By.TheVariants as by
use Rattle.remote_lookup.specs.declared.remote.Remote.{Remote}
use Rattle.remote_lookup.specs.declared.remote.RemoteKey.{RemoteKey}

some_one : {X : Type 0} {x y : X} → Some x ≡ Some y → x ≡ y
some_one e = cc

none_some : {X : Type 0} {x : X} → None ≡ Some x → ⊥
none_some e = cc

-- an ask as a record
abbrev pub the_ask : ℕ → By → Ask
the_ask remote way = record { remote = remote; by = way }

module _ (block : Block) (remotes : List Remote) where
  -- a look-up column of a remote
  pub record Leads (own : ColumnOf) (remote : ℕ) : Type 0 where
    pub u : AliasUse
    pub used : slice_get block.aliases own.alias ≡ Some u
    pub of : remote_of remotes u.table ≡ Some remote
    pub r : Remote
    pub is : slice_get remotes remote ≡ Some r
    pub column : own.column ≡ r.column

  leads_by : (own : ColumnOf) (remote : ℕ) → Leads own remote → remote_by block remotes own ≡ Some remote
  leads_by own remote h =
      ap (λ (o : Option AliasUse). option_and_then (λ (u : AliasUse). option_and_then (λ (n : ℕ). option_and_then (λ (r : Remote). cond (r.column == own.column) (Some n) None) (slice_get remotes n)) (remote_of remotes u.table)) o) h.used
      ∙ ap (λ (o : Option ℕ). option_and_then (λ (n : ℕ). option_and_then (λ (r : Remote). cond (r.column == own.column) (Some n) None) (slice_get remotes n)) o) h.of
      ∙ ap (λ (o : Option Remote). option_and_then (λ (r : Remote). cond (r.column == own.column) (Some remote) None) o) h.is
      ∙ ap (λ (b : Bool). let o : Option ℕ = cond b (Some remote) None in o) (eq-eqb h.r.column own.column (sym h.column))

  by_leads : (own : ColumnOf) (remote : ℕ) → remote_by block remotes own ≡ Some remote → Leads own remote
  by_leads own remote e = one (slice_get block.aliases own.alias) refl e
    where
      three : (u : AliasUse) (n : ℕ) (r : Remote) → slice_get block.aliases own.alias ≡ Some u → remote_of remotes u.table ≡ Some n → slice_get remotes n ≡ Some r
          → (b : Bool) → (r.column == own.column) ≡ b → cond b (Some n) None ≡ Some remote → Leads own remote
      three u n r used of is true column e =
          let same : n ≡ remote = some_one e in
          record {
            u = u;
            used = used;
            of = of ∙ ap (λ (m : ℕ). let o : Option ℕ = Some m in o) same;
            r = r;
            is = sym (ap (slice_get remotes) same) ∙ is;
            column = sym (eqb-true r.column own.column column);
          }
      three u n r used of is false column e = absurd (none_some e)

      at : (u : AliasUse) (n : ℕ) → slice_get block.aliases own.alias ≡ Some u → remote_of remotes u.table ≡ Some n
          → (o : Option Remote) → slice_get remotes n ≡ o
          → option_and_then (λ (r : Remote). cond (r.column == own.column) (Some n) None) o ≡ Some remote → Leads own remote
      at u n used of None is e = absurd (none_some e)
      at u n used of (Some r) is e = three u n r used of is (r.column == own.column) refl e

      two : (u : AliasUse) → slice_get block.aliases own.alias ≡ Some u → (o : Option ℕ) → remote_of remotes u.table ≡ o
          → option_and_then (λ (n : ℕ). option_and_then (λ (r : Remote). cond (r.column == own.column) (Some n) None) (slice_get remotes n)) o ≡ Some remote → Leads own remote
      two u used None of e = absurd (none_some e)
      two u used (Some n) of e = at u n used of (slice_get remotes n) refl e

      one : (o : Option AliasUse) → slice_get block.aliases own.alias ≡ o
          → option_and_then (λ (u : AliasUse). option_and_then (λ (n : ℕ). option_and_then (λ (r : Remote). cond (r.column == own.column) (Some n) None) (slice_get remotes n)) (remote_of remotes u.table)) o ≡ Some remote → Leads own remote
      one None used e = absurd (none_some e)
      one (Some u) used e = two u used (remote_of remotes u.table) refl e

  -- a side as it names keys beside an alias
  abbrev pub IsMeant : Side → ℕ → By → Type 0
  IsMeant other alias (by.Literal k) = (t : Term) × (other ≡ side.Sum (t ∷ [])) × (t.column ≡ None) × (t.factor ≡ k)
  IsMeant other alias (by.Column c) = (other ≡ side.Column c) × (c.alias ≢ alias)

  meant_by : (other : Side) (alias : ℕ) (way : By) → IsMeant other alias way → by_of other alias ≡ Some way
  meant_by other alias (by.Literal k) h =
      ap (λ (s : Side). by_of s alias) h.1
      ∙ ap (λ (o : Option ColumnOf). let w : Option By = cond (is_none o) (Some (by.Literal h.0.factor)) None in w) h.2
      ∙ ap (λ (n : ℤ). let w : Option By = Some (by.Literal n) in w) h.3
  meant_by other alias (by.Column c) h = ap (λ (s : Side). by_of s alias) h.0 ∙ rest (c.alias == alias) refl
    where
      rest : (b : Bool) → (c.alias == alias) ≡ b → cond b None (Some (by.Column c)) ≡ Some (by.Column c)
      rest true e = absurd (h.1 (eqb-true c.alias alias e))
      rest false e = refl

  literal_meant : (terms : List Term) (alias : ℕ) (way : By) → literal_of terms ≡ Some way → IsMeant (side.Sum terms) alias way
  literal_meant [] alias way e = absurd (none_some e)
  literal_meant (t ∷ []) alias way e = rest t.column refl e
    where
      rest : (o : Option ColumnOf) → t.column ≡ o → cond (is_none o) (Some (by.Literal t.factor)) None ≡ Some way → IsMeant (side.Sum (t ∷ [])) alias way
      rest None is e = subst (IsMeant (side.Sum (t ∷ [])) alias) (some_one e) (t, refl, is, refl)
      rest (Some c) is e = absurd (none_some e)
  literal_meant (t ∷ (u ∷ more)) alias way e = absurd (none_some e)

  by_meant : (other : Side) (alias : ℕ) (way : By) → by_of other alias ≡ Some way → IsMeant other alias way
  by_meant side.Null alias way e = absurd (none_some e)
  by_meant (side.Text t) alias way e = absurd (none_some e)
  by_meant (side.Column c) alias way e = rest (c.alias == alias) refl e
    where
      rest : (b : Bool) → (c.alias == alias) ≡ b → cond b None (Some (by.Column c)) ≡ Some way → IsMeant (side.Column c) alias way
      rest true is e = absurd (none_some e)
      rest false is e =
          subst (IsMeant (side.Column c) alias) (some_one e) (refl, λ same. false≢true (sym is ∙ eq-eqb c.alias alias same))
  by_meant (side.Sum terms) alias way e = literal_meant terms alias way e

  plain_of : (other : Side) (alias : ℕ) (way : By) → IsMeant other alias way → is_plain other ≡ true
  plain_of other alias (by.Literal k) h = ap is_plain h.1 ∙ ap is_none h.2
  plain_of other alias (by.Column c) h = ap is_plain h.0

  apart_of : (other : Side) (alias : ℕ) (way : By) → IsMeant other alias way → (a : ℕ) → Contains (side_aliases other) a → a ≢ alias
  apart_of other alias (by.Literal k) h a occurs = absurd (Contains-nil a (none h.0 h.2 (subst (λ (s : Side). Contains (side_aliases s) a) h.1 occurs)))
    where
      none : (t : Term) → t.column ≡ None → Contains (side_aliases (side.Sum (t ∷ []))) a → Contains [] a
      none t is h = subst (λ (o : Option ColumnOf). Contains (side_aliases (side.Sum (record t { column = o } ∷ []))) a) is h
  apart_of other alias (by.Column c) h a occurs =
      by (Contains-cons_cases a c.alias [] (subst (λ (s : Side). Contains (side_aliases s) a) h.0 occurs))
    where
      by : (c.alias ≡ a) ⊎ Contains [] a → a ≢ alias
      by (inl e) = λ same. h.1 (e ∙ same)
      by (inr none) = absurd (Contains-nil a none)

  -- two sides of an equality ask so
  asked_sides : (own : ColumnOf) (other : Side) (remote : ℕ) (way : By) → Leads own remote → IsMeant other own.alias way
      → ask_by block remotes (side.Column own) other ≡ Some (the_ask remote way)
  asked_sides own other remote way leads meant =
      ap (λ (o : Option By). asked_at (remote_by block remotes own) o) (meant_by other own.alias way meant)
      ∙ ap (λ (o : Option ℕ). asked_at o (Some way)) (leads_by own remote leads)

  pub record Asked (x other : Side) (ask : Ask) : Type 0 where
    pub own : ColumnOf
    pub first : x ≡ side.Column own
    pub leads : Leads own ask.remote
    pub meant : IsMeant other own.alias ask.by

  sides_asked : (x other : Side) (ask : Ask) → ask_by block remotes x other ≡ Some ask → Asked x other ask
  sides_asked side.Null other ask e = absurd (none_some e)
  sides_asked (side.Text t) other ask e = absurd (none_some e)
  sides_asked (side.Sum terms) other ask e = absurd (none_some e)
  sides_asked (side.Column own) other ask e = one (by_of other own.alias) refl e
    where
      two : (way : By) → by_of other own.alias ≡ Some way → (o : Option ℕ) → remote_by block remotes own ≡ o
          → option_map (λ (r : ℕ). let a : Ask = record { remote = r; by = way } in a) o ≡ Some ask → Asked (side.Column own) other ask
      two way is None leads e = absurd (none_some e)
      two way is (Some r) leads e =
          subst (Asked (side.Column own) other) (some_one e)
          (record { own = own; first = refl; leads = by_leads own r leads; meant = by_meant other own.alias way is })

      one : (o : Option By) → by_of other own.alias ≡ o → asked_at (remote_by block remotes own) o ≡ Some ask → Asked (side.Column own) other ask
      one None is e = absurd (none_some e)
      one (Some way) is e = two way is (remote_by block remotes own) refl e

  -- the conjunct that asks
  asks_of : (p : ℕ) (c : Conjunct) → slice_get block.conjuncts p ≡ Some c → (x other : Side) (ask : Ask)
      → (c.cond ≡ Compare x Eq other) ⊎ (c.cond ≡ Compare other Eq x) → Asked x other ask → Asks block remotes ask.remote other
  asks_of p c at x other ask is h = record {
    p = p;
    conjunct = c;
    at = at;
    own = h.own;
    compares = record { is = turned is };
    u = h.leads.u;
    used = h.leads.used;
    of = h.leads.of;
    r = h.leads.r;
    is = h.leads.is;
    column = h.leads.column;
    plain = plain_of other h.own.alias ask.by h.meant;
    apart = apart_of other h.own.alias ask.by h.meant;
  }
    where
      turned : (c.cond ≡ Compare x Eq other) ⊎ (c.cond ≡ Compare other Eq x) → (c.cond ≡ Compare (side.Column h.own) Eq other) ⊎ (c.cond ≡ Compare other Eq (side.Column h.own))
      turned (inl e) = inl (e ∙ ap (λ (s : Side). Compare s Eq other) h.first)
      turned (inr e) = inr (e ∙ ap (λ (s : Side). Compare other Eq s) h.first)

  -- an ask by a side, and the side
  pub record Meant (ask : Ask) : Type 0 where
    pub other : Side
    pub own : ColumnOf
    pub asks : Asks block remotes ask.remote other
    pub meant : IsMeant other own.alias ask.by

  asks_meant : (ask : Ask) (p : ℕ) (c : Conjunct) → slice_get block.conjuncts p ≡ Some c → IsAskIn block remotes c.cond ask → Meant ask
  asks_meant ask p c at h = by h.3
    where
      made : (x other : Side) → (c.cond ≡ Compare x Eq other) ⊎ (c.cond ≡ Compare other Eq x) → Asked x other ask → Meant ask
      made x other is a = record { other = other; own = a.own; asks = asks_of p c at x other ask is a; meant = a.meant }

      by : (ask_by block remotes h.0 h.1 ≡ Some ask) ⊎ (ask_by block remotes h.1 h.0 ≡ Some ask) → Meant ask
      by (inl e) = made h.0 h.1 (inl h.2) (sides_asked h.0 h.1 ask e)
      by (inr e) = made h.1 h.0 (inr h.2) (sides_asked h.1 h.0 ask e)

  meant_asks : (remote : ℕ) (other : Side) (way : By) (h : Asks block remotes remote other) → IsMeant other h.own.alias way → IsAskIn block remotes h.conjunct.cond (the_ask remote way)
  meant_asks remote other way h meant = by h.compares.is
    where
      leads : Leads h.own remote
      leads = record { u = h.u; used = h.used; of = h.of; r = h.r; is = h.is; column = h.column }

      by : (h.conjunct.cond ≡ Compare (side.Column h.own) Eq other) ⊎ (h.conjunct.cond ≡ Compare other Eq (side.Column h.own)) → IsAskIn block remotes h.conjunct.cond (the_ask remote way)
      by (inl e) = (side.Column h.own, other, e, inl (asked_sides h.own other remote way leads meant))
      by (inr e) = (other, side.Column h.own, e, inr (asked_sides h.own other remote way leads meant))

  module _ (asks : List Ask) (are : AreAsks block remotes asks) where
    -- each ask is one of a conjunct, and the other way round
    pub meant_of : (ask : Ask) → Contains asks ask → Meant ask
    meant_of ask in' =
        let h = (are ask).0 in' in
        asks_meant ask h.0 h.2.0 h.2.1 h.2.2

    pub ask_there : (remote : ℕ) (other : Side) (way : By) (h : Asks block remotes remote other) → IsMeant other h.own.alias way → Contains asks (the_ask remote way)
    ask_there remote other way h meant = (are (the_ask remote way)).1 (h.p, place_low block.conjuncts h.p h.conjunct h.at, (h.conjunct, h.at, meant_asks remote other way h meant))

module _ (gives : ℕ → Value → Value → Truth) (block : Block) (tables : List Relation) (remotes : List Remote)
    (rows : ℕ → ℤ → List (List Value)) (asks : List Ask) (are : AreAsks block remotes asks) where
  -- before any file is loaded
  pub asked_first : (remote : ℕ) (key : ℤ)
      → IsAskedFirst gives block tables remotes asks remote key ↔ IsAskedFor gives block tables remotes rows (lists_key []) remote key
  asked_first remote key = (λ h. to h.0 (meant_of block remotes asks are h.0 h.1) h.0.by refl h.2, from)
    where
      row_of : (t : Relation) (u : AliasUse) (row : List Value) → slice_get tables u.table ≡ Some t → Contains t.rows row → (o : Option ℕ) → o ≡ None
          → HasRowOf rows tables (lists_key []) u.table row o
      row_of t u row at in' o e = subst (HasRowOf rows tables (lists_key []) u.table row) (sym e) (t, at, in')

      to : (ask : Ask) → Meant block remotes ask → (way : By) → ask.by ≡ way → IsAskedAt gives block tables remotes ask.remote ask.by remote key
          → IsAskedFor gives block tables remotes rows (lists_key []) remote key
      to ask m (by.Literal k) is h =
          let asked : (ask.remote ≡ remote) × (k ≡ key) = subst (λ (w : By). IsAskedAt gives block tables remotes ask.remote w remote key) is h in
          let meant : IsMeant block remotes m.other m.own.alias (by.Literal k) = subst (IsMeant block remotes m.other m.own.alias) is m.meant in
          let asks' : Asks block remotes remote m.other = subst (λ (n : ℕ). Asks block remotes n m.other) asked.0 m.asks in
          inl (record {
            t = meant.0;
            ask = subst (Asks block remotes remote) meant.1 asks';
            alone = meant.2;
            is = meant.3 ∙ asked.1;
          })
      to ask m (by.Column c) is h =
          let asked = subst (λ (w : By). IsAskedAt gives block tables remotes ask.remote w remote key) is h in
          let meant : IsMeant block remotes m.other m.own.alias (by.Column c) = subst (IsMeant block remotes m.other m.own.alias) is m.meant in
          by_rows c (subst (Asks block remotes ask.remote) meant.0 m.asks) asked
        where
          by_rows : (c : ColumnOf) → Asks block remotes ask.remote (side.Column c) → IsAskedAt gives block tables remotes ask.remote (by.Column c) remote key
              → IsAskedFor gives block tables remotes rows (lists_key []) remote key
          by_rows c asks' h =
              let t = h.3.0 in
              let by_cells = h.3.2 in
              inr (record {
                c = c;
                ask = subst (λ (n : ℕ). Asks block remotes n (side.Column c)) by_cells.2.of asks';
                u = h.0;
                used = h.1;
                row = by_cells.0;
                of = row_of t h.0 by_cells.0 h.3.1 by_cells.1 (remote_of remotes h.0.table) h.2;
                own = by_cells.2.own;
                has = by_cells.2.has;
              })

      from : IsAskedFor gives block tables remotes rows (lists_key []) remote key → IsAskedFirst gives block tables remotes asks remote key
      from (inl h) =
          (the_ask remote (by.Literal h.t.factor), ask_there block remotes asks are remote (side.Sum (h.t ∷ [])) (by.Literal h.t.factor) h.ask (h.t, refl, h.alone, refl), literal)
        where
          literal : IsAskedAt gives block tables remotes (the_ask remote (by.Literal h.t.factor)).remote (the_ask remote (by.Literal h.t.factor)).by remote key
          literal = (refl, h.is)
      from (inr h) = table_row (remote_of remotes h.u.table) refl h.of
        where
          apart : h.c.alias ≢ h.ask.own.alias
          apart = h.ask.apart h.c.alias (Contains-here h.c.alias [])

          there : Contains asks (the_ask remote (by.Column h.c))
          there = ask_there block remotes asks are remote (side.Column h.c) (by.Column h.c) h.ask (refl, apart)

          table_row : (o : Option ℕ) → remote_of remotes h.u.table ≡ o → HasRowOf rows tables (lists_key []) h.u.table h.row o
              → IsAskedFirst gives block tables remotes asks remote key
          table_row None is of =
              (the_ask remote (by.Column h.c), there, (h.u, h.used, is, (of.0, of.1, (h.row, of.2, record { of = refl; own = h.own; has = h.has }))))
          table_row (Some n) is of = absurd (false≢true of.1)

  -- by the rows of a key's file
  pub asked_behind : (at : RemoteKey) (remote : ℕ) (key : ℤ)
      → IsAskedBehind gives block remotes at.remote (rows at.remote at.key) asks remote key ↔ IsAskedByFile gives block remotes rows at remote key
  asked_behind at remote key = (λ h. to h.0 (meant_of block remotes asks are h.0 h.1) h.0.by refl h.2, from)
    where
      to : (ask : Ask) → Meant block remotes ask → (way : By) → ask.by ≡ way → IsAskedIn gives block remotes at.remote (rows at.remote at.key) ask.remote ask.by remote key
          → IsAskedByFile gives block remotes rows at remote key
      to ask m (by.Literal k) is h =
          absurd (subst (λ (w : By). IsAskedIn gives block remotes at.remote (rows at.remote at.key) ask.remote w remote key) is h)
      to ask m (by.Column c) is h =
          let asked = subst (λ (w : By). IsAskedIn gives block remotes at.remote (rows at.remote at.key) ask.remote w remote key) is h in
          let meant : IsMeant block remotes m.other m.own.alias (by.Column c) = subst (IsMeant block remotes m.other m.own.alias) is m.meant in
          by_rows (subst (Asks block remotes ask.remote) meant.0 m.asks) asked
        where
          by_rows : Asks block remotes ask.remote (side.Column c) → IsAskedIn gives block remotes at.remote (rows at.remote at.key) ask.remote (by.Column c) remote key
              → IsAskedByFile gives block remotes rows at remote key
          by_rows asks' h =
              record {
                c = c;
                ask = subst (λ (n : ℕ). Asks block remotes n (side.Column c)) h.3.2.of asks';
                u = h.0;
                used = h.1;
                of = h.2;
                row = h.3.0;
                in' = h.3.1;
                own = h.3.2.own;
                has = h.3.2.has;
              }

      from : IsAskedByFile gives block remotes rows at remote key → IsAskedBehind gives block remotes at.remote (rows at.remote at.key) asks remote key
      from h =
          let apart : h.c.alias ≢ h.ask.own.alias = h.ask.apart h.c.alias (Contains-here h.c.alias []) in (
            the_ask remote (by.Column h.c),
            ask_there block remotes asks are remote (side.Column h.c) (by.Column h.c) h.ask (refl, apart),
            (h.u, h.used, h.of, (h.row, h.in', record { of = refl; own = h.own; has = h.has })),
          )
