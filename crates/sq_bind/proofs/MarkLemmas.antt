-- Which aliases a mark leads to, and that each mark stands in each closed set.
use Rattle.std.proofs.Common.{◌≡◌, ◌≢◌, ◌⊎◌, inl, inr, ℕ, zero, suc, ◌+◌, ◌<◌, Bool, true, false, not, List, [], ◌∷◌, ◌++◌, length, set, map, Option, Some, None, refl, ap, sym, ◌∙◌, arith, if◌then◌else◌}
use Rattle.std.specs.Prelude.{◌==◌, slice_get, is_none, Contains}
use Rattle.std.specs.Option.{option_map_or}
use Rattle.std.proofs.lemmas.Bool.{false≢true, and_parts, not-true, cases_eq}
use Rattle.std.proofs.lemmas.Bool.Decides.{eqb_tells}
use Rattle.std.proofs.lemmas.List.{get_or-set_other}
use Rattle.sq_value.specs.declared.value.Cmp.{Cmp}
use Rattle.sq_value.specs.declared.value.Cmp.TheVariants as cmp
use Rattle.sq_expr.specs.Fits.{side_aliases, term_aliases}
use Rattle.sq_expr.specs.Plain.{is_plain}
use Rattle.sq_expr.specs.Reach.{Compares, IsClosed}
use Rattle.sq_expr.specs.declared.cond.ColumnOf.{ColumnOf}
use Rattle.sq_expr.specs.declared.cond.Side.{Side}
use Rattle.sq_expr.specs.declared.cond.Side.TheVariants as side
use Rattle.sq_expr.specs.declared.cond.Cond.{Cond, Cond-F, out-Cond, roll-Cond, roll-out-Cond}
use Rattle.sq_expr.specs.declared.cond.Cond.TheOpen as level
use Rattle.sq_expr.specs.declared.cond.Cond.TheVariants.{Compare, rolls-Compare}
use Rattle.sq_expr.specs.declared.block.AliasUse.{AliasUse}
use Rattle.sq_expr.specs.declared.block.Block.{Block}
use Rattle.sq_expr.specs.declared.block.Conjunct.{Conjunct}
use Rattle.sq_bind.specs.Reached.{has, gives, is_column, looks_up, leads, with_column, with_own, with_compared, with_level, with_cond, spread, rounds, is_scanned, reached}

from_out : (c : Cond) (x : Side) (how : Cmp) (y : Side) → out-Cond c ≡ level.Compare x how y → c ≡ Compare x how y
from_out c x how y is = sym (roll-out-Cond c) ∙ ap roll-Cond is ∙ rolls-Compare x how y

-- ---- one mark

has-set : (marks : List Bool) (i a : ℕ) → has (set marks i true) a ≡ true → (a ≡ i) ⊎ (has marks a ≡ true)
has-set marks i a h = by (cases_eq a i)
  where
    by : (a ≡ i) ⊎ (a ≡ i → ⊥) → (a ≡ i) ⊎ (has marks a ≡ true)
    by (inl e) = inl e
    by (inr e) = inr (sym (get_or-set_other marks i a true false e) ∙ h)

pub has-within : (marks : List Bool) (a : ℕ) → has marks a ≡ true → a < length marks
has-within [] a h = absurd (false≢true h)
has-within (m ∷ marks) zero h = omega arith
has-within (m ∷ marks) (suc a) h = let below = has-within marks a h in omega (arith, below)

-- ---- what leads

is_column-true : (column : ℕ) (o : Option ℕ) → is_column column o ≡ true → o ≡ Some column
is_column-true column None h = absurd (false≢true h)
is_column-true column (Some c) h = by (eqb_tells c column)
  where
    by : (((c == column) ≡ true) × (c ≡ column)) ⊎ (((c == column) ≡ false) × (c ≢ column)) → Some c ≡ Some column
    by (inl e) = ap (λ (n : ℕ). Some n) e.1
    by (inr e) = absurd (false≢true (sym e.0 ∙ h))

-- the alias is looked up by that column
record LooksUp (uses : List AliasUse) (c : ColumnOf) : Type 0 where
  u : AliasUse
  used : slice_get uses c.alias ≡ Some u
  look_up : u.access.look_up ≡ Some c.column

looks_up-true : (uses : List AliasUse) (c : ColumnOf) → looks_up uses c ≡ true → LooksUp uses c
looks_up-true uses c h = by (slice_get uses c.alias) refl h
  where
    by : (o : Option AliasUse) → slice_get uses c.alias ≡ o → option_map_or (λ (u : AliasUse). is_column c.column u.access.look_up) o false ≡ true → LooksUp uses c
    by None e h = absurd (false≢true h)
    by (Some u) e h = record { u = u; used = e; look_up = is_column-true c.column u.access.look_up h }

is_column-same : (column : ℕ) → is_column column (Some column) ≡ true
is_column-same column = by (eqb_tells column column)
  where
    by : (((column == column) ≡ true) × (column ≡ column)) ⊎ (((column == column) ≡ false) × (column ≢ column)) → is_column column (Some column) ≡ true
    by (inl e) = e.0
    by (inr e) = absurd (e.1 refl)

pub looks_up-from : (uses : List AliasUse) (c : ColumnOf) (u : AliasUse) → slice_get uses c.alias ≡ Some u → u.access.look_up ≡ Some c.column → looks_up uses c ≡ true
looks_up-from uses c u used look_up =
    ap (λ (o : Option AliasUse). option_map_or (λ (u : AliasUse). is_column c.column u.access.look_up) o false) used
    ∙ ap (is_column c.column) look_up ∙ is_column-same c.column

-- each alias of a side is another one and is marked
abbrev pub IsGiven : (ℕ → Bool) → ℕ → Side → Type 0
IsGiven set' alias other = (a : ℕ) → Contains (side_aliases other) a → (a ≢ alias) × (set' a ≡ true)

one_held : (x a : ℕ) → Contains (x ∷ []) a → a ≡ x
one_held x a (zero, low, is) = sym is
one_held x a (suc k, low, is) = absurd (omega (arith, low))

none_held : (a : ℕ) → Contains [] a → ⊥
none_held a (k, low, is) = omega (arith, low)

gives-given : (marks : List Bool) (alias : ℕ) (other : Side) → gives marks alias other ≡ true → IsGiven (has marks) alias other
gives-given marks alias side.Null h a held = absurd (none_held a held)
gives-given marks alias (side.Text t) h a held = absurd (none_held a held)
gives-given marks alias (side.Column c) h a held =
    let both = and_parts (not (c.alias == alias)) (has marks c.alias) h in
    let same = one_held c.alias a held in
    (differs (eqb_tells c.alias alias) (not-true (c.alias == alias) both.0) a same, ap (has marks) same ∙ both.1)
  where
    differs : (((c.alias == alias) ≡ true) × (c.alias ≡ alias)) ⊎ (((c.alias == alias) ≡ false) × (c.alias ≢ alias))
        → (c.alias == alias) ≡ false → (a : ℕ) → a ≡ c.alias → a ≢ alias
    differs (inl e) f a same = absurd (false≢true (sym f ∙ e.0))
    differs (inr e) f a same = λ is. e.1 (sym same ∙ is)
gives-given marks alias (side.Sum []) h a held = absurd (false≢true h)
gives-given marks alias (side.Sum (t ∷ (u ∷ more))) h a held = absurd (false≢true h)
gives-given marks alias (side.Sum (t ∷ [])) h a held = by t.column h held
  where
    by : (o : Option ColumnOf) → is_none o ≡ true → Contains (term_aliases o ++ []) a → (a ≢ alias) × (has marks a ≡ true)
    by None f held = absurd (none_held a held)
    by (Some c) f held = absurd (false≢true f)

gives-plain : (marks : List Bool) (alias : ℕ) (other : Side) → gives marks alias other ≡ true → is_plain other ≡ true
gives-plain marks alias side.Null h = refl
gives-plain marks alias (side.Text t) h = refl
gives-plain marks alias (side.Column c) h = refl
gives-plain marks alias (side.Sum terms) h = h

pub gives-from : (marks : List Bool) (alias : ℕ) (other : Side) → is_plain other ≡ true → IsGiven (has marks) alias other → gives marks alias other ≡ true
gives-from marks alias side.Null plain given = refl
gives-from marks alias (side.Text t) plain given = refl
gives-from marks alias (side.Column c) plain given = by (eqb_tells c.alias alias) (given c.alias (0, omega arith, refl))
  where
    by : (((c.alias == alias) ≡ true) × (c.alias ≡ alias)) ⊎ (((c.alias == alias) ≡ false) × (c.alias ≢ alias))
        → (c.alias ≢ alias) × (has marks c.alias ≡ true) → gives marks alias (side.Column c) ≡ true
    by (inl e) g = absurd (g.0 e.1)
    by (inr e) g = rw (e.0, g.1) refl
gives-from marks alias (side.Sum terms) plain given = plain

-- ---- each mark stands in each closed set

abbrev Within : List Bool → (ℕ → Bool) → Type 0
Within marks set' = (a : ℕ) → has marks a ≡ true → set' a ≡ true

module _ (block : Block) (set' : ℕ → Bool) (closed : IsClosed block set') where
  led_by : (p : ℕ) (c : Conjunct) → slice_get block.conjuncts p ≡ Some c → (own : ColumnOf) (other : Side) → Compares c own cmp.Eq other
      → (marks : List Bool) → Within marks set' → leads block.aliases marks own other ≡ true → set' own.alias ≡ true
  led_by p c at own other compares marks within h =
      let both = and_parts (looks_up block.aliases own) (gives marks own.alias other) h in
      let up = looks_up-true block.aliases own both.0 in
      let given = gives-given marks own.alias other both.1 in
      closed.led own.alias (record {
        u = up.u;
        used = up.used;
        p = p;
        conjunct = c;
        at = at;
        own = own;
        other = other;
        compares = compares;
        of = refl;
        look_up = up.look_up;
        plain = gives-plain marks own.alias other both.1;
        led = λ a held. (let g = given a held in (g.0, within a g.1));
      })

  column_within : (p : ℕ) (c : Conjunct) → slice_get block.conjuncts p ≡ Some c → (own : ColumnOf) (other : Side) → Compares c own cmp.Eq other
      → (marks : List Bool) → Within marks set' → Within (with_column block.aliases own other marks) set'
  column_within p c at own other compares marks within = by (leads block.aliases marks own other) refl
    where
      by : (b : Bool) → leads block.aliases marks own other ≡ b → Within (if b then set marks own.alias true else marks) set'
      by false e a h = within a h
      by true e a h = each (has-set marks own.alias a h)
        where
          each : (a ≡ own.alias) ⊎ (has marks a ≡ true) → set' a ≡ true
          each (inl is) = ap set' is ∙ led_by p c at own other compares marks within e
          each (inr h) = within a h

  own_within : (p : ℕ) (c : Conjunct) → slice_get block.conjuncts p ≡ Some c → (x other : Side)
      → (c.cond ≡ Compare x cmp.Eq other) ⊎ (c.cond ≡ Compare other cmp.Eq x)
      → (marks : List Bool) → Within marks set' → Within (with_own block.aliases x other marks) set'
  own_within p c at side.Null other is marks within = within
  own_within p c at (side.Text t) other is marks within = within
  own_within p c at (side.Column own) other is marks within = column_within p c at own other (record { is = is }) marks within
  own_within p c at (side.Sum terms) other is marks within = within

  cond_within : (p : ℕ) (c : Conjunct) → slice_get block.conjuncts p ≡ Some c → (marks : List Bool) → Within marks set'
      → Within (with_cond block.aliases c.cond marks) set'
  unfolding with_cond
  cond_within p c at marks within = by (out-Cond c.cond) refl
    where
      compared : (x y : Side) (how : Cmp) → c.cond ≡ Compare x how y → Within (with_compared block.aliases x how y marks) set'
      compared x y cmp.Eq is = own_within p c at y x (inr is) (with_own block.aliases x y marks) (own_within p c at x y (inl is) marks within)
      compared x y cmp.Ne is = within
      compared x y cmp.Lt is = within
      compared x y cmp.Le is = within
      compared x y cmp.Gt is = within
      compared x y cmp.Ge is = within

      by : (l : Cond-F Cond) → out-Cond c.cond ≡ l → Within (with_level block.aliases l marks) set'
      by (level.Compare x how y) is = compared x y how (from_out c.cond x how y is)
      by (level.IsNull x) is = within
      by (level.Call number x y) is = within
      by (level.Not part) is = within
      by (level.All parts) is = within
      by (level.Any parts) is = within
      by (level.Is part named) is = within

  spread_within : (front : ℕ) (cs : List Conjunct) → ((p : ℕ) (c : Conjunct) → slice_get cs p ≡ Some c → slice_get block.conjuncts (front + p) ≡ Some c)
      → (marks : List Bool) → Within marks set' → Within (spread block.aliases cs marks) set'
  unfolding spread
  spread_within front [] at marks within = within
  spread_within front (c ∷ cs) at marks within =
      spread_within (front + 1) cs (λ p d is. ap (slice_get block.conjuncts) (omega arith) ∙ at (suc p) d is)
      (with_cond block.aliases c.cond marks) (cond_within (front + 0) c (at 0 c refl) marks within)

  rounds_within : (n : ℕ) (marks : List Bool) → Within marks set' → Within (rounds block.aliases block.conjuncts n marks) set'
  unfolding rounds
  rounds_within zero marks within = within
  rounds_within (suc n) marks within =
      spread_within 0 block.conjuncts (λ p c is. ap (slice_get block.conjuncts) (omega arith) ∙ is) (rounds block.aliases block.conjuncts n marks)
      (rounds_within n marks within)

has-scanned : (uses : List AliasUse) (a : ℕ) → has (map is_scanned uses) a ≡ true → (u : AliasUse) × (slice_get uses a ≡ Some u) × (u.access.scan ≡ true)
has-scanned [] a h = absurd (false≢true h)
has-scanned (u ∷ uses) zero h = (u, refl, h)
has-scanned (u ∷ uses) (suc a) h = has-scanned uses a h

-- a marked alias stands in each closed set
pub reached_within : (block : Block) (set' : ℕ → Bool) → IsClosed block set' → (a : ℕ) → has (reached block.aliases block.conjuncts) a ≡ true → set' a ≡ true
reached_within block set' closed =
    rounds_within block set' closed (length block.aliases) (map is_scanned block.aliases)
    (λ a h. (let held = has-scanned block.aliases a h in closed.scanned a held.0 held.1 held.2))
