-- For the proofs: what a block asks its remotes by.
use Rattle.std.specs.Prelude.{◌≡◌, ◌↔◌, ◌⊎◌, ℕ, ◌<◌, ◌==◌, List, [], ◌∷◌, length, Option, Some, None, is_none, option_and_then, slice_get, Contains, if◌then◌else◌}
use Rattle.std.specs.Option.{option_map}
use Rattle.sq_value.specs.declared.value.Cmp.TheVariants.{Eq}
use Rattle.sq_expr.specs.declared.cond.ColumnOf.{ColumnOf}
use Rattle.sq_expr.specs.declared.cond.Cond.{Cond}
use Rattle.sq_expr.specs.declared.cond.Cond.TheVariants.{Compare}
use Rattle.sq_expr.specs.declared.cond.Side.{Side}
use Rattle.sq_expr.specs.declared.cond.Side.TheVariants as side
use Rattle.sq_expr.specs.declared.cond.Term.{Term}
use Rattle.sq_expr.specs.declared.block.AliasUse.{AliasUse}
use Rattle.sq_expr.specs.declared.block.Block.{Block}
use Rattle.sq_expr.specs.declared.block.Conjunct.{Conjunct}
use Rattle.remote_lookup.specs.Filled.{remote_of}
use Rattle.remote_lookup.specs.declared.asks.Ask.{Ask}
use Rattle.remote_lookup.specs.declared.asks.By.{By}
use Rattle.remote_lookup.specs.declared.asks.By.TheVariants as by
use Rattle.remote_lookup.specs.declared.remote.Remote.{Remote}

-- the remote whose look-up column this is
abbrev pub remote_by : Block → List Remote → ColumnOf → Option ℕ
remote_by block remotes own =
    option_and_then (λ (u : AliasUse). option_and_then (λ (remote : ℕ). option_and_then (λ (r : Remote).
    if r.column == own.column then Some remote else None)
    (slice_get remotes remote)) (remote_of remotes u.table)) (slice_get block.aliases own.alias)

-- what terms name keys by: one literal
abbrev pub literal_of : List Term → Option By
literal_of [] = None
literal_of (t ∷ []) = if is_none t.column then Some (by.Literal t.factor) else None
literal_of (t ∷ (u ∷ more)) = None

-- what a side names keys by beside a column of an alias: a literal, or a column of another alias
abbrev pub by_of : Side → ℕ → Option By
by_of side.Null alias = None
by_of (side.Text t) alias = None
by_of (side.Column c) alias = if c.alias == alias then None else Some (by.Column c)
by_of (side.Sum terms) alias = literal_of terms

abbrev pub asked_at : Option ℕ → Option By → Option Ask
asked_at remote way = option_and_then (λ (w : By). option_map (λ (r : ℕ). record { remote = r; by = w }) remote) way

-- how the equality of two sides asks a remote, where the first is a look-up column
abbrev pub ask_by : Block → List Remote → Side → Side → Option Ask
ask_by block remotes side.Null other = None
ask_by block remotes (side.Text t) other = None
ask_by block remotes (side.Column own) other = asked_at (remote_by block remotes own) (by_of other own.alias)
ask_by block remotes (side.Sum terms) other = None

-- a condition asks so: it is an equality, either way round
abbrev pub IsAskIn : Block → List Remote → Cond → Ask → Type 0
IsAskIn block remotes cond ask =
    (x : Side) × (y : Side) × (cond ≡ Compare x Eq y)
    × ((ask_by block remotes x y ≡ Some ask) ⊎ (ask_by block remotes y x ≡ Some ask))

-- what the first conjuncts of a block ask
abbrev pub AreAsksBelow : Block → List Remote → ℕ → List Ask → Type 0
AreAsksBelow block remotes end asks =
    (ask : Ask) → (Contains asks ask
    ↔ ((p : ℕ) × (p < end) × ((c : Conjunct) × (slice_get block.conjuncts p ≡ Some c)
    × IsAskIn block remotes c.cond ask)))

-- what all ask
abbrev pub AreAsks : Block → List Remote → List Ask → Type 0
AreAsks block remotes asks = AreAsksBelow block remotes (length block.conjuncts) asks
