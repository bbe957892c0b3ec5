-- Serves proofs: aliases and what may be sorted by as definitions see them, the places of conjuncts, and whether a list
-- has none, one or more.
use Rattle.std.specs.Prelude.{ℕ, Bool, if◌then◌else◌, List, [], ◌∷◌, map, Result, Ok, Err}
use Rattle.sq_bind.specs.Visible as spec
use Rattle.sq_bind.specs.declared.visible.SeenAlias.{SeenAlias}
use Rattle.sq_bind.specs.declared.visible.Resolved.{Resolved}
use Rattle.sq_bind.specs.declared.visible.Found.{Found}
use Rattle.sq_bind.specs.declared.visible.Found.TheVariants.{None, One, More}
use Rattle.sq_bind.specs.declared.conjunct.Placed.{Placed}
use Rattle.sq_bind.specs.declared.order.Sortable.{Sortable}
use Rattle.sq_bind.specs.Statement.{Sorting}
use Rattle.sq_bind.specs.declared.fault.BindFault.{BindFault}
use Rattle.sq_bind.specs.declared.fault.BindFault.TheVariants.{UnknownColumn, AmbiguousColumn}

-- an alias: its number, its name and its table's columns
abbrev pub seen : SeenAlias → spec.Alias
seen a = record { number = a.number; name = a.name.now; columns = a.table.now.columns }

-- what ORDER BY may sort by
abbrev pub sorting : Sortable → Sorting
sorting by = record { distinct = by.distinct; grouped = by.grouped; keys = by.keys.now; cells = by.cells.now }

-- the places of conjuncts
abbrev pub places_in : List Placed → List ℕ
places_in placed = map (λ (p : Placed). p.at) placed

-- those of a BETWEEN at a place: two, and one where it is denied
abbrev pub between_places : ℕ → Bool → List ℕ
between_places at denied = if denied then at ∷ [] else at ∷ at ∷ []

-- whether some columns are none, one or more
abbrev pub tally : List Resolved → Found
tally [] = None
tally (m ∷ []) = One m
tally (m ∷ (other ∷ more)) = More

-- the same of two lists, one behind the other
abbrev pub both : Found → Found → Found
both None y = y
both (One m) None = One m
both (One m) (One other) = More
both (One m) More = More
both More y = More

-- the only one
abbrev pub only_of : ℕ → Found → Result Resolved BindFault
only_of at None = Err (UnknownColumn at)
only_of at (One m) = Ok m
only_of at More = Err (AmbiguousColumn at)
