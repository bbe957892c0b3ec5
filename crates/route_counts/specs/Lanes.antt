-- The lane of a route: a number below 2376, which tells the route.
use Rattle.std.specs.Prelude.{ℕ, ◌+◌, ◌*◌, ◌<◌, ⊤}
use Rattle.tuple_span.specs.declared.route.Route.{Route}
use Rattle.tuple_span.specs.declared.route.Route.TheVariants.{Select, Build, Probe}
use Rattle.tuple_span.specs.declared.route.Via.{Via}
use Rattle.route_counts.specs.declared.lane.Lane.{Lane}
use Rattle.route_counts.specs.declared.lane.Lane.TheVariants as lane
use Rattle.tuple_span.specs.declared.route.Via.TheVariants.{All, Equal, Literal, Range, Band}

-- whether the conjunct of a way to probe is below 48
abbrev pub IsVia : Via → Type 0
IsVia All = ⊤
IsVia (Equal conjunct) = conjunct < 48
IsVia (Literal conjunct) = conjunct < 48
IsVia (Range conjunct) = conjunct < 48
IsVia (Band conjunct) = conjunct < 48

-- the number of a way to probe among those of an alias: all entries, then 48 conjuncts of each kind
abbrev pub via_number : Via → ℕ
via_number All = 0
via_number (Equal conjunct) = 1 + conjunct
via_number (Literal conjunct) = 49 + conjunct
via_number (Range conjunct) = 97 + conjunct
via_number (Band conjunct) = 145 + conjunct

-- 48 selections, 12 builds, and 193 probes of each of 12 aliases
abbrev pub lane_of : Route → ℕ
lane_of (Select conjunct) = conjunct
lane_of (Build alias) = 48 + alias
lane_of (Probe alias via) = 60 + 193 * alias + via_number via

-- the number of a lane, by what it is
abbrev pub lane_number : Lane → ℕ
lane_number (lane.Select conjunct) = conjunct
lane_number (lane.Build alias) = 48 + alias
lane_number (lane.All alias) = 60 + 193 * alias
lane_number (lane.Equal alias conjunct) = 60 + 193 * alias + (1 + conjunct)
lane_number (lane.Literal alias conjunct) = 60 + 193 * alias + (49 + conjunct)
lane_number (lane.Range alias conjunct) = 60 + 193 * alias + (97 + conjunct)
lane_number (lane.Band alias conjunct) = 60 + 193 * alias + (145 + conjunct)
