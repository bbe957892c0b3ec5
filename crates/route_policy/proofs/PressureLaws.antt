-- Loads that are halved in place.
use Rattle.std.proofs.Common.{◌≡◌, ℕ, ◌+◌, ◌/◌, ◌<◌, List, ◌++◌, length, get_or, set, take, drop, arith, ap, length-append, length-drop}
use Rattle.std.proofs.lemmas.List.{get_or_default, length-map, length-take}
use Rattle.std.proofs.lemmas.List.Edits.{map_over_more}
use Rattle.route_policy.specs.Pressure.{halved}

-- one load more
pub halved_more : (loads now : List ℕ) (i : ℕ) → i < length loads → now ≡ halved (take i loads) ++ drop i loads
    → set now i (get_or now i 0 / 2) ≡ halved (take (i + 1) loads) ++ drop (i + 1) loads
halved_more loads now i in_list so_far =
    map_over_more (λ load. load / 2) loads now i (get_or now i 0) in_list so_far (get_or_default now i _ _ long)
  where
    long : i < length now
    long =
        omega
        (arith, ap length so_far, length-append (halved (take i loads)) (drop i loads), length-map (take i loads) (λ load. load / 2), length-take i loads, length-drop i loads)
