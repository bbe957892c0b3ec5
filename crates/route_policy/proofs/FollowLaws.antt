-- The word that decides.
use Rattle.std.proofs.Common.{◌≡◌, ℕ, ◌+◌, ◌<◌, true, false, List, ◌∷◌, length, get_or, drop, Option, None, Some, arith, sym, ◌∙◌, ap}
use Rattle.std.proofs.lemmas.Bool.{cond-true, cond-false}
use Rattle.std.proofs.lemmas.List.{at_drop_more}
use Rattle.std.proofs.lemmas.List.Sums.{fails_before_first, position_or_len_is}
use Rattle.std.proofs.lemmas.List.Folds.{list_any_at, list_any_none}
use Rattle.std.proofs.lemmas.List.Elements.{All-from_get_or}
use Rattle.std.proofs.lemmas.List.Quantifiers.{position-Some}
use Rattle.std.specs.List.{position, position_or_len, list_any}
use Rattle.std.specs.Option.{option_map_or}
use Rattle.tuple_span.specs.declared.route.Route.{Route}
use Rattle.route_policy.specs.declared.word.RouteWord.{RouteWord}
use Rattle.route_policy.specs.declared.word.RouteWord.TheVariants as word
use Rattle.route_policy.specs.Routes.{first_candidate}
use Rattle.route_policy.specs.Script.{is_wanted, script_choice}
use Rattle.route_policy.proofs.BestLaws.{no_route}
use Rattle.route_policy.proofs.PieceLaws.{position-None}

-- the place that a word that was found decides for
abbrev pub decided : List Route → Option RouteWord → ℕ
decided legal found = option_map_or (λ word. position_or_len (is_wanted word) legal) found (first_candidate legal)

-- the first word decides where it matches a route
pub script_choice-here : (word : RouteWord) (words : List RouteWord) (legal : List Route) (place : ℕ)
    → position (is_wanted word) legal ≡ Some place → place ≡ script_choice (word ∷ words) legal
script_choice-here word words legal place found =
    let facts = position-Some (is_wanted word) legal place no_route found in
    let matches : list_any (is_wanted word) legal ≡ true = list_any_at (is_wanted word) legal place no_route facts.0 facts.1 in
    let first : position_or_len (is_wanted word) legal ≡ place =
    position_or_len_is (is_wanted word) legal place no_route (omega (arith, facts.0)) facts.2 (λ _. facts.1) in
    sym (ap (decided legal) (cond-true (list_any (is_wanted word) legal) _ _ matches) ∙ first)

-- and else the others do
pub script_choice-later : (word : RouteWord) (words : List RouteWord) (legal : List Route) → position (is_wanted word) legal ≡ None
    → script_choice (word ∷ words) legal ≡ script_choice words legal
script_choice-later word words legal none =
    let no_match : list_any (is_wanted word) legal ≡ false =
    list_any_none (is_wanted word) legal
    (All-from_get_or (λ route. is_wanted word route ≡ false) legal no_route
    (λ k h. fails_before_first (is_wanted word) legal k no_route (omega (arith, h, position-None (is_wanted word) legal none)))) in
    ap (decided legal) (cond-false (list_any (is_wanted word) legal) _ _ no_match)

-- one word further
pub follow_more : (words : List RouteWord) (legal : List Route) (i : ℕ) → i < length words
    → position (is_wanted (get_or words i word.Build)) legal ≡ None → script_choice words legal ≡ script_choice (drop i words) legal
    → script_choice words legal ≡ script_choice (drop (i + 1) words) legal
follow_more words legal i in_list none so_far =
    so_far
    ∙ at_drop_more (λ rest. script_choice rest legal) words i word.Build in_list
    ∙ script_choice-later (get_or words i word.Build) (drop (i + 1) words) legal none

-- here a word decides
pub follow_here : (words : List RouteWord) (legal : List Route) (i place : ℕ) → i < length words
    → position (is_wanted (get_or words i word.Build)) legal ≡ Some place → script_choice words legal ≡ script_choice (drop i words) legal
    → place ≡ script_choice words legal
follow_here words legal i place in_list found so_far =
    script_choice-here (get_or words i word.Build) (drop (i + 1) words) legal place found
    ∙ sym (so_far ∙ at_drop_more (λ rest. script_choice rest legal) words i word.Build in_list)
