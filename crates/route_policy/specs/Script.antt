-- Route scripts: words that say which routes to take first. Their text is words with a comma between each two.
use Rattle.std.specs.Prelude.{ℕ, ◌+◌, ◌/◌, ◌%◌, ◌<◌, nat_lt, Bool, true, false, ◌==◌, ◌&&◌, List, [], ◌∷◌, map, find, if◌then◌else◌}
use Rattle.std.specs.List.{list_any, position_or_len, join_with_byte}
use Rattle.std.specs.Option.{option_map_or}
use Rattle.tuple_span.specs.declared.route.Via.{Via}
use Rattle.tuple_span.specs.declared.route.Via.TheVariants as via
use Rattle.tuple_span.specs.declared.route.Route.{Route}
use Rattle.tuple_span.specs.declared.route.Route.TheVariants as route
use Rattle.route_policy.specs.declared.word.RouteWord.{RouteWord}
use Rattle.route_policy.specs.declared.word.RouteWord.TheVariants as word
use Rattle.route_policy.specs.Counts.{counted_up}
use Rattle.route_policy.specs.Routes.{first_candidate}

-- a script: its words, and the choices made
pub record ScriptState : Type 0 where
  pub words : List RouteWord
  pub asked : ℕ

-- a script of these words before its first choice
abbrev pub fresh_script : List RouteWord → ScriptState
fresh_script words = record { words = words; asked = 0 }

-- whether a probe goes by this conjunct alone
abbrev pub goes_by : ℕ → Via → Bool
goes_by conjunct (via.Equal p) = conjunct == p
goes_by conjunct (via.Literal p) = conjunct == p
goes_by conjunct (via.Range p) = conjunct == p
goes_by conjunct (via.Band p) = false
goes_by conjunct via.All = false

-- whether a probe goes by a band that begins with this conjunct
abbrev pub goes_by_band : ℕ → Via → Bool
goes_by_band conjunct (via.Equal p) = false
goes_by_band conjunct (via.Literal p) = false
goes_by_band conjunct (via.Range p) = false
goes_by_band conjunct (via.Band p) = conjunct == p
goes_by_band conjunct via.All = false

-- whether a probe goes by no conjunct
abbrev pub goes_by_none : Via → Bool
goes_by_none (via.Equal p) = false
goes_by_none (via.Literal p) = false
goes_by_none (via.Range p) = false
goes_by_none (via.Band p) = false
goes_by_none via.All = true

-- whether a route builds
abbrev pub is_build : Route → Bool
is_build (route.Select p) = false
is_build (route.Build alias) = true
is_build (route.Probe alias by) = false

-- whether a route is the selection by this conjunct
abbrev pub is_selection : ℕ → Route → Bool
is_selection conjunct (route.Select p) = conjunct == p
is_selection conjunct (route.Build alias) = false
is_selection conjunct (route.Probe alias by) = false

-- whether a route is the probe of all entries of this alias
abbrev pub is_probe_of_all : ℕ → Route → Bool
is_probe_of_all alias (route.Select p) = false
is_probe_of_all alias (route.Build other) = false
is_probe_of_all alias (route.Probe other by) = (alias == other) && goes_by_none by

-- whether a route is a probe by this conjunct alone
abbrev pub is_probe_by : ℕ → Route → Bool
is_probe_by conjunct (route.Select p) = false
is_probe_by conjunct (route.Build alias) = false
is_probe_by conjunct (route.Probe alias by) = goes_by conjunct by

-- whether a route is a probe by a band that begins with this conjunct
abbrev pub is_probe_by_band : ℕ → Route → Bool
is_probe_by_band conjunct (route.Select p) = false
is_probe_by_band conjunct (route.Build alias) = false
is_probe_by_band conjunct (route.Probe alias by) = goes_by_band conjunct by

-- whether a word matches a route
abbrev pub is_wanted : RouteWord → Route → Bool
is_wanted word.Build = is_build
is_wanted (word.Select conjunct) = is_selection conjunct
is_wanted (word.All alias) = is_probe_of_all alias
is_wanted (word.By conjunct) = is_probe_by conjunct
is_wanted (word.Band conjunct) = is_probe_by_band conjunct

-- the place of the first route that the first word with a match matches, or of the first candidate where no word
-- matches
abbrev pub script_choice : List RouteWord → List Route → ℕ
script_choice words legal =
    option_map_or
    (λ word. position_or_len (is_wanted word) legal)
    (find (λ word. list_any (is_wanted word) legal) words)
    (first_candidate legal)

-- the script after a choice
abbrev pub after_script_choice : ScriptState → ScriptState
after_script_choice s = record s { asked = counted_up s.asked }

-- the conjuncts are among 48, and the aliases among 12
abbrev pub IsWord : RouteWord → Type 0
IsWord word.Build = Unit {0}
IsWord (word.Select conjunct) = conjunct < 48
IsWord (word.All alias) = alias < 12
IsWord (word.By conjunct) = conjunct < 48
IsWord (word.Band conjunct) = conjunct < 48

-- a number below 100 in decimal digits, without a leading zero
abbrev pub numeral : ℕ → List ℕ
numeral n = if nat_lt n 10 then (48 + n) ∷ [] else (48 + n / 10) ∷ (48 + n % 10) ∷ []

-- the text of a word: `b`, or `s`, `a`, `v` or `w` and a number
abbrev pub word_text : RouteWord → List ℕ
word_text word.Build = 98 ∷ []
word_text (word.Select conjunct) = 115 ∷ numeral conjunct
word_text (word.All alias) = 97 ∷ numeral alias
word_text (word.By conjunct) = 118 ∷ numeral conjunct
word_text (word.Band conjunct) = 119 ∷ numeral conjunct

-- the text of a script
abbrev pub script_text : List RouteWord → List ℕ
script_text words = join_with_byte 44 (map word_text words)
