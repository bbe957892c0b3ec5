-- The texts of the other options: numbers, the policy, the route script.
use Rattle.std.specs.Prelude.{ℕ, Bool, false, ◌&&◌, ◌-◌, ◌^◌, nat_lt, nat_le, List, [], length, Option, Some, None, codes, if◌then◌else◌}
use Rattle.std.specs.List.{list_all}
use Rattle.std.specs.Char.{is_ascii_digit}
use Rattle.std.specs.Str.{bytes_eq}
use Rattle.std.specs.Str.Parse.{digits_value}
use Rattle.std.specs.Result.{is_ok}
use Rattle.route_policy.specs.ScriptReading.{script_of}
use Rattle.command_line.specs.declared.command.PolicyName.{PolicyName}
use Rattle.command_line.specs.declared.command.PolicyName.TheVariants.{Lottery, Pressure, Greedy, Script}

-- whether a text is 1 to 20 ASCII digits
abbrev pub is_number : List ℕ → Bool
is_number text = nat_lt 0 (length text) && nat_le (length text) 20 && list_all is_ascii_digit text

-- the number that a text is, where it stands between two others
abbrev pub number_between : ℕ → ℕ → List ℕ → Option ℕ
number_between least most text =
    if is_number text && nat_le least (digits_value 10 text) && nat_le (digits_value 10 text) most
    then Some (digits_value 10 text) else None

-- the same of an option that may not be given
abbrev pub number_or : ℕ → ℕ → ℕ → Option (List ℕ) → Option ℕ
number_or other least most None = Some other
number_or other least most (Some text) = number_between least most text

-- the number of workers, 1 to 16, and the seed, any of 64 bits
abbrev pub workers_of : Option (List ℕ) → Option ℕ
workers_of = number_or 1 1 16

abbrev pub seed_of : Option (List ℕ) → Option ℕ
seed_of = number_or 1 0 (2 ^ 64 - 1)

-- the room of a cache of predicates' answers, 0 to 4,096: 0, which is none, where it isn't given
abbrev pub cache_of : Option (List ℕ) → Option ℕ
cache_of = number_or 0 0 4096

-- the policy of this name
abbrev pub policy_named : List ℕ → Option PolicyName
policy_named text =
    if bytes_eq text (codes "lottery") then Some Lottery
    else if bytes_eq text (codes "pressure") then Some Pressure
    else if bytes_eq text (codes "greedy") then Some Greedy
    else if bytes_eq text (codes "script") then Some Script
    else None

-- the policy of an option that may not be given
abbrev pub policy_of : Option (List ℕ) → Option PolicyName
policy_of None = Some Lottery
policy_of (Some text) = policy_named text

-- the route script's text, which has no words where it isn't given
abbrev pub route_of : Option (List ℕ) → Option (List ℕ)
route_of None = Some []
route_of (Some text) = if is_ok (script_of text) then Some text else None

-- whether a flag is given: clap then finds the text `true`
abbrev pub is_flag_given : Option (List ℕ) → Bool
is_flag_given None = false
is_flag_given (Some text) = bytes_eq text (codes "true")
