-- What one of the four policies means: what that policy does.
use Rattle.std.specs.Prelude.{ℕ, Bool, true, false, List}
use Rattle.tuple_span.specs.declared.route.Route.{Route}
use Rattle.route_policy.specs.declared.any_policy.AnyPolicy.{AnyPolicy}
use Rattle.route_policy.specs.declared.any_policy.AnyPolicy.TheVariants.{Lottery, Pressure, Script, Greedy}
use Rattle.route_policy.specs.Lottery.{lottery_choice, after_lottery_choice, after_lottery_return}
use Rattle.route_policy.specs.Pressure.{pressure_choice, after_pressure_choice, after_pressure_return}
use Rattle.route_policy.specs.Script.{script_choice, after_script_choice}
use Rattle.route_policy.specs.Greedy.{greedy_choice, after_greedy_choice, after_greedy_return, after_greedy_touch}

-- the choices made
abbrev pub asked_of : AnyPolicy → ℕ
asked_of (Lottery s) = s.asked
asked_of (Pressure s) = s.asked
asked_of (Script s) = s.asked
asked_of (Greedy s) = s.asked

-- the place of the route that it chooses
abbrev pub choice_of : AnyPolicy → List Route → ℕ
choice_of (Lottery s) legal = lottery_choice s legal
choice_of (Pressure s) legal = pressure_choice s.loads legal
choice_of (Script s) legal = script_choice s.words legal
choice_of (Greedy s) legal = greedy_choice s legal

-- the policy after a choice
abbrev pub after_choice : AnyPolicy → List Route → AnyPolicy
after_choice (Lottery s) legal = Lottery (after_lottery_choice s legal)
after_choice (Pressure s) legal = Pressure (after_pressure_choice s legal)
after_choice (Script s) legal = Script (after_script_choice s)
after_choice (Greedy s) legal = Greedy (after_greedy_choice s legal)

-- the policy once it is told how many tuples came of a route
abbrev pub after_return : AnyPolicy → Route → ℕ → AnyPolicy
after_return (Lottery s) route count = Lottery (after_lottery_return s route count)
after_return (Pressure s) route count = Pressure (after_pressure_return s route count)
after_return (Script s) route count = Script s
after_return (Greedy s) route count = Greedy (after_greedy_return s route count)

-- the policy once it is told that a row of an alias arrives
abbrev pub after_touch : AnyPolicy → ℕ → AnyPolicy
after_touch (Lottery s) alias = Lottery s
after_touch (Pressure s) alias = Pressure s
after_touch (Script s) alias = Script s
after_touch (Greedy s) alias = Greedy (after_greedy_touch s alias)

-- whether rows are claimed in the order of a survey: a script and back pressure fare worse by it
abbrev pub is_by_survey : AnyPolicy → Bool
is_by_survey (Lottery s) = true
is_by_survey (Pressure s) = false
is_by_survey (Script s) = false
is_by_survey (Greedy s) = true
