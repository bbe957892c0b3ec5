use Rattle.std.proofs.Common.{◌≡◌, drop}
use Rattle.route_policy.specs.Script.{script_choice}
use Rattle.route_policy.proofs.script.follow.Given as goal

abbrev pub invariant-loop-word : goal.invariant-loop-word
invariant-loop-word l = script_choice l.words l.legal ≡ script_choice (drop l.word-index l.words) l.legal
