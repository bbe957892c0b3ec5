use Rattle.std.proofs.Common.{◌≡◌, ◌+◌, ◌*◌, ◌≤◌, ◌++◌, length, map, sum_by, All}
use Rattle.std.specs.Option.{option_copied, option_map_or}
use Rattle.route_policy.specs.Script.{IsWord, word_text}
use Rattle.route_policy.specs.ScriptReading.{text_pieces, pieces_left}
use Rattle.route_policy.proofs.script.RouteScript.read.Given as goal

abbrev pub invariant-loop-rest : goal.invariant-loop-rest
invariant-loop-rest l = record {
  pieces : text_pieces l.text ≡ map word_text l.words.items ++ pieces_left (option_copied l.rest);
  known : All IsWord l.words.items;
  start : l.at ≡ sum_by (λ word. length (word_text word) + 1) l.words.items;
  few : l.at ≤ 4 * length l.words.items;
  room : length l.words.items ≤ 64;
}

abbrev pub decreases-loop-rest : goal.decreases-loop-rest
decreases-loop-rest l = option_map_or (λ bytes. length bytes + 1) (option_copied l.rest) 0
