-- Reading is the text turned back.
use Rattle.std.specs.Prelude.{◌≡◌, ℕ, ◌≤◌, List, length, Ok, All}
use Rattle.route_policy.specs.declared.word.RouteWord.{RouteWord}
use Rattle.route_policy.specs.Script.{ScriptState, fresh_script, IsWord, script_text}
use Rattle.route_policy.specs.ScriptReading.{script_of}

-- at most 64 words, each with its numbers in range
pub record AreWords (words : List RouteWord) : Type 0 where
  pub few : length words ≤ 64
  pub each : All IsWord words

-- a text is read as a script exactly where it is the text of at most 64 words, and then as these words
pub record ScriptLaw : Type 0 where
  pub written : (words : List RouteWord) → AreWords words → script_of (script_text words) ≡ Ok (fresh_script words)
  pub read : (text : List ℕ) (s : ScriptState) → script_of text ≡ Ok s → (script_text s.words ≡ text) × AreWords s.words
