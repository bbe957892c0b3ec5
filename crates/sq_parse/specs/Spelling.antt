-- Which scripts a text spells: its tokens are those of the script by the grammar.
use Rattle.std.specs.Prelude.{◌≡◌, ◌≤◌, ℕ, true, List, length}
use Rattle.sq_parse.specs.declared.tree.Script.{Script}
use Rattle.sq_token.specs.Form.{Text}
use Rattle.sq_token.specs.Tok.{Tok, toks}
use Rattle.sq_parse.specs.Grammar as g
use Rattle.sq_parse.specs.Grammar.{Limits, shipped}

-- the tokens of a text spell a script, within the limits: numbers, 64 open parentheses and NOTs, 64 statements
abbrev pub Spelled : Text → Script → Type 0
Spelled z s = g.script shipped 64 (toks 0 z) s × (length s.statements ≤ 64)

-- without the limits
abbrev pub unlimited : Limits
unlimited = record { narrow = λ n. true; wide = λ n. true }

abbrev pub Spells : List Tok → Script → Type 0
Spells ts s = (d : ℕ) × g.script unlimited d ts s

-- a list of tokens has at most one tree, whatever the limits
abbrev pub OneTree : Type 0
OneTree = (ts : List Tok) (x y : Script) → Spells ts x → Spells ts y → x ≡ y
