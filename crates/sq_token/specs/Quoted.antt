-- What a quoted token writes: the text between its quotes, in which a quote is doubled.
use Rattle.std.specs.Prelude.{ℕ, ◌-◌, Bool, true, false, if◌then◌else◌, ◌==◌, [], ◌∷◌, length, take, drop}
use Rattle.sq_token.specs.Form.{Text}

-- one quote for each two; the flag says that a quote stands directly before
abbrev pub undoubled : ℕ → Bool → Text → Text
undoubled quote is_second [] = []
undoubled quote false (b ∷ z) = b ∷ undoubled quote (b == quote) z
undoubled quote true (b ∷ z) = if b == quote then undoubled quote false z else b ∷ undoubled quote false z

-- what stands between the first byte and the last
abbrev pub inside : Text → Text
inside z = take (length z - 2) (drop 1 z)

-- the content of a delimited name, and of a text
unfoldable pub name_within : Text → Text
name_within z = undoubled 34 false (inside z)

unfoldable pub text_within : Text → Text
text_within z = undoubled 39 false (inside z)
