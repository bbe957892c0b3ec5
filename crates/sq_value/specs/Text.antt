-- Serves proofs: what a text is kept as.
use Rattle.std.specs.Prelude.{ℕ, List}
use Rattle.std.specs.String.{string_bytes}
use Rattle.sq_value.specs.declared.text.Kept.{Kept}
use Rattle.sq_value.specs.declared.text.Kept.TheVariants as kept

-- the bytes of a text that is kept so
abbrev pub kept_bytes : Kept → List ℕ
kept_bytes (kept.Short text) = text.bytes
kept_bytes (kept.Long text) = string_bytes text
