use Rattle.std.proofs.Common.{◌≡◌, ◌++◌, length, false}
use Rattle.std.specs.String.{string_bytes}
use denote.Shadow.{shadow}
use denote.Text.{Utf8}
use Rattle.sq_token.specs.Quoted.{undoubled}
use Rattle.sq_token.proofs.quoted.undoubled.Given as goal

abbrev pub invariant-loop-end : goal.invariant-loop-end
invariant-loop-end l = shadow (Utf8 l.rest) × (string_bytes l.plain ++ undoubled l.quote false l.rest ≡ undoubled l.quote false l.text)

abbrev pub decreases-loop-end : goal.decreases-loop-end
decreases-loop-end l = length l.rest
