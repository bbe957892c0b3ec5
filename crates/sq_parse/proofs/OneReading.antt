-- Each text reads as one thing.
use Rattle.std.proofs.Common.{◌≡◌, Bool, true, false, Result, Ok, Err, refl, ap, sym, ◌∙◌}
use Rattle.std.specs.Str.{IsUtf8, is_utf8}
use Rattle.std.specs.Str.Lossy.{utf8_valid_len}
use Rattle.std.proofs.lemmas.Bool.{false≢true}
use Rattle.std.proofs.lemmas.Str.{IsUtf8-from_is_utf8, is_utf8-from_IsUtf8}
use Rattle.sq_parse.specs.declared.parser.ParseFault.{ParseFault}
use Rattle.sq_parse.specs.declared.parser.ParseFault.TheVariants as fault
use Rattle.sq_parse.specs.declared.tree.Script.{Script}
use Rattle.sq_token.specs.Form.{Text}
use Rattle.sq_parse.specs.Parse.{parsed}
use Rattle.sq_parse.specs.Fault.{ReadsAs, OneReading}
use Rattle.sq_parse.proofs.ParseLemmas.{spelled_by, parsed_by}
use Rattle.sq_parse.proofs.FirstFault.{fault_is, fault_only, not_utf8_is, not_utf8_only}

-- what reading a text of UTF-8 gives is what it reads as
reads_parsed : (z : Text) → IsUtf8 z → (r : Result Script ParseFault) → parsed z ≡ r → ReadsAs z r
reads_parsed z valid (Ok s) e = (valid, spelled_by z s e)
reads_parsed z valid (Err f) e = fault_is z valid f e

parsed_only : (z : Text) → IsUtf8 z → (r : Result Script ParseFault) → ReadsAs z r → r ≡ parsed z
parsed_only z valid (Ok s) h = sym (parsed_by z s h.1)
parsed_only z valid (Err f) h = sym (fault_only z valid f h)

-- any other text has its fault alone
invalid_only : (z : Text) → (IsUtf8 z → ⊥) → (r : Result Script ParseFault) → ReadsAs z r → r ≡ Err (fault.NotUtf8 (utf8_valid_len z))
invalid_only z invalid (Ok s) h = absurd (invalid h.0)
invalid_only z invalid (Err f) h = ap Err (not_utf8_only z invalid f h)

pub one_reading : OneReading
one_reading z = by (is_utf8 z) refl
  where
    by : (b : Bool) → is_utf8 z ≡ b → (r : Result Script ParseFault) × ReadsAs z r × ((other : Result Script ParseFault) → ReadsAs z other → other ≡ r)
    by true e =
        let valid = IsUtf8-from_is_utf8 z e in
        (parsed z, reads_parsed z valid (parsed z) refl, parsed_only z valid)
    by false e =
        let invalid = λ (u : IsUtf8 z). false≢true (sym e ∙ is_utf8-from_IsUtf8 z u) in
        (Err (fault.NotUtf8 (utf8_valid_len z)), not_utf8_is z invalid, invalid_only z invalid)

-- two readings of a text are one
pub same_reading : (z : Text) (x y : Result Script ParseFault) → ReadsAs z x → ReadsAs z y → x ≡ y
same_reading z x y h k = let r = one_reading z in r.2 x h ∙ sym (r.2 y k)
