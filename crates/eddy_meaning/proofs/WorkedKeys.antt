-- One number at several scales has one key, a text has another, and a null has none.
use Rattle.std.proofs.Common.{◌≡◌, true, false, refl, pos}
use Rattle.std.specs.Prelude.{codes}
use Rattle.sq_value.specs.Rank.{Rank, Number}
use Rattle.sq_value.specs.declared.value.Value.TheVariants as value
use Rattle.eddy_meaning.specs.Keys.{has_key}

abbrev one : Rank
one = Number (pos 1000000)

of_integer : has_key one (value.Int (pos 1)) ≡ true
of_integer = refl

of_tenths : has_key one (value.Decimal record { units = pos 10; scale = 1 }) ≡ true
of_tenths = refl

of_hundredths : has_key one (value.Decimal record { units = pos 100; scale = 2 }) ≡ true
of_hundredths = refl

not_of_another : has_key one (value.Decimal record { units = pos 100; scale = 1 }) ≡ false
not_of_another = refl

not_of_a_text : has_key one (value.Text (codes "1")) ≡ false
not_of_a_text = refl

not_of_null : has_key one value.Null ≡ false
not_of_null = refl
