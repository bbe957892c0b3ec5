-- The three truth values of SQL-92: AND is the lesser and OR the greater under False, Unknown, True.
use Rattle.std.specs.Prelude.{Bool, true, false}
use Rattle.sq_value.specs.declared.value.Truth.{Truth}
use Rattle.sq_value.specs.declared.value.Truth.TheVariants.{False, Unknown, True}

-- x AND y
abbrev pub conjoined : Truth → Truth → Truth
conjoined False y = False
conjoined Unknown False = False
conjoined Unknown Unknown = Unknown
conjoined Unknown True = Unknown
conjoined True y = y

-- x OR y
abbrev pub disjoined : Truth → Truth → Truth
disjoined False y = y
disjoined Unknown False = Unknown
disjoined Unknown Unknown = Unknown
disjoined Unknown True = True
disjoined True y = True

-- NOT x
abbrev pub negated : Truth → Truth
negated False = True
negated Unknown = Unknown
negated True = False

-- whether a truth is the named one
abbrev pub is_truth : Truth → Truth → Bool
is_truth False False = true
is_truth False Unknown = false
is_truth False True = false
is_truth Unknown False = false
is_truth Unknown Unknown = true
is_truth Unknown True = false
is_truth True False = false
is_truth True Unknown = false
is_truth True True = true
