-- What the operands of a condition stand for, and their faults.
use Rattle.std.specs.Prelude.{ℕ, Bool, true, false, ◌&&◌, ◌==◌, if◌then◌else◌, List, [], ◌∷◌, ◌++◌, map, Option, Some, None, Result, Ok, Err, unwrap_or, slice_get, ℤ, pos, negsuc, neg_ℤ}
use Rattle.std.specs.Ordering.{int_eq}
use Rattle.std.specs.List.{flat_map, list_any}
use Rattle.std.specs.Option.{option_map}
use Rattle.sq_value.specs.declared.value.Value.TheVariants as value
use Rattle.sq_value.specs.declared.value.ColType.{ColType}
use Rattle.sq_value.specs.declared.value.ColType.TheVariants as kind
use Rattle.sq_parse.specs.Tree.{column_place}
use Rattle.sq_parse.specs.declared.tree.ColRef.{ColRef}
use Rattle.sq_parse.specs.declared.tree.RawTerm.{RawTerm}
use Rattle.sq_parse.specs.declared.tree.Operand.{Operand}
use Rattle.sq_parse.specs.declared.tree.Operand.TheVariants as o
use Rattle.sq_expr.specs.Fits.{Class, Numbers, Texts, class_of}
use Rattle.sq_expr.specs.declared.cond.ColumnOf.{ColumnOf}
use Rattle.sq_expr.specs.declared.cond.Term.{Term}
use Rattle.sq_expr.specs.declared.cond.Side.{Side}
use Rattle.sq_expr.specs.declared.cond.Side.TheVariants as side
use Rattle.sq_expr.specs.declared.cond.Arg.{Arg}
use Rattle.sq_expr.specs.declared.cond.Arg.TheVariants as arg
use Rattle.sq_bind.specs.Visible.{Alias, meant}
use Rattle.sq_bind.specs.declared.visible.Resolved.{Resolved}
use Rattle.sq_bind.specs.declared.fault.BindFault.{BindFault}
use Rattle.sq_bind.specs.declared.fault.BindFault.TheVariants.{TypeMismatch, TooManyTerms}

-- ---- a column alone

-- the column of a term without a factor
abbrev pub bare : Option ℤ → Option ColRef → Option ColRef
bare None column = column
bare (Some number) column = None

-- the column of a sum that is one column without a sign or a factor; a sum with a sign begins before its first term
abbrev pub alone : ℕ → List RawTerm → Option ColRef
alone at [] = None
alone at (t ∷ []) = if at == t.at then bare t.number t.column else None
alone at (t ∷ (u ∷ more)) = None

-- ---- faults

abbrev pub is_text : ColType → Bool
is_text kind.Integer = false
is_text kind.Text = true
is_text (kind.Decimal scale) = false

-- the fault of a column, where it has one
abbrev pub column_faults : Result Resolved BindFault → List BindFault
column_faults (Ok m) = []
column_faults (Err f) = f ∷ []

-- the fault of a column in a sum, which is no text
abbrev pub number_faults : ℕ → Result Resolved BindFault → List BindFault
number_faults at (Ok m) = if is_text m.kind then TypeMismatch at ∷ [] else []
number_faults at (Err f) = f ∷ []

-- the fault of a term of a sum
abbrev pub term_faults : List Alias → Option ColRef → List BindFault
term_faults aliases None = []
term_faults aliases (Some c) = number_faults (column_place c) (meant aliases c)

-- a sum has at most 8 terms
abbrev pub ninth_faults : Option RawTerm → List BindFault
ninth_faults None = []
ninth_faults (Some t) = TooManyTerms t.at ∷ []

-- the faults of a sum, which is one column or not
abbrev pub sum_faults : List Alias → List RawTerm → Option ColRef → List BindFault
sum_faults aliases terms (Some c) = column_faults (meant aliases c)
sum_faults aliases terms None =
    flat_map (λ (t : RawTerm). term_faults aliases t.column) terms ++ ninth_faults (slice_get terms 8)

-- the faults inside an operand
unfoldable pub operand_faults : List Alias → Operand → List BindFault
operand_faults aliases (o.Null at) = []
operand_faults aliases (o.Text at text) = []
operand_faults aliases (o.Sum at terms) = sum_faults aliases terms (alone at terms)

-- ---- classes: numbers and texts

-- the class of a column; one with a fault fits each
abbrev pub column_class : Result Resolved BindFault → Option Class
column_class (Ok m) = Some (class_of m.kind)
column_class (Err f) = None

-- the class of a sum
abbrev pub sum_class : List Alias → Option ColRef → Option Class
sum_class aliases None = Some Numbers
sum_class aliases (Some c) = column_class (meant aliases c)

-- nothing where there is a fault
abbrev pub unless_faulty : List BindFault → Option Class → Option Class
unless_faulty [] c = c
unless_faulty (f ∷ faults) c = None

-- the class of an operand's form: NULL has none
abbrev pub form_class : List Alias → Operand → Option Class
form_class aliases (o.Null at) = None
form_class aliases (o.Text at text) = Some Texts
form_class aliases (o.Sum at terms) = sum_class aliases (alone at terms)

-- the class of an operand: none of NULL and of an operand with a fault, which fit each class
unfoldable pub operand_class : List Alias → Operand → Option Class
operand_class aliases x = unless_faulty (operand_faults aliases x) (form_class aliases x)

abbrev pub is_class : Class → Option Class → Bool
is_class c None = false
is_class Numbers (Some Numbers) = true
is_class Numbers (Some Texts) = false
is_class Texts (Some Numbers) = false
is_class Texts (Some Texts) = true

-- whether some of these are numbers and some are texts
abbrev pub are_mixed : List (Option Class) → Bool
are_mixed classes = list_any (is_class Numbers) classes && list_any (is_class Texts) classes

-- the faults of operands that are compared at a place: each one's own, and that they are of both classes
abbrev pub compared_faults : List Alias → ℕ → List Operand → List BindFault
compared_faults aliases at operands =
    flat_map (operand_faults aliases) operands
    ++ (if are_mixed (map (operand_class aliases) operands) then TypeMismatch at ∷ [] else [])

-- ---- what they stand for, where they have no fault

abbrev pub nowhere : ColumnOf
nowhere = record { alias = 0; column = 0 }

abbrev pub found_column : Result Resolved BindFault → ColumnOf
found_column (Ok m) = m.column
found_column (Err f) = nowhere

-- a number with a minus in front; numbers of a script aren't negative, so the one that has no opposite doesn't occur
abbrev pub minus : ℤ → ℤ
minus number = if int_eq number (negsuc 9223372036854775807) then pos 9223372036854775807 else neg_ℤ number

-- a number behind its sign; a column without a factor has the factor 1
abbrev pub factor_of : RawTerm → ℤ
factor_of t = if t.negative then minus (unwrap_or t.number (pos 1)) else unwrap_or t.number (pos 1)

abbrev pub term_of : List Alias → RawTerm → Term
term_of aliases t = record { factor = factor_of t; column = option_map (λ c. found_column (meant aliases c)) t.column }

abbrev pub sum_side : List Alias → List RawTerm → Option ColRef → Side
sum_side aliases terms (Some c) = side.Column (found_column (meant aliases c))
sum_side aliases terms None = side.Sum (map (term_of aliases) terms)

-- the side of a comparison that an operand is
unfoldable pub side_of : List Alias → Operand → Side
side_of aliases (o.Null at) = side.Null
side_of aliases (o.Text at text) = side.Text text
side_of aliases (o.Sum at terms) = sum_side aliases terms (alone at terms)

-- the number of the first term
abbrev pub literal_of : List RawTerm → ℤ
literal_of [] = pos 0
literal_of (t ∷ more) = factor_of t

abbrev pub number_arg : ℤ → Arg
number_arg number = arg.Literal (value.Int number)

abbrev pub sum_arg : List Alias → List RawTerm → Option ColRef → Arg
sum_arg aliases terms (Some c) = arg.Column (found_column (meant aliases c))
sum_arg aliases terms None = number_arg (literal_of terms)

-- the argument of a predicate that an operand is: NULL, a text, a number or a column
unfoldable pub arg_of : List Alias → Operand → Arg
arg_of aliases (o.Null at) = arg.Literal value.Null
arg_of aliases (o.Text at text) = arg.Literal (value.Text text)
arg_of aliases (o.Sum at terms) = sum_arg aliases terms (alone at terms)
