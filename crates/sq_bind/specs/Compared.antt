-- Serves proofs: operands that are compared, taken one after another.
use Rattle.std.specs.Prelude.{ℕ, ◌&&◌, ◌||◌, if◌then◌else◌, List, map, Option, Some}
use Rattle.std.specs.List.{flat_map, list_any}
use Rattle.sq_parse.specs.declared.tree.Operand.{Operand}
use Rattle.sq_parse.specs.declared.tree.RawTerm.{RawTerm}
use Rattle.sq_bind.specs.Fault.{sooner, first_of}
use Rattle.sq_bind.specs.Visible.{Alias}
use Rattle.sq_bind.specs.Operand.{term_faults, operand_faults, operand_class, is_class}
use Rattle.sq_expr.specs.Fits as class
use Rattle.sq_expr.specs.Fits.{Numbers, Texts}
use Rattle.sq_bind.specs.declared.operand.Class.{Class}
use Rattle.sq_bind.specs.declared.operand.Class.TheVariants.{Number, Text}
use Rattle.sq_bind.specs.declared.operand.Compared.{Compared}
use Rattle.sq_bind.specs.declared.fault.BindFault.{BindFault}
use Rattle.sq_bind.specs.declared.fault.BindFault.TheVariants.{TypeMismatch}

-- the classes of the program
abbrev pub class_seen : Class → class.Class
class_seen Number = Numbers
class_seen Text = Texts

-- the faults of the terms of a sum
abbrev pub terms_faults : List Alias → List RawTerm → List BindFault
terms_faults aliases terms = flat_map (λ (t : RawTerm). term_faults aliases t.column) terms

-- operands: the first of their faults, and which classes are among them
abbrev pub compared : List Alias → List Operand → Compared
compared aliases operands = record {
  fault = first_of (flat_map (operand_faults aliases) operands);
  numbers = list_any (is_class Numbers) (map (operand_class aliases) operands);
  texts = list_any (is_class Texts) (map (operand_class aliases) operands);
}

-- the same of two lists, one behind the other
abbrev pub joined : Compared → Compared → Compared
joined x y = record { fault = sooner x.fault y.fault; numbers = x.numbers || y.numbers; texts = x.texts || y.texts }

-- the first fault of a comparison at a place
abbrev pub fault_at : ℕ → Compared → Option BindFault
fault_at at c = if c.numbers && c.texts then sooner c.fault (Some (TypeMismatch at)) else c.fault
