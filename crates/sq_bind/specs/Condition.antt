-- What a condition of a statement binds to: the condition, its conjuncts with their places, and its faults.
use Rattle.std.specs.Prelude.{ℕ, Bool, true, false, ◌==◌, if◌then◌else◌, Result, Ok, Err, List, [], ◌∷◌, ◌++◌, map, Option, Some, None, slice_get}
use Rattle.std.specs.List.{flat_map}
use Rattle.sq_value.specs.declared.value.ColType.{ColType}
use Rattle.sq_value.specs.declared.value.ColType.TheVariants as kind
use Rattle.sq_value.specs.declared.value.Cmp.TheVariants as cmp
use Rattle.sq_value.specs.declared.predicate.Kinds.{Kinds}
use Rattle.sq_parse.specs.Tree.{begin_of}
use Rattle.sq_parse.specs.declared.tree.Name.{Name}
use Rattle.sq_parse.specs.declared.tree.Operand.{Operand}
use Rattle.sq_parse.specs.declared.tree.Operand.TheVariants as o
use Rattle.sq_parse.specs.declared.tree.ColRef.{ColRef}
use Rattle.sq_parse.specs.declared.tree.Tree.{Tree, Tree-F, fold-Tree}
use Rattle.sq_parse.specs.declared.tree.Tree.TheOpen as level
use Rattle.sq_expr.specs.declared.cond.Cond.{Cond}
use Rattle.sq_expr.specs.declared.cond.Cond.TheVariants as cond
use Rattle.sq_bind.specs.Visible.{Alias, meant}
use Rattle.sq_bind.specs.declared.visible.Resolved.{Resolved}
use Rattle.sq_bind.specs.Operand.{alone, operand_faults, compared_faults, side_of, arg_of}
use Rattle.sq_bind.specs.declared.conjunct.Placed.{Placed}
use Rattle.sq_bind.specs.declared.fault.BindFault.{BindFault}
use Rattle.sq_bind.specs.declared.fault.BindFault.TheVariants.{TypeMismatch, UnknownFunction, WrongArguments, TooManyConjuncts}

-- the predicates that a statement may call: the number of a name, and the types of a number's arguments
pub record Calls : Type 0 where
  pub number : List ℕ → Option ℕ
  pub kinds : ℕ → Option Kinds

-- predicates, by their names and numbers
abbrev pub calling : (List ℕ → Option ℕ) → (ℕ → Option Kinds) → Calls
calling number kinds = record { number = number; kinds = kinds }

-- ---- rewriting

-- NOT of a condition, where the text says so
abbrev pub negated_if : Bool → Cond → Cond
negated_if negated c = if negated then cond.Not c else c

-- x >= a AND x <= b, for x BETWEEN a AND b
abbrev pub at_least : List Alias → Operand → Operand → Cond
at_least aliases x low = cond.Compare (side_of aliases x) cmp.Ge (side_of aliases low)

abbrev pub at_most : List Alias → Operand → Operand → Cond
at_most aliases x high = cond.Compare (side_of aliases x) cmp.Le (side_of aliases high)

-- x = a, for x IN (a)
abbrev pub equal_to : List Alias → Operand → Operand → Cond
equal_to aliases x y = cond.Compare (side_of aliases x) cmp.Eq (side_of aliases y)

-- x = a OR x = b, for x IN (a, b); one equality stands alone
abbrev pub any_equal : List Cond → Cond
any_equal [] = cond.Any []
any_equal (c ∷ []) = c
any_equal (c ∷ (d ∷ more)) = cond.Any (c ∷ d ∷ more)

-- a call has two arguments
abbrev pub call_of : List Alias → Option ℕ → List Operand → Cond
call_of aliases None args = cond.Any []
call_of aliases (Some number) [] = cond.Any []
call_of aliases (Some number) (x ∷ []) = cond.Any []
call_of aliases (Some number) (x ∷ (y ∷ more)) = cond.Call number (arg_of aliases x) (arg_of aliases y)

-- ---- conjuncts

-- what a tree binds to: as one condition, and split at its topmost ANDs
pub record Split : Type 0 where
  pub at : ℕ
  pub whole : Cond
  pub conjuncts : List Placed

-- one that isn't split
abbrev pub unsplit : ℕ → Cond → Split
unsplit at c = record { at = at; whole = c; conjuncts = record { at = at; cond = c } ∷ [] }

-- a BETWEEN is two conjuncts at its own place, and one where it is denied
abbrev pub between : ℕ → Bool → Cond → Cond → Split
between at negated low high = record {
  at = at;
  whole = negated_if negated (cond.All (low ∷ high ∷ []));
  conjuncts =
      if negated then record { at = at; cond = cond.Not (cond.All (low ∷ high ∷ [])) } ∷ []
      else record { at = at; cond = low } ∷ record { at = at; cond = high } ∷ [];
}

-- the place of the first part
abbrev pub first_at : List Split → ℕ
first_at [] = 0
first_at (s ∷ more) = s.at

abbrev pub split_at_level : Calls → List Alias → Tree-F Split → Split
split_at_level calls aliases (level.Compare at left how right) =
    unsplit at (cond.Compare (side_of aliases left) how (side_of aliases right))
split_at_level calls aliases (level.Between at negated x low high) =
    between at negated (at_least aliases x low) (at_most aliases x high)
split_at_level calls aliases (level.Within at negated x items) =
    unsplit at (negated_if negated (any_equal (map (equal_to aliases x) items)))
split_at_level calls aliases (level.IsNull at negated x) =
    unsplit at (negated_if negated (cond.IsNull (side_of aliases x)))
split_at_level calls aliases (level.Call function args) =
    unsplit function.at (call_of aliases (calls.number function.text) args)
split_at_level calls aliases (level.Not part) = unsplit part.at (cond.Not part.whole)
split_at_level calls aliases (level.All parts) =
    record {
      at = first_at parts;
      whole = cond.All (map (λ (s : Split). s.whole) parts);
      conjuncts = flat_map (λ (s : Split). s.conjuncts) parts;
    }
split_at_level calls aliases (level.Any parts) =
    unsplit (first_at parts) (cond.Any (map (λ (s : Split). s.whole) parts))
split_at_level calls aliases (level.Is part negated truth) =
    unsplit part.at (negated_if negated (cond.Is part.whole truth))

-- what a tree binds to, for those who see these aliases
unfoldable pub split_of : Calls → List Alias → Tree → Split
split_of calls aliases = fold-Tree Split (split_at_level calls aliases)

-- what a tree binds to as one condition
abbrev pub whole_in : Calls → List Alias → Tree → Cond
whole_in calls aliases tree = (split_of calls aliases tree).whole

-- the conjuncts that it binds to at the top
abbrev pub conjuncts_in : Calls → List Alias → Tree → List Placed
conjuncts_in calls aliases tree = (split_of calls aliases tree).conjuncts

-- ---- faults

-- whether two types are one, scale included
abbrev pub is_kind : ColType → ColType → Bool
is_kind kind.Integer kind.Integer = true
is_kind kind.Integer kind.Text = false
is_kind kind.Integer (kind.Decimal b) = false
is_kind kind.Text kind.Integer = false
is_kind kind.Text kind.Text = true
is_kind kind.Text (kind.Decimal b) = false
is_kind (kind.Decimal a) kind.Integer = false
is_kind (kind.Decimal a) kind.Text = false
is_kind (kind.Decimal a) (kind.Decimal b) = a == b

-- whether an operand may be an argument of a type: NULL may be of each, and a number is INTEGER
abbrev pub column_fits : ColType → Result Resolved BindFault → Bool
column_fits k (Ok m) = is_kind m.kind k
column_fits k (Err f) = true

abbrev pub sum_fits : List Alias → ColType → Option ColRef → Bool
sum_fits aliases k None = is_kind kind.Integer k
sum_fits aliases k (Some c) = column_fits k (meant aliases c)

abbrev pub arg_fits : List Alias → ColType → Operand → Bool
arg_fits aliases k (o.Null at) = true
arg_fits aliases k (o.Text at text) = is_kind kind.Text k
arg_fits aliases k (o.Sum at terms) = sum_fits aliases k (alone at terms)

-- a mismatch at a place, where there is no other fault
abbrev pub mismatched : List BindFault → Bool → ℕ → List BindFault
mismatched [] fits at = if fits then [] else TypeMismatch at ∷ []
mismatched (f ∷ faults) fits at = []

-- an argument that isn't of its type; one with a fault of its own fits each
abbrev pub arg_faults : List Alias → ColType → Operand → List BindFault
arg_faults aliases k x = mismatched (operand_faults aliases x) (arg_fits aliases k x) (begin_of x)

-- a call has exactly two arguments
abbrev pub count_faults : ℕ → List Operand → List BindFault
count_faults at [] = WrongArguments at ∷ []
count_faults at (x ∷ []) = WrongArguments at ∷ []
count_faults at (x ∷ (y ∷ [])) = []
count_faults at (x ∷ (y ∷ (z ∷ more))) = WrongArguments at ∷ []

-- two arguments of the predicate's types
abbrev pub kind_faults : List Alias → Kinds → List Operand → List BindFault
kind_faults aliases k (x ∷ (y ∷ [])) = arg_faults aliases k.first x ++ arg_faults aliases k.second y
kind_faults aliases k _ = []

-- a number without types is no predicate's
abbrev pub typed_faults : List Alias → ℕ → Option Kinds → List Operand → List BindFault
typed_faults aliases at None args = UnknownFunction at ∷ []
typed_faults aliases at (Some k) args = kind_faults aliases k args

-- a call of no predicate, or of one whose arguments have other types
abbrev pub call_faults : Calls → List Alias → ℕ → Option ℕ → List Operand → List BindFault
call_faults calls aliases at None args = UnknownFunction at ∷ []
call_faults calls aliases at (Some number) args = typed_faults aliases at (calls.kinds number) args

-- a call's faults: its name and the types of its arguments, their number, and those inside them
abbrev pub faults_of_call : Calls → List Alias → Name → List Operand → List BindFault
faults_of_call calls aliases function args =
    call_faults calls aliases function.at (calls.number function.text) args
    ++ (count_faults function.at args ++ flat_map (operand_faults aliases) args)

abbrev pub faults_at_level : Calls → List Alias → Tree-F (List BindFault) → List BindFault
faults_at_level calls aliases (level.Compare at left how right) = compared_faults aliases at (left ∷ right ∷ [])
faults_at_level calls aliases (level.Between at negated x low high) = compared_faults aliases at (x ∷ low ∷ high ∷ [])
faults_at_level calls aliases (level.Within at negated x items) = compared_faults aliases at (x ∷ items)
faults_at_level calls aliases (level.IsNull at negated x) = operand_faults aliases x
faults_at_level calls aliases (level.Call function args) = faults_of_call calls aliases function args
faults_at_level calls aliases (level.Not part) = part
faults_at_level calls aliases (level.All parts) = flat_map (λ part. part) parts
faults_at_level calls aliases (level.Any parts) = flat_map (λ part. part) parts
faults_at_level calls aliases (level.Is part negated truth) = part

-- the faults of a tree, for those who see these aliases
unfoldable pub tree_faults : Calls → List Alias → Tree → List BindFault
tree_faults calls aliases = fold-Tree (List BindFault) (faults_at_level calls aliases)

-- the fault of the 49th conjunct
abbrev pub extra_faults : Option Placed → List BindFault
extra_faults None = []
extra_faults (Some p) = TooManyConjuncts p.at ∷ []

-- a statement has at most 48 conjuncts
abbrev pub conjunct_faults : List Placed → List BindFault
conjunct_faults conjuncts = extra_faults (slice_get conjuncts 48)
