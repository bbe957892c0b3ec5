-- The faults of conditions.
use Rattle.std.proofs.Common.{◌≡◌, ℕ, Bool, true, false, List, [], ◌∷◌, ◌++◌, map, Option, Some, None, refl, ap, sym, ◌∙◌, if◌then◌else◌}
use Rattle.std.specs.List.{flat_map}
use Rattle.std.proofs.lemmas.Option.{none-some}
use Rattle.sq_value.specs.declared.value.Cmp.{Cmp}
use Rattle.sq_value.specs.declared.value.Truth.{Truth}
use Rattle.sq_parse.specs.declared.tree.Name.{Name}
use Rattle.sq_parse.specs.declared.tree.Operand.{Operand}
use Rattle.sq_parse.specs.declared.tree.Tree.{Tree, fold-Tree, fold_out-Tree}
use Rattle.sq_parse.specs.declared.tree.Tree.TheVariants as t
use Rattle.sq_bind.specs.Fault.{sooner, first_of}
use Rattle.sq_bind.specs.Visible.{Alias}
use Rattle.sq_bind.specs.Operand.{operand_faults, operand_class, compared_faults, are_mixed}
use Rattle.sq_bind.specs.Compared.{compared, joined, fault_at}
use Rattle.sq_bind.specs.declared.operand.Compared.{Compared}
use Rattle.sq_bind.specs.Condition.{Calls, mismatched, faults_of_call, faults_at_level, tree_faults}
use Rattle.sq_bind.specs.declared.fault.BindFault.{BindFault}
use Rattle.sq_bind.specs.declared.fault.BindFault.TheVariants.{TypeMismatch}
use Rattle.sq_bind.proofs.FaultLemmas.{first_of-append, sooner_none}
use Rattle.sq_bind.proofs.OperandLemmas.{some_fault, one_more}

-- an argument with a fault of its own fits each type
pub fits_where_faulty : (faults : List BindFault) (fits : Bool) (at : ℕ) (f : BindFault) → Some f ≡ first_of faults → first_of (mismatched faults fits at) ≡ None
fits_where_faulty [] fits at f e = absurd (none-some f (sym e))
fits_where_faulty (g ∷ faults) fits at f e = refl

pub fits_where_faultless : (faults : List BindFault) (fits : Bool) (at : ℕ) → None ≡ first_of faults
    → first_of (mismatched faults fits at) ≡ first_of (mismatched [] fits at)
fits_where_faultless [] fits at e = refl
fits_where_faultless (g ∷ faults) fits at e = absurd (some_fault g (first_of faults) (sym e))

-- the first fault of operands that are compared at a place
pub compared_first : (aliases : List Alias) (at : ℕ) (operands : List Operand)
    → first_of (compared_faults aliases at operands) ≡ fault_at at (compared aliases operands)
compared_first aliases at operands =
    first_of-append (flat_map (operand_faults aliases) operands) _
    ∙ by (are_mixed (map (operand_class aliases) operands))
  where
    by : (b : Bool) → sooner (first_of (flat_map (operand_faults aliases) operands)) (first_of (if b then TypeMismatch at ∷ [] else []))
        ≡ (if b then sooner (first_of (flat_map (operand_faults aliases) operands)) (Some (TypeMismatch at))
        else first_of (flat_map (operand_faults aliases) operands))
    by true = refl
    by false = sooner_none (first_of (flat_map (operand_faults aliases) operands))

-- an operand and those behind it, told apart
pub joined_two : (aliases : List Alias) (x : Operand) (ys : List Operand) (a b both : Compared)
    → a ≡ compared aliases (x ∷ []) → b ≡ compared aliases ys → both ≡ joined a b → both ≡ compared aliases (x ∷ ys)
joined_two aliases x ys a b both e f g =
    g ∙ ap (λ (c : Compared). joined c b) e ∙ ap (joined (compared aliases (x ∷ []))) f ∙ sym (one_more aliases x ys)

pub fault_of_two : (aliases : List Alias) (at : ℕ) (x : Operand) (ys : List Operand) (a b both : Compared) (fault : Option BindFault)
    → a ≡ compared aliases (x ∷ []) → b ≡ compared aliases ys → both ≡ joined a b → fault ≡ fault_at at both
    → fault ≡ first_of (compared_faults aliases at (x ∷ ys))
fault_of_two aliases at x ys a b both fault e f g h =
    h ∙ ap (fault_at at) (joined_two aliases x ys a b both e f g) ∙ sym (compared_first aliases at (x ∷ ys))

-- ---- the faults of a tree, case by case

module _ (calls : Calls) (aliases : List Alias) where
  pub tree_faults-Compare : (at : ℕ) (x : Operand) (how : Cmp) (y : Operand) → tree_faults calls aliases (t.Compare at x how y) ≡ compared_faults aliases at (x ∷ y ∷ [])
  unfolding tree_faults
  tree_faults-Compare at x how y =
      rw (fold_out-Tree (List BindFault) (faults_at_level calls aliases) (t.Compare at x how y), t.outs-Compare at x how y) refl

  pub tree_faults-Between : (at : ℕ) (n : Bool) (x y z : Operand) → tree_faults calls aliases (t.Between at n x y z) ≡ compared_faults aliases at (x ∷ y ∷ z ∷ [])
  unfolding tree_faults
  tree_faults-Between at n x y z =
      rw (fold_out-Tree (List BindFault) (faults_at_level calls aliases) (t.Between at n x y z), t.outs-Between at n x y z) refl

  pub tree_faults-Within : (at : ℕ) (n : Bool) (x : Operand) (xs : List Operand) → tree_faults calls aliases (t.Within at n x xs) ≡ compared_faults aliases at (x ∷ xs)
  unfolding tree_faults
  tree_faults-Within at n x xs =
      rw (fold_out-Tree (List BindFault) (faults_at_level calls aliases) (t.Within at n x xs), t.outs-Within at n x xs) refl

  pub tree_faults-IsNull : (at : ℕ) (n : Bool) (x : Operand) → tree_faults calls aliases (t.IsNull at n x) ≡ operand_faults aliases x
  unfolding tree_faults
  tree_faults-IsNull at n x = rw (fold_out-Tree (List BindFault) (faults_at_level calls aliases) (t.IsNull at n x), t.outs-IsNull at n x) refl

  pub tree_faults-Call : (f : Name) (xs : List Operand) → tree_faults calls aliases (t.Call f xs) ≡ faults_of_call calls aliases f xs
  unfolding tree_faults
  tree_faults-Call f xs = rw (fold_out-Tree (List BindFault) (faults_at_level calls aliases) (t.Call f xs), t.outs-Call f xs) refl

  pub tree_faults-Not : (part : Tree) → tree_faults calls aliases (t.Not part) ≡ tree_faults calls aliases part
  unfolding tree_faults
  tree_faults-Not part = rw (fold_out-Tree (List BindFault) (faults_at_level calls aliases) (t.Not part), t.outs-Not part) refl

  pub tree_faults-All : (parts : List Tree) → tree_faults calls aliases (t.All parts) ≡ flat_map (tree_faults calls aliases) parts
  unfolding tree_faults
  tree_faults-All parts =
      rw (fold_out-Tree (List BindFault) (faults_at_level calls aliases) (t.All parts), t.outs-All parts) (joined parts)
    where
      joined : (parts : List Tree) → flat_map (λ part. part) (map (fold-Tree (List BindFault) (faults_at_level calls aliases)) parts)
          ≡ flat_map (fold-Tree (List BindFault) (faults_at_level calls aliases)) parts
      joined [] = refl
      joined (p ∷ ps) = ap (λ (rest : List BindFault). fold-Tree (List BindFault) (faults_at_level calls aliases) p ++ rest) (joined ps)

  pub tree_faults-Any : (parts : List Tree) → tree_faults calls aliases (t.Any parts) ≡ flat_map (tree_faults calls aliases) parts
  unfolding tree_faults
  tree_faults-Any parts =
      rw (fold_out-Tree (List BindFault) (faults_at_level calls aliases) (t.Any parts), t.outs-Any parts) (joined parts)
    where
      joined : (parts : List Tree) → flat_map (λ part. part) (map (fold-Tree (List BindFault) (faults_at_level calls aliases)) parts)
          ≡ flat_map (fold-Tree (List BindFault) (faults_at_level calls aliases)) parts
      joined [] = refl
      joined (p ∷ ps) = ap (λ (rest : List BindFault). fold-Tree (List BindFault) (faults_at_level calls aliases) p ++ rest) (joined ps)

  pub tree_faults-Is : (part : Tree) (n : Bool) (truth : Truth) → tree_faults calls aliases (t.Is part n truth) ≡ tree_faults calls aliases part
  unfolding tree_faults
  tree_faults-Is part n truth =
      rw (fold_out-Tree (List BindFault) (faults_at_level calls aliases) (t.Is part n truth), t.outs-Is part n truth) refl
