-- The tree of the demo's script, with the places of its parts.
use Rattle.std.proofs.Common.{ℕ, ◌+◌, false, pos, List, [], ◌∷◌, Some, None}
use Rattle.std.specs.Prelude.{codes}
use Rattle.sq_value.specs.declared.value.Cmp.TheVariants as cmp
use Rattle.sq_parse.specs.declared.tree.Name.{Name}
use Rattle.sq_parse.specs.declared.tree.ColRef.{ColRef}
use Rattle.sq_parse.specs.declared.tree.Item.{Item}
use Rattle.sq_parse.specs.declared.tree.Item.TheVariants as item
use Rattle.sq_parse.specs.declared.tree.Items.TheVariants as items
use Rattle.sq_parse.specs.declared.tree.Source.{Source}
use Rattle.sq_parse.specs.declared.tree.RawTerm.{RawTerm}
use Rattle.sq_parse.specs.declared.tree.Operand.{Operand}
use Rattle.sq_parse.specs.declared.tree.Operand.TheVariants as operand
use Rattle.sq_parse.specs.declared.tree.Tree.{Tree}
use Rattle.sq_parse.specs.declared.tree.Tree.TheVariants as tree
use Rattle.sq_parse.specs.declared.tree.OrderItem.{OrderItem}
use Rattle.sq_parse.specs.declared.tree.Statement.{Statement}
use Rattle.sq_parse.specs.declared.tree.Script.{Script}

-- ---- parts of a statement at a place; each alias of the demo is one letter

abbrev pub named : ℕ → List ℕ → Name
named at text = record { text = text; at = at }

abbrev pub column : ℕ → List ℕ → List ℕ → ColRef
column at alias name = record { alias = Some (named at alias); column = named (at + 2) name }

abbrev pub shown : ℕ → List ℕ → List ℕ → Item
shown at alias name = item.Col (column at alias name) None

abbrev pub source : ℕ → List ℕ → ℕ → List ℕ → Source
source at table second alias = record { table = named at table; alias = named second alias; on = None }

abbrev pub one_term : ℕ → RawTerm → Operand
one_term at term = operand.Sum at (term ∷ [])

abbrev pub of_column : ℕ → List ℕ → List ℕ → Operand
of_column at alias name =
    one_term at record { at = at; negative = false; number = None; column = Some (column at alias name) }

abbrev pub of_number : ℕ → ℕ → Operand
of_number at n = one_term at record { at = at; negative = false; number = Some (pos n); column = None }

-- a number times a column, which comes five places behind it
abbrev pub of_both : ℕ → ℕ → List ℕ → List ℕ → Operand
of_both at n alias name =
    one_term at record { at = at; negative = false; number = Some (pos n); column = Some (column (at + 5) alias name) }

-- ---- the conditions

abbrev pub first_condition : List Tree
first_condition =
    tree.Compare 45 (of_column 45 (codes "p") (codes "id")) cmp.Eq (of_column 52 (codes "s") (codes "part"))
    ∷ tree.Compare 63 (of_column 63 (codes "p") (codes "kind")) cmp.Eq (of_number 72 3) ∷ []

abbrev pub second_condition : List Tree
second_condition =
    tree.Compare 151 (of_column 151 (codes "s") (codes "part")) cmp.Eq (of_column 160 (codes "p") (codes "id"))
    ∷ tree.Compare 169 (of_column 169 (codes "t") (codes "part")) cmp.Eq (of_column 178 (codes "p") (codes "id"))
    ∷ tree.Compare 187 (of_column 187 (codes "t") (codes "held")) cmp.Lt (of_number 196 5) ∷ []

abbrev pub third_condition : List Tree
third_condition =
    tree.Compare 238 (of_column 238 (codes "p") (codes "id")) cmp.Eq (of_column 245 (codes "s") (codes "part"))
    ∷ tree.Compare 256 (of_both 256 10 (codes "p") (codes "kind")) cmp.Lt (of_column 270 (codes "s") (codes "qty")) ∷ []

-- ---- the statements

abbrev pub query : List Item → List Source → List Tree → List OrderItem → Statement
query selected sources conditions order = record {
  distinct = false;
  items = items.List selected;
  sources = sources;
  condition = Some (tree.All conditions);
  groups = [];
  order = order;
  limit = None;
}

abbrev pub first : Statement
first =
    query (shown 7 (codes "p") (codes "id") ∷ shown 13 (codes "s") (codes "qty") ∷ [])
    (source 24 (codes "part") 29 (codes "p") ∷ source 32 (codes "sale") 37 (codes "s") ∷ []) first_condition
    (record { column = column 83 (codes "p") (codes "id"); way = record { descending = false; nulls_first = false } } ∷ [])

abbrev pub second : Statement
second =
    query (shown 96 (codes "p") (codes "id") ∷ shown 102 (codes "s") (codes "qty") ∷ shown 109 (codes "t") (codes "held") ∷ [])
    (source 121 (codes "sale") 126 (codes "s") ∷ source 129 (codes "part") 134 (codes "p")
    ∷ source 137 (codes "stock") 143 (codes "t") ∷ []) second_condition []

abbrev pub third : Statement
third =
    query (shown 206 (codes "s") (codes "qty") ∷ [])
    (source 217 (codes "part") 222 (codes "p") ∷ source 225 (codes "sale") 230 (codes "s") ∷ []) third_condition []

abbrev pub demo_tree : Script
demo_tree = record { statements = first ∷ second ∷ third ∷ [] }
