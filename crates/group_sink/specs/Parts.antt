-- Serves proofs: elements by their keys, one key after another.
use Rattle.std.specs.Prelude.{ℕ, Bool, ◌&&◌, ◌==◌, List, [], ◌∷◌, map, Option}
use Rattle.std.specs.List.{list_all}
use Rattle.std.specs.Option.{option_map}
use Rattle.sq_value.specs.Key.{rank_of_key}
use Rattle.sq_value.specs.Rank.{Rank, rank_of}
use Rattle.sq_value.specs.Relation.{Relation}
use Rattle.sq_value.specs.declared.key.Key.{Key}
use Rattle.sq_value.specs.declared.value.Value.{Value}
use Rattle.sq_expr.specs.declared.cond.ColumnOf.{ColumnOf}
use Rattle.sq_expr.specs.declared.block.Block.{Block}
use Rattle.bag_meaning.specs.declared.combo.Combo.{Combo}
use Rattle.result_sink.specs.Ready.{rows_of_combo}
use Rattle.group_sink.specs.Cells.{is_same_rank}
use Rattle.group_sink.specs.Lines.{value_of}
use Rattle.group_sink.specs.Picked.{picked}
use Rattle.group_sink.specs.declared.part.Part.{Part}

-- the rank of a key that may be missing
abbrev pub rank_kept : Option Key → Option Rank
rank_kept key = option_map rank_of_key key

-- whether two elements are of one group so far and have equal next keys
abbrev pub is_same_part : Part → Part → Bool
is_same_part x y = (x.group == y.group) && is_same_rank (rank_kept x.key) (rank_kept y.key)

-- an element's group so far, and the rank of its next key
pub record Pair : Type 0 where
  pub group : ℕ
  pub rank : Option Rank

abbrev pub seen_part : Part → Pair
seen_part p = record { group = p.group; rank = rank_kept p.key }

abbrev pub is_same_pair : Pair → Pair → Bool
is_same_pair x y = (x.group == y.group) && is_same_rank x.rank y.rank

-- groups and ranks side by side
abbrev pub pairs : List ℕ → List (Option Rank) → List Pair
pairs [] ranks = []
pairs (g ∷ groups) [] = []
pairs (g ∷ groups) (r ∷ ranks) = record { group = g; rank = r } ∷ pairs groups ranks

-- whether two elements have equal ranks under each of some keys
abbrev pub has_same_ranks : {C X : Type 0} → (C → X → Option Rank) → List C → X → X → Bool
has_same_ranks rank keys x y = list_all (λ c. is_same_rank (rank c x) (rank c y)) keys

-- the value of a column over a combination
abbrev pub value_over : Block → List Relation → ColumnOf → Combo → Value
value_over block tables column combo = value_of block tables column (rows_of_combo block combo)

-- its rank
abbrev pub rank_over : Block → List Relation → ColumnOf → Combo → Option Rank
rank_over block tables column combo = rank_of (value_over block tables column combo)

-- the values of a column in the members of a group
abbrev pub group_values : Block → List Relation → List Combo → List ℕ → ColumnOf → ℕ → List Value
group_values block tables members numbers column group =
    picked group numbers (map (value_over block tables column) members)
