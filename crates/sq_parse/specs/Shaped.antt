-- Which statements are shaped: they have an aggregate, GROUP BY, DISTINCT or LIMIT.
use Rattle.std.specs.Prelude.{ℕ, Bool, true, false, ◌||◌, List, [], ◌∷◌, is_some}
use Rattle.sq_parse.specs.declared.tree.ColRef.{ColRef}
use Rattle.sq_parse.specs.declared.tree.Item.{Item}
use Rattle.sq_parse.specs.declared.tree.Item.TheVariants as shown
use Rattle.sq_parse.specs.declared.tree.Items.{Items}
use Rattle.sq_parse.specs.declared.tree.Items.TheVariants as selected
use Rattle.sq_parse.specs.declared.tree.Statement.{Statement}

-- an item is an aggregate
abbrev pub is_aggregate : Item → Bool
is_aggregate (shown.AllOf name) = false
is_aggregate (shown.Col column name) = false
is_aggregate (shown.Agg at kind column name) = true

-- one of some items is an aggregate
abbrev pub have_aggregate : List Item → Bool
have_aggregate [] = false
have_aggregate (i ∷ is) = is_aggregate i || have_aggregate is

-- a select list has an aggregate
abbrev pub has_aggregate : Items → Bool
has_aggregate selected.Star = false
has_aggregate (selected.List items) = have_aggregate items

-- there are columns of GROUP BY
abbrev pub has_groups : List ColRef → Bool
has_groups [] = false
has_groups (c ∷ cs) = true

-- a statement is grouped: it has an aggregate or GROUP BY
abbrev pub is_grouped : Statement → Bool
is_grouped s = has_aggregate s.items || has_groups s.groups

-- a statement is shaped
abbrev pub is_shaped : Statement → Bool
is_shaped s = is_grouped s || s.distinct || is_some s.limit
