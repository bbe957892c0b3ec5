-- The grammar of scripts: which lists of tokens stand for which trees.
use Rattle.std.specs.Prelude.{ℕ, zero, suc, Bool, nat_le, [], ◌∷◌, Some, None, is_some, option_map, unwrap_or, false, List, Option}
use Rattle.sq_token.specs.declared.mark.Mark.TheVariants as k
use Rattle.sq_parse.specs.declared.tree.Name.{Name}
use Rattle.sq_parse.specs.declared.tree.ColRef.{ColRef}
use Rattle.sq_parse.specs.declared.tree.Items.{Items}
use Rattle.sq_parse.specs.declared.tree.Items.TheVariants as items
use Rattle.sq_parse.specs.declared.tree.Item.{Item}
use Rattle.sq_parse.specs.declared.tree.Item.TheVariants as shown
use Rattle.sq_parse.specs.declared.tree.Source.{Source}
use Rattle.sq_parse.specs.declared.tree.OrderItem.{OrderItem}
use Rattle.sq_parse.specs.declared.tree.Statement.{Statement}
use Rattle.sq_parse.specs.declared.tree.Script.{Script}
use Rattle.sq_parse.specs.declared.tree.RawTerm.{RawTerm}
use Rattle.sq_parse.specs.declared.tree.Operand.{Operand}
use Rattle.sq_parse.specs.declared.tree.Operand.TheVariants as o
use Rattle.sq_parse.specs.declared.tree.Tree.{Tree}
use Rattle.sq_parse.specs.declared.tree.Tree.TheVariants as t
use Rattle.sq_token.specs.Tok.{Tok}
use Rattle.sq_expr.specs.declared.shape.AggKind.{AggKind}
use Rattle.sq_expr.specs.declared.shape.AggKind.TheVariants as agg
use Rattle.sq_token.specs.Mark.{is, is_name, is_sign, is_comparison, is_truth_word, is_extent, is_reckoned, is_way, is_end}
use Rattle.sq_parse.specs.Tree.{name_of, column_of, number_term, column_term, signed, sum_of, begin_of, comparison_by, tested, all_of, any_of, source_of, joined_on, way_of, reckoned_by, agg_item, statement_of}
use Rattle.sq_parse.specs.Rules.{Rule, token, mark, number, ◌⊗◌, ◌⊕◌, ◌⊛◌, optional, many, after, separated, list_of, enclosed, nothing}

-- which numbers may be written: those beside a `*`, and all others
pub record Limits : Type 0 where
  pub narrow : ℕ → Bool
  pub wide : ℕ → Bool

-- the limits of scripts: 2,147,483,647 beside a `*`, and 9,223,372,036,854,775,807
abbrev pub shipped : Limits
shipped = record { narrow = λ n. nat_le n 2147483647; wide = λ n. nat_le n 9223372036854775807 }

abbrev pub name : Rule Name
name = name_of ⊛ token is_name

-- name | name "." name
abbrev pub column : Rule ColRef
column = (λ p. column_of p.0 p.1) ⊛ (name ⊗ optional (after k.Dot name))

-- NULL, or a text
abbrev pub literal : Rule Operand
literal = (λ n. o.Null n.at) ⊛ mark k.Null ⊕ (λ x. o.Text x.at x.text) ⊛ mark k.Text

-- [ AS ] name
abbrev pub alias : Rule Name
alias = (λ p. p.1) ⊛ (optional (mark k.As) ⊗ name)

-- name "." "*" | column [ [ AS ] name ]
abbrev pub plain_item : Rule Item
plain_item = (λ p. shown.AllOf p.0) ⊛ (name ⊗ after k.Dot (mark k.Star)) ⊕ (λ p. shown.Col p.0 p.1)
    ⊛ (column ⊗ optional alias)

-- "*" | column
abbrev pub counted : Rule (AggKind × Option ColRef)
counted = (λ _. (agg.CountAll, None)) ⊛ mark k.Star ⊕ (λ c. (agg.Count, Some c)) ⊛ column

-- COUNT "(" ( "*" | column ) ")" | ( SUM | MIN | MAX ) "(" column ")"
abbrev pub aggregate : Rule (ℕ × (AggKind × Option ColRef))
aggregate = (λ p. (p.0.at, p.1)) ⊛ (mark k.Count ⊗ enclosed counted)
    ⊕ (λ p. (p.0.at, (reckoned_by p.0.mark, Some p.1))) ⊛ (token is_reckoned ⊗ enclosed column)

-- aggregate [ [ AS ] name ] | plain item
abbrev pub item : Rule Item
item = (λ p. agg_item p.0.0 p.0.1.0 p.0.1.1 p.1) ⊛ (aggregate ⊗ optional alias) ⊕ plain_item

-- "*" | item { "," item }
abbrev pub select_list : Rule Items
select_list = (λ _. items.Star) ⊛ mark k.Star ⊕ items.List ⊛ list_of k.Comma item

-- name [ [ AS ] name ]
abbrev pub source : Rule Source
source = (λ p. source_of p.0 p.1) ⊛ (name ⊗ optional alias)

-- column [ ASC | DESC ] [ NULLS ( FIRST | LAST ) ]
abbrev pub key : Rule OrderItem
key = (λ p. record { column = p.0; way = way_of p.1.0 p.1.1 })
    ⊛ (column ⊗ ((λ way. unwrap_or (option_map (λ w. is k.Desc w.mark) way) false) ⊛ optional (token is_way)
    ⊗ (λ end. option_map (λ e. is k.First e.mark) end) ⊛ optional (after k.Nulls (token is_end))))

-- [ ALL | DISTINCT ]: whether it is DISTINCT
abbrev pub extent : Rule Bool
extent = (λ extent. unwrap_or (option_map (λ w. is k.Distinct w.mark) extent) false) ⊛ optional (token is_extent)

-- [ GROUP BY column { "," column } ]
abbrev pub groups : Rule (List ColRef)
groups = (λ columns. unwrap_or columns []) ⊛ optional (after k.Group (after k.By (list_of k.Comma column)))

-- [ ORDER BY key { "," key } ]
abbrev pub order : Rule (List OrderItem)
order = (λ keys. unwrap_or keys []) ⊛ optional (after k.Order (after k.By (list_of k.Comma key)))

-- neg { AND neg }
abbrev pub conjunction : Rule Tree → Rule Tree
conjunction neg = (λ p. all_of p.0 p.1) ⊛ separated k.And neg

-- conj { OR conj }
abbrev pub disjunction : Rule Tree → Rule Tree
disjunction neg = (λ p. any_of p.0 p.1) ⊛ separated k.Or (conjunction neg)

module _ (limits : Limits) where
  -- [ LIMIT number ]
  abbrev pub limit : Rule (Option ℕ)
  limit = optional (after k.Limit ((λ n. n.number) ⊛ number limits.wide))

  -- number | number "*" column
  abbrev pub number_led : Rule RawTerm
  number_led = (λ n. number_term n None) ⊛ number limits.wide
      ⊕ (λ p. number_term p.0 (Some p.1)) ⊛ (number limits.narrow ⊗ after k.Star column)

  -- column | column "*" number
  abbrev pub column_led : Rule RawTerm
  column_led = (λ p. column_term p.0 p.1) ⊛ (column ⊗ optional (after k.Star (number limits.narrow)))

  abbrev pub term : Rule RawTerm
  term = number_led ⊕ column_led

  abbrev pub signed_term : Rule RawTerm
  signed_term = (λ p. signed p.0 p.1) ⊛ (token is_sign ⊗ term)

  -- [ sign ] term { sign term }
  abbrev pub sum : Rule Operand
  sum = (λ p. sum_of p.0 p.1.0 p.1.1) ⊛ (optional (token is_sign) ⊗ (term ⊗ many signed_term))

  abbrev pub operand : Rule Operand
  operand = literal ⊕ sum

  -- NULL | text | [ sign ] number | column
  abbrev pub simple : Rule Operand
  simple = literal
      ⊕ ((λ p. sum_of p.0 (number_term p.1 None) []) ⊛ (optional (token is_sign) ⊗ number limits.wide)
      ⊕ (λ c. sum_of None (column_term c None) []) ⊛ column)

  -- operand cmp operand
  abbrev pub comparison : Rule Tree
  comparison = (λ p. t.Compare (begin_of p.0) p.0 (comparison_by p.1.0.mark) p.1.1)
      ⊛ (operand ⊗ (token is_comparison ⊗ operand))

  -- operand [ NOT ] BETWEEN operand AND operand
  abbrev pub between : Rule Tree
  between = (λ p. t.Between (begin_of p.0) (is_some p.1.0) p.0 p.1.1.0 p.1.1.1)
      ⊛ (operand ⊗ (optional (mark k.Not) ⊗ (after k.Between operand ⊗ after k.And operand)))

  -- operand [ NOT ] IN "(" operand { "," operand } ")"
  abbrev pub within : Rule Tree
  within = (λ p. t.Within (begin_of p.0) (is_some p.1.0) p.0 p.1.1)
      ⊛ (operand ⊗ (optional (mark k.Not) ⊗ after k.In (enclosed (list_of k.Comma operand))))

  -- operand IS [ NOT ] NULL
  abbrev pub null_test : Rule Tree
  null_test = (λ p. t.IsNull (begin_of p.0) (is_some p.1.0) p.0)
      ⊛ (operand ⊗ after k.Is (optional (mark k.Not) ⊗ mark k.Null))

  -- name "(" simple { "," simple } ")"
  abbrev pub call : Rule Tree
  call = (λ p. t.Call p.0 p.1) ⊛ (name ⊗ enclosed (list_of k.Comma simple))

  abbrev pub predicate : Rule Tree
  predicate = comparison ⊕ between ⊕ within ⊕ null_test ⊕ call

  -- "(" cond ")" | predicate
  abbrev pub primary : Rule Tree → Rule Tree
  primary inner = enclosed inner ⊕ predicate

  -- primary [ IS [ NOT ] ( TRUE | FALSE | UNKNOWN ) ]
  abbrev pub test : Rule Tree → Rule Tree
  test inner = (λ p. tested p.0 p.1)
      ⊛ (primary inner ⊗ optional (after k.Is (optional (mark k.Not) ⊗ token is_truth_word)))

  -- NOT neg | test
  abbrev pub negation : Rule Tree → Rule Tree → Rule Tree
  negation lower inner = t.Not ⊛ after k.Not lower ⊕ test inner

  -- a part of a conjunction in which at most this many parentheses and NOTs are open at once
  abbrev pub neg : ℕ → Rule Tree
  neg zero = negation nothing nothing
  neg (suc d) = negation (neg d) (disjunction (neg d))

  abbrev pub condition : ℕ → Rule Tree
  condition d = disjunction (neg d)

  -- "," source | CROSS JOIN source | [ INNER ] JOIN source ON cond
  abbrev pub join : ℕ → Rule Source
  join d = after k.Comma source ⊕ after k.Cross (after k.Join source)
      ⊕ (λ p. joined_on p.1.0 p.1.1) ⊛ (optional (mark k.Inner) ⊗ (after k.Join source ⊗ after k.On (condition d)))

  -- SELECT [ ALL | DISTINCT ] items FROM source { join } [ WHERE cond ] [ GROUP BY column { "," column } ]
  -- [ ORDER BY key { "," key } ] [ LIMIT number ]
  abbrev pub statement : ℕ → Rule Statement
  statement d = (λ p. statement_of p.0 p.1.0 p.1.1.0 p.1.1.1.0 p.1.1.1.1.0 p.1.1.1.1.1.0 p.1.1.1.1.1.1)
      ⊛ after k.Select (extent ⊗ (select_list
      ⊗ (after k.From ((λ p. p.0 ∷ p.1) ⊛ (source ⊗ many (join d)))
      ⊗ (optional (after k.Where (condition d)) ⊗ (groups ⊗ (order ⊗ limit))))))

  -- statement { ";" statement } [ ";" ]
  abbrev pub script : ℕ → Rule Script
  script d = (λ p. record { statements = p.0.0 ∷ p.0.1 })
      ⊛ (separated k.Semicolon (statement d) ⊗ optional (mark k.Semicolon))
