-- For the laws and proofs of the parser: what its functions read, each by the name of its rule of the grammar.
use Rattle.std.specs.Prelude.{ℕ, ℤ, pos, nat_le, zero, suc, Bool, ◌&&◌, ◌||◌, if◌then◌else◌, List, [], ◌∷◌, Option, Some, None, is_some, option_map, unwrap_or, false, Ok, Err}
use Rattle.sq_value.specs.declared.value.Truth.{Truth}
use Rattle.sq_token.specs.declared.mark.Mark.{Mark}
use Rattle.sq_token.specs.declared.mark.Mark.TheVariants as k
use Rattle.sq_parse.specs.declared.stop.Stop.TheVariants as stop
use Rattle.sq_parse.specs.declared.tree.Name.{Name}
use Rattle.sq_parse.specs.declared.tree.ColRef.{ColRef}
use Rattle.sq_parse.specs.declared.tree.Items.{Items}
use Rattle.sq_parse.specs.declared.tree.Items.TheVariants as selected
use Rattle.sq_parse.specs.declared.tree.Item.{Item}
use Rattle.sq_parse.specs.declared.tree.Item.TheVariants as shown
use Rattle.sq_parse.specs.declared.tree.Source.{Source}
use Rattle.sq_parse.specs.declared.tree.OrderItem.{OrderItem}
use Rattle.sq_parse.specs.declared.tree.Statement.{Statement}
use Rattle.sq_parse.specs.declared.tree.Script.{Script}
use Rattle.sq_parse.specs.declared.tree.RawTerm.{RawTerm}
use Rattle.sq_parse.specs.declared.tree.Operand.{Operand}
use Rattle.sq_parse.specs.declared.tree.Operand.TheVariants as o
use Rattle.sq_parse.specs.declared.tree.Tree.{Tree}
use Rattle.sq_parse.specs.declared.tree.Tree.TheVariants as t
use Rattle.sq_expr.specs.declared.shape.AggKind.{AggKind}
use Rattle.sq_expr.specs.declared.shape.AggKind.TheVariants as agg
use Rattle.sq_token.specs.Mark.{is, is_name, is_sign, is_comparison, is_truth_word, is_extent, is_agg, is_reckoned, is_way, is_end}
use Rattle.sq_token.specs.Tok.{Tok, next, behind, done}
use Rattle.sq_parse.specs.Tree.{name_of, column_of, number_term, column_term, signed, sum_of, begin_of, comparison_by, truth_by, tested, all_of, any_of, source_of, joined_on, reckoned_by, agg_item, statement_of}
use Rattle.sq_parse.specs.Reading.{Parser, pure, ◌>>=◌, ◌<$>◌, ◌<+>◌, token, mark, number, choose, optional, many, after, separated, list_of, enclosed, refuse}
use Rattle.sq_parse.specs.Grammar.{Limits}

unfoldable pub name : Parser Name
name = name_of <$> token is_name

unfoldable pub column : Parser ColRef
column = (λ p. column_of p.0 p.1) <$> (name <+> optional (is k.Dot) (after k.Dot name))

-- the value of a number of at most this bound
unfoldable pub value_within : ℕ → Parser ℤ
value_within bound = (λ n. pos n.number) <$> number (λ n. nat_le n bound)

-- a `*` comes behind the next token
abbrev pub is_starred : List Tok → Bool
is_starred ts = is k.Star (next (behind ts))

abbrev pub is_literal : Mark → Bool
is_literal m = is k.Null m || is k.Text m

unfoldable pub literal : Parser Operand
literal = choose (is k.Null) ((λ n. o.Null n.at) <$> mark k.Null) ((λ x. o.Text x.at x.text) <$> mark k.Text)

abbrev pub begins_number : Mark → Bool
begins_number m = is_sign m || is k.Number m

unfoldable pub simple_column : Parser Operand
simple_column = (λ c. sum_of None (column_term c None) []) <$> column

-- a name comes next, and a parenthesis behind it
abbrev pub begins_call : List Tok → Bool
begins_call ts = is_name (next ts) && is k.Open (next (behind ts))

abbrev pub begins_alias : Mark → Bool
begins_alias m = is k.As m || is_name m

unfoldable pub alias : Parser Name
alias = (λ p. p.1) <$> (optional (is k.As) (mark k.As) <+> name)

unfoldable pub optional_alias : Parser (Option Name)
optional_alias = optional begins_alias alias

-- the item of a column that was read
unfoldable pub column_item : ColRef → Parser Item
column_item c = (λ a. shown.Col c a) <$> optional_alias

-- what comes behind a name and a dot
unfoldable pub behind_dot : Name → Parser Item
behind_dot n = choose (is k.Star) ((λ _. shown.AllOf n) <$> mark k.Star)
    (name >>= (λ m. column_item (column_of n (Some m))))

unfoldable pub behind_name : Name → Parser Item
behind_name n = choose (is k.Dot) (after k.Dot (behind_dot n)) (column_item (column_of n None))

unfoldable pub plain_item : Parser Item
plain_item = name >>= behind_name

-- what is counted
unfoldable pub counted : Parser (AggKind × Option ColRef)
counted = choose (is k.Star) ((λ _. (agg.CountAll, None)) <$> mark k.Star) ((λ c. (agg.Count, Some c)) <$> column)

unfoldable pub count_of : Parser (ℕ × (AggKind × Option ColRef))
count_of = (λ p. (p.0.at, p.1)) <$> (mark k.Count <+> enclosed counted)

unfoldable pub reckoned : Parser (ℕ × (AggKind × Option ColRef))
reckoned = (λ p. (p.0.at, (reckoned_by p.0.mark, Some p.1))) <$> (token is_reckoned <+> enclosed column)

unfoldable pub aggregate : Parser (ℕ × (AggKind × Option ColRef))
aggregate = choose (is k.Count) count_of reckoned

unfoldable pub aggregate_item : Parser Item
aggregate_item = (λ p. agg_item p.0.0 p.0.1.0 p.0.1.1 p.1) <$> (aggregate <+> optional_alias)

-- whether an aggregate comes next: its word, and a parenthesis
abbrev pub begins_agg : List Tok → Bool
begins_agg ts = is_agg (next ts) && is k.Open (next (behind ts))

unfoldable pub item : Parser Item
item = λ ts. if begins_agg ts then aggregate_item ts else plain_item ts

unfoldable pub items : Parser (List Item)
items = list_of k.Comma item

unfoldable pub select_list : Parser Items
select_list = choose (is k.Star) ((λ _. selected.Star) <$> mark k.Star) (selected.List <$> items)

unfoldable pub source : Parser Source
source = (λ p. source_of p.0 p.1) <$> (name <+> optional_alias)

-- whether DESC comes next; ASC may come in its place
unfoldable pub falls : Parser Bool
falls = (λ way. unwrap_or (option_map (λ w. is k.Desc w.mark) way) false) <$> optional is_way (token is_way)

-- whether nulls come first, where it is said
unfoldable pub nulls_first : Parser (Option Bool)
nulls_first = (λ end. option_map (λ e. is k.First e.mark) end) <$> optional (is k.Nulls) (after k.Nulls (token is_end))

unfoldable pub key : Parser OrderItem
key = (λ p. record { column = p.0; way = record { descending = p.1.0; nulls_first = unwrap_or p.1.1 p.1.0 } })
    <$> (column <+> (falls <+> nulls_first))

unfoldable pub keys : Parser (List OrderItem)
keys = list_of k.Comma key

unfoldable pub order : Parser (List OrderItem)
order = (λ keys. unwrap_or keys []) <$> optional (is k.Order) (after k.Order (after k.By keys))

-- whether DISTINCT comes next; ALL may come in its place
unfoldable pub extent : Parser Bool
extent = (λ extent. unwrap_or (option_map (λ w. is k.Distinct w.mark) extent) false)
    <$> optional is_extent (token is_extent)

unfoldable pub columns : Parser (List ColRef)
columns = list_of k.Comma column

unfoldable pub groups : Parser (List ColRef)
groups = (λ columns. unwrap_or columns []) <$> optional (is k.Group) (after k.Group (after k.By columns))

unfoldable pub conjunction : Parser Tree → Parser Tree
conjunction neg = (λ p. all_of p.0 p.1) <$> separated k.And neg

unfoldable pub disjunction : Parser Tree → Parser Tree
disjunction neg = (λ p. any_of p.0 p.1) <$> separated k.Or (conjunction neg)

abbrev pub begins_join : Mark → Bool
begins_join m = is k.Comma m || is k.Cross m || is k.Inner m || is k.Join m

unfoldable pub truth : Parser Truth
truth = (λ m. truth_by m.mark) <$> token is_truth_word

module _ (limits : Limits) where
  -- a number, held to the narrow bound where a `*` comes behind it
  unfoldable pub plain_number : Parser Tok
  plain_number = λ ts. if is_starred ts then number limits.narrow ts else number limits.wide ts

  unfoldable pub number_led : Parser RawTerm
  number_led = λ ts. if is_starred ts
      then ((λ p. number_term p.0 (Some p.1)) <$> (number limits.narrow <+> after k.Star column)) ts
      else ((λ n. number_term n None) <$> number limits.wide) ts

  unfoldable pub column_led : Parser RawTerm
  column_led = (λ p. column_term p.0 p.1) <$> (column <+> optional (is k.Star) (after k.Star (number limits.narrow)))

  unfoldable pub term : Parser RawTerm
  term = choose (is k.Number) number_led column_led

  unfoldable pub signed_term : Parser RawTerm
  signed_term = (λ p. signed p.0 p.1) <$> (token is_sign <+> term)

  -- a sum whose first term was read
  unfoldable pub sum_from : ℕ → RawTerm → Parser Operand
  sum_from at first = (λ more. o.Sum at (first ∷ more)) <$> many is_sign signed_term

  unfoldable pub sum : Parser Operand
  sum = choose is_sign (token is_sign >>= (λ s. term >>= (λ first. sum_from s.at (signed s first))))
      (term >>= (λ first. sum_from first.at first))

  unfoldable pub operand : Parser Operand
  operand = choose is_literal literal sum

  unfoldable pub simple_number : Parser Operand
  simple_number = (λ p. sum_of p.0 (number_term p.1 None) []) <$> (optional is_sign (token is_sign) <+> plain_number)

  unfoldable pub simple : Parser Operand
  simple = choose is_literal literal (choose begins_number simple_number simple_column)

  unfoldable pub operands : Parser (List Operand)
  operands = list_of k.Comma operand

  unfoldable pub simples : Parser (List Operand)
  simples = list_of k.Comma simple

  unfoldable pub call : Parser Tree
  call = (λ p. t.Call p.0 p.1) <$> (name <+> enclosed simples)

  -- what comes behind the subject of a predicate
  unfoldable pub comparison : Operand → Parser Tree
  comparison x = (λ p. t.Compare (begin_of x) x (comparison_by p.0.mark) p.1) <$> (token is_comparison <+> operand)

  unfoldable pub null_test : Operand → Parser Tree
  null_test x = (λ p. t.IsNull (begin_of x) (is_some p.0) x)
      <$> after k.Is (optional (is k.Not) (mark k.Not) <+> mark k.Null)

  unfoldable pub between : Operand → Bool → Parser Tree
  between x negated = (λ p. t.Between (begin_of x) negated x p.0 p.1)
      <$> (after k.Between operand <+> after k.And operand)

  unfoldable pub within : Operand → Bool → Parser Tree
  within x negated = (λ all. t.Within (begin_of x) negated x all) <$> after k.In (enclosed operands)

  unfoldable pub ranged : Operand → Parser Tree
  ranged x = optional (is k.Not) (mark k.Not)
      >>= (λ n. choose (is k.Between) (between x (is_some n)) (within x (is_some n)))

  unfoldable pub behind_subject : Operand → Parser Tree
  behind_subject x = choose is_comparison (comparison x) (choose (is k.Is) (null_test x) (ranged x))

  unfoldable pub predicate : Parser Tree
  predicate = λ ts. if begins_call ts then call ts else (operand >>= behind_subject) ts

  unfoldable pub primary : Parser Tree → Parser Tree
  primary inner = choose (is k.Open) inner predicate

  unfoldable pub truth_test : Parser Tree → Parser Tree
  truth_test inner = (λ p. tested p.0 p.1)
      <$> (primary inner <+> optional (is k.Is) (after k.Is (optional (is k.Not) (mark k.Not) <+> token is_truth_word)))

  unfoldable pub negation : Parser Tree → Parser Tree → Parser Tree
  negation lower inner = choose (is k.Not) (t.Not <$> lower) (truth_test inner)

  -- where no more parentheses and NOTs may be open, both are refused
  unfoldable pub neg : ℕ → Parser Tree
  neg zero = negation (refuse stop.TooDeep) (refuse stop.TooDeep)
  neg (suc d) = negation (after k.Not (neg d)) (enclosed (disjunction (neg d)))

  -- NOT and what it stands before
  unfoldable pub denied : ℕ → Parser Tree
  denied zero = refuse stop.TooDeep
  denied (suc d) = after k.Not (neg d)

  -- a condition in parentheses
  unfoldable pub nested : ℕ → Parser Tree
  nested zero = refuse stop.TooDeep
  nested (suc d) = enclosed (disjunction (neg d))

  unfoldable pub primary_at : ℕ → Parser Tree
  primary_at d = primary (nested d)

  unfoldable pub test_at : ℕ → Parser Tree
  test_at d = truth_test (nested d)

  unfoldable pub conjunction_at : ℕ → Parser Tree
  conjunction_at d = conjunction (neg d)

  unfoldable pub condition : ℕ → Parser Tree
  condition d = disjunction (neg d)

  unfoldable pub joined : ℕ → Parser Source
  joined d = (λ p. joined_on p.1.0 p.1.1)
      <$> (optional (is k.Inner) (mark k.Inner) <+> (after k.Join source <+> after k.On (condition d)))

  unfoldable pub join : ℕ → Parser Source
  join d = choose (is k.Comma) (after k.Comma source)
      (choose (is k.Cross) (after k.Cross (after k.Join source)) (joined d))

  unfoldable pub where_condition : ℕ → Parser (Option Tree)
  where_condition d = optional (is k.Where) (after k.Where (condition d))

  unfoldable pub sources : ℕ → Parser (List Source)
  sources d = (λ p. p.0 ∷ p.1) <$> (source <+> many begins_join (join d))

  unfoldable pub count : Parser ℕ
  count = (λ n. n.number) <$> plain_number

  unfoldable pub limit : Parser (Option ℕ)
  limit = optional (is k.Limit) (after k.Limit count)

  unfoldable pub statement : ℕ → Parser Statement
  statement d = (λ p. statement_of p.0 p.1.0 p.1.1.0 p.1.1.1.0 p.1.1.1.1.0 p.1.1.1.1.1.0 p.1.1.1.1.1.1)
      <$> after k.Select (extent
      <+> (select_list <+> (after k.From (sources d) <+> (where_condition d <+> (groups <+> (order <+> limit))))))

  -- why no further statement is read
  abbrev pub no_more : Parser (List Statement)
  no_more = choose (is k.Select) (refuse stop.TooManyStatements) (refuse stop.Syntax)

  -- behind a semicolon, the end or one more statement
  abbrev pub after_semicolon : Parser (List Statement) → Parser (List Statement)
  after_semicolon more = choose (is k.Semicolon)
      (mark k.Semicolon >>= (λ _. λ ts. if done ts then pure [] ts else more ts)) (pure [])

  -- the statements behind the first, at most this many
  unfoldable pub statements : ℕ → ℕ → Parser (List Statement)
  statements d zero = after_semicolon no_more
  statements d (suc n) = after_semicolon (statement d >>= (λ s. (λ more. s ∷ more) <$> statements d n))

  -- a whole list of tokens, as a script of a statement and at most this many more
  unfoldable pub script : ℕ → ℕ → Parser Script
  script d n = statement d >>= (λ s. statements d n
      >>= (λ more. λ ts. if done ts then Ok (record { statements = s ∷ more }, ts) else Err (stop.Syntax, ts)))
