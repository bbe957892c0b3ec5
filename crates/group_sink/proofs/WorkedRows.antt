-- The definitions on small statements whose lines were worked out by hand.
use Rattle.std.proofs.Common.{◌≡◌, ℕ, List, [], ◌∷◌, true, false, Some, None, refl, pos}
use Rattle.std.specs.Prelude.{codes}
use Rattle.std.specs.Fmt.{digits}
use Rattle.csv.specs.Writing.{fields_text, is_blank}
use Rattle.sq_value.specs.Decimal.{decimal_text}
use Rattle.sq_value.specs.Relation.{Relation}
use Rattle.sq_value.specs.declared.value.SortWay.{SortWay}
use Rattle.sq_value.specs.declared.value.Value.TheVariants.{Null, Int, Text, Decimal}
use Rattle.sq_value.specs.declared.value.ColType.TheVariants as kind
use Rattle.sq_expr.specs.declared.cond.ColumnOf.{ColumnOf}
use Rattle.sq_expr.specs.declared.block.Block.{Block}
use Rattle.sq_expr.specs.declared.shape.AggKind.{AggKind}
use Rattle.sq_expr.specs.declared.shape.AggKind.TheVariants as agg
use Rattle.sq_expr.specs.declared.shape.Cell.{Cell}
use Rattle.sq_expr.specs.declared.shape.Shape.{Shape}
use Rattle.sq_expr.specs.declared.shape.SortOn.TheVariants as sort
use Rattle.group_sink.specs.Lines.{in_product_order, lines_of, lines_text}
use Rattle.group_sink.specs.declared.line.Out.{Out}
use Rattle.group_sink.specs.declared.line.Out.TheVariants.{Number}
use Rattle.group_sink.specs.declared.line.Out.TheVariants as out

-- oid, cid and amt of four orders
abbrev ord : Relation
ord = record {
  columns = record { name = codes "oid"; kind = kind.Integer } ∷ record { name = codes "cid"; kind = kind.Integer }
      ∷ record { name = codes "amt"; kind = kind.Integer } ∷ [];
  rows = (Int (pos 10) ∷ Int (pos 1) ∷ Int (pos 5) ∷ []) ∷ (Int (pos 11) ∷ Int (pos 1) ∷ Int (pos 7) ∷ [])
      ∷ (Int (pos 12) ∷ Int (pos 2) ∷ Int (pos 5) ∷ []) ∷ (Int (pos 13) ∷ Null ∷ Int (pos 9) ∷ []) ∷ [];
}

abbrev over_one : Block
over_one = record {
  aliases = record { table = 0; access = record { scan = true; look_up = None } } ∷ [];
  conjuncts = [];
  output = record { alias = 0; column = 0; name = codes "oid" } ∷ [];
  order = [];
}

abbrev column : ℕ → ColumnOf
column c = record { alias = 0; column = c }

abbrev plain : ℕ → Cell
plain c = record { agg = None; column = column c; name = codes "c" }

abbrev over : AggKind → ℕ → Cell
over kind c = record { agg = Some kind; column = column c; name = codes "k" }

abbrev rising : SortWay
rising = record { descending = false; nulls_first = false }

abbrev falling : SortWay
falling = record { descending = true; nulls_first = true }

abbrev first_of_four : List (List ℕ)
first_of_four = (0 ∷ []) ∷ (1 ∷ []) ∷ (2 ∷ []) ∷ (3 ∷ []) ∷ []

abbrev number : ℕ → Out
number n = Number (pos n) 0

-- SELECT cid, COUNT(*), SUM(amt) FROM ord GROUP BY cid ORDER BY COUNT(*) DESC: nulls are one group, and of the lines
-- that tie that of the earlier member is first
abbrev by_customer : Shape
by_customer = record {
  grouped = true;
  keys = column 1 ∷ [];
  cells = plain 1 ∷ over agg.CountAll 0 ∷ over agg.Sum 2 ∷ [];
  order = record { on = sort.Cell 1; way = falling } ∷ [];
  distinct = false;
  limit = None;
}

worked_groups : lines_of over_one (ord ∷ []) by_customer first_of_four
    ≡ (number 1 ∷ number 2 ∷ number 12 ∷ []) ∷ (number 2 ∷ number 1 ∷ number 5 ∷ []) ∷ (out.Null ∷ number 1 ∷ number 9 ∷ []) ∷ []
unfolding lines_of
worked_groups = refl

-- members are put in the order of the product first
worked_order : in_product_order ((3 ∷ []) ∷ (1 ∷ []) ∷ (0 ∷ []) ∷ (2 ∷ []) ∷ []) ≡ first_of_four
worked_order = refl

-- SELECT COUNT(cid), MIN(amt), MAX(amt) FROM ord, over no members and over all
abbrev of_all : Shape
of_all = record {
  grouped = true;
  keys = [];
  cells = over agg.Count 1 ∷ over agg.Min 2 ∷ over agg.Max 2 ∷ [];
  order = [];
  distinct = false;
  limit = None;
}

worked_none : lines_of over_one (ord ∷ []) of_all [] ≡ (number 0 ∷ out.Null ∷ out.Null ∷ []) ∷ []
unfolding lines_of
worked_none = refl

worked_all : lines_of over_one (ord ∷ []) of_all first_of_four ≡ (number 3 ∷ number 5 ∷ number 9 ∷ []) ∷ []
unfolding lines_of
worked_all = refl

-- with GROUP BY no members are no groups
worked_no_groups : lines_of over_one (ord ∷ []) by_customer [] ≡ []
unfolding lines_of
worked_no_groups = refl

-- SELECT SUM(cid) over the last member alone, whose cid is null: of no values the sum is null
worked_null_sum : lines_of over_one (ord ∷ []) record of_all { cells = over agg.Sum 1 ∷ over agg.Count 1 ∷ over agg.CountAll 0 ∷ [] } ((3 ∷ []) ∷ [])
    ≡ (out.Null ∷ number 0 ∷ number 1 ∷ []) ∷ []
unfolding lines_of
worked_null_sum = refl

-- SELECT DISTINCT amt FROM ord ORDER BY amt LIMIT n
abbrev told_apart : ℕ → Shape
told_apart n = record {
  grouped = false;
  keys = [];
  cells = plain 2 ∷ [];
  order = record { on = sort.Cell 0; way = rising } ∷ [];
  distinct = true;
  limit = Some n;
}

worked_apart : lines_of over_one (ord ∷ []) (told_apart 2) first_of_four ≡ (number 5 ∷ []) ∷ (number 7 ∷ []) ∷ []
unfolding lines_of
worked_apart = refl

worked_limit : lines_of over_one (ord ∷ []) (told_apart 0) first_of_four ≡ []
unfolding lines_of
worked_limit = refl

-- SELECT cid FROM ord ORDER BY oid DESC: a column that isn't a cell
worked_column : lines_of over_one (ord ∷ [])
    record { grouped = false; keys = []; cells = plain 1 ∷ []; order = record { on = sort.Column (column 0); way = falling } ∷ []; distinct = false; limit = None }
    first_of_four ≡ (out.Null ∷ []) ∷ (number 2 ∷ []) ∷ (number 1 ∷ []) ∷ (number 1 ∷ []) ∷ []
unfolding lines_of
worked_column = refl

-- SELECT SUM(x) of two that together pass 64 bits
abbrev big : Relation
big = record {
  columns = record { name = codes "x"; kind = kind.Integer } ∷ [];
  rows = (Int (pos 9223372036854775807) ∷ []) ∷ (Int (pos 9223372036854775807) ∷ []) ∷ [];
}

worked_sum : lines_of over_one (big ∷ []) record of_all { cells = over agg.Sum 0 ∷ [] } ((0 ∷ []) ∷ (1 ∷ []) ∷ [])
    ≡ (number 18446744073709551614 ∷ []) ∷ []
unfolding lines_of
worked_sum = refl

-- SELECT SUM(d), MIN(d), MAX(t) of a decimal column of two places and of texts: sums are of units
abbrev priced : Relation
priced = record {
  columns = record { name = codes "d"; kind = kind.Decimal 2 } ∷ record { name = codes "t"; kind = kind.Text } ∷ [];
  rows = (Decimal record { units = pos 150; scale = 2 } ∷ Text (codes "b") ∷ []) ∷ (Null ∷ Text (codes "ab") ∷ [])
      ∷ (Decimal record { units = pos 25; scale = 2 } ∷ Null ∷ []) ∷ [];
}

worked_decimals : lines_of over_one (priced ∷ [])
    record of_all { cells = over agg.Sum 0 ∷ over agg.Min 0 ∷ over agg.Min 1 ∷ over agg.Max 1 ∷ [] } ((0 ∷ []) ∷ (1 ∷ []) ∷ (2 ∷ []) ∷ [])
    ≡ (Number (pos 175) 2 ∷ Number (pos 25) 2 ∷ out.Text (codes "ab") ∷ out.Text (codes "b") ∷ []) ∷ []
unfolding lines_of
worked_decimals = refl

-- the text: a heading, and a record for each line; one that shows nothing is two quotes
worked_text : lines_text (told_apart 2) ((number 5 ∷ []) ∷ (out.Null ∷ []) ∷ (Number (pos 1234) 2 ∷ []) ∷ []) ≡ codes "c\n5\n\"\"\n12.34\n"
unfolding lines_text decimal_text fields_text is_blank digits
worked_text = refl
