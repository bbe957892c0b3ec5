-- The definitions on small queries whose answers were worked out by hand.
use Rattle.std.proofs.Common.{◌≡◌, ℕ, zero, suc, List, [], ◌∷◌, Bool, true, false, None, refl, pos, arith}
use Rattle.std.specs.Prelude.{codes}
use Rattle.std.specs.Fmt.{digits}
use Rattle.csv.specs.Writing.{fields_text, is_blank}
use Rattle.sq_value.specs.Relation.{Relation}
use Rattle.sq_value.specs.declared.value.Value.{Value}
use Rattle.sq_value.specs.declared.value.Value.TheVariants.{Null, Int, Text}
use Rattle.sq_value.specs.declared.value.Truth.{Truth}
use Rattle.sq_value.specs.declared.value.Truth.TheVariants.{Unknown}
use Rattle.sq_value.specs.declared.value.ColType.TheVariants as kind
use Rattle.sq_value.specs.declared.value.Cmp.{Cmp}
use Rattle.sq_value.specs.declared.value.Cmp.TheVariants.{Eq, Le}
use Rattle.sq_expr.specs.declared.cond.Side.TheVariants as side
use Rattle.sq_expr.specs.declared.cond.Cond.TheVariants.{Compare}
use Rattle.sq_expr.specs.declared.block.AliasUse.{AliasUse}
use Rattle.sq_expr.specs.declared.block.Block.{Block}
use Rattle.sq_expr.specs.declared.block.Conjunct.{Conjunct}
use Rattle.sq_expr.specs.declared.block.OutCol.{OutCol}
use Rattle.sq_expr.specs.declared.block.OrderKey.{OrderKey}
use Rattle.sq_expr.proofs.MeaningLemmas.{truth_of-Compare}
use Rattle.bag_meaning.specs.Bag.{bag, product}
use Rattle.bag_meaning.specs.Answer.{answer_text, answer_order, Rises}
use Rattle.bag_meaning.specs.Credit.{credit}
use Rattle.bag_meaning.specs.declared.combo.Built.{Built}

abbrev pub cust : Relation
cust = record {
  columns = record { name = codes "id"; kind = kind.Integer } ∷ record { name = codes "name"; kind = kind.Text } ∷ [];
  rows = (Int (pos 1) ∷ Text (codes "Ada") ∷ []) ∷ (Int (pos 2) ∷ Text (codes "Bob") ∷ []) ∷ (Int (pos 3) ∷ Null ∷ []) ∷ [];
}

abbrev pub ord : Relation
ord = record {
  columns = record { name = codes "oid"; kind = kind.Integer } ∷ record { name = codes "cid"; kind = kind.Integer }
      ∷ record { name = codes "amt"; kind = kind.Integer } ∷ [];
  rows = (Int (pos 10) ∷ Int (pos 1) ∷ Int (pos 5) ∷ []) ∷ (Int (pos 11) ∷ Int (pos 1) ∷ Int (pos 7) ∷ [])
      ∷ (Int (pos 12) ∷ Int (pos 2) ∷ Int (pos 5) ∷ []) ∷ (Int (pos 13) ∷ Null ∷ Int (pos 9) ∷ []) ∷ [];
}

abbrev pub scanned : ℕ → AliasUse
scanned table = record { table = table; access = record { scan = true; look_up = None } }

abbrev pub compared_columns : ℕ → ℕ → Cmp → ℕ → ℕ → Conjunct
compared_columns a c how b d = record {
  cond = Compare (side.Column record { alias = a; column = c }) how (side.Column record { alias = b; column = d });
  span = 3;
}

abbrev pub out : ℕ → ℕ → List ℕ → OutCol
out a c name = record { alias = a; column = c; name = name }

abbrev pub no_meaning : ℕ → Value → Value → Truth
no_meaning k x y = Unknown

-- SELECT name, amt FROM cust c, ord o WHERE c.id = o.cid
abbrev pub orders_by : List OrderKey → Block
orders_by order = record {
  aliases = scanned 0 ∷ scanned 1 ∷ [];
  conjuncts = compared_columns 0 0 Eq 1 1 ∷ [];
  output = out 0 1 (codes "name") ∷ out 1 2 (codes "amt") ∷ [];
  order = order;
}

abbrev pub cust_ord : List Relation
cust_ord = cust ∷ ord ∷ []

orders-bag : bag no_meaning (orders_by []) cust_ord ≡ (0 ∷ 0 ∷ []) ∷ (0 ∷ 1 ∷ []) ∷ (1 ∷ 2 ∷ []) ∷ []
unfolding product bag
orders-bag = simp truth_of-Compare

orders-text : answer_text (orders_by []) cust_ord ((0 ∷ 0 ∷ []) ∷ (0 ∷ 1 ∷ []) ∷ (1 ∷ 2 ∷ []) ∷ []) ≡ codes "name,amt\nAda,5\nAda,7\nBob,5\n"
unfolding answer_text fields_text is_blank digits
orders-text = refl

-- the same with ORDER BY amt DESC: the tie keeps the product's order
abbrev pub by_amount : Block
by_amount = orders_by (record { alias = 1; column = 2; way = record { descending = true; nulls_first = true } } ∷ [])

orders-rise : Rises (answer_order by_amount cust_ord) ((0 ∷ 1 ∷ []) ∷ (0 ∷ 0 ∷ []) ∷ (1 ∷ 2 ∷ []) ∷ [])
orders-rise zero h = refl
orders-rise (suc zero) h = refl
orders-rise (suc (suc k)) h = absurd (omega arith)

-- a build log, and which of its stamps have a match: the latest part alone counts
abbrev pub log : List Built
log = record { alias = 0; row = 0 } ∷ record { alias = 1; row = 1 } ∷ record { alias = 1; row = 2 } ∷ record { alias = 1; row = 0 } ∷ record { alias = 0; row = 1 } ∷ []

credit-0 : credit no_meaning (orders_by []) cust_ord log 0 ≡ []
unfolding credit
credit-0 = rw orders-bag refl

credit-1 : credit no_meaning (orders_by []) cust_ord log 1 ≡ (0 ∷ 1 ∷ []) ∷ []
unfolding credit
credit-1 = rw orders-bag refl

credit-2 : credit no_meaning (orders_by []) cust_ord log 2 ≡ []
unfolding credit
credit-2 = rw orders-bag refl

credit-3 : credit no_meaning (orders_by []) cust_ord log 3 ≡ (0 ∷ 0 ∷ []) ∷ []
unfolding credit
credit-3 = rw orders-bag refl

credit-4 : credit no_meaning (orders_by []) cust_ord log 4 ≡ (1 ∷ 2 ∷ []) ∷ []
unfolding credit
credit-4 = rw orders-bag refl

credit-5 : credit no_meaning (orders_by []) cust_ord log 5 ≡ []
unfolding credit
credit-5 = rw orders-bag refl

-- SELECT o.oid FROM ord o, ord p WHERE o.cid = p.cid AND o.oid <= p.oid
abbrev pub own_pairs : Block
own_pairs = record {
  aliases = scanned 1 ∷ scanned 1 ∷ [];
  conjuncts = compared_columns 0 1 Eq 1 1 ∷ compared_columns 0 0 Le 1 0 ∷ [];
  output = out 0 0 (codes "oid") ∷ [];
  order = [];
}

own_pairs-bag : bag no_meaning own_pairs cust_ord ≡ (0 ∷ 0 ∷ []) ∷ (0 ∷ 1 ∷ []) ∷ (1 ∷ 1 ∷ []) ∷ (2 ∷ 2 ∷ []) ∷ []
unfolding product bag
own_pairs-bag = simp truth_of-Compare

own_pairs-text : answer_text own_pairs cust_ord ((0 ∷ 0 ∷ []) ∷ (0 ∷ 1 ∷ []) ∷ (1 ∷ 1 ∷ []) ∷ (2 ∷ 2 ∷ []) ∷ []) ≡ codes "oid\n10\n10\n11\n12\n"
unfolding answer_text fields_text is_blank digits
own_pairs-text = refl

-- SELECT name FROM cust: without a condition all rows match, and a null alone in its record is written as two quotes
abbrev pub names : Block
names = record { aliases = scanned 0 ∷ []; conjuncts = []; output = out 0 1 (codes "name") ∷ []; order = [] }

names-bag : bag no_meaning names cust_ord ≡ (0 ∷ []) ∷ (1 ∷ []) ∷ (2 ∷ []) ∷ []
unfolding product bag
names-bag = refl

names-text : answer_text names cust_ord ((2 ∷ []) ∷ []) ≡ codes "name\n\"\"\n"
unfolding answer_text fields_text is_blank digits
names-text = refl

-- where a table has no rows the product has no combination
product-empty : product (3 ∷ 0 ∷ []) ≡ []
unfolding product
product-empty = refl

-- SELECT oid FROM ord ORDER BY cid DESC, nulls first and then last
abbrev pub by_customer : Bool → Block
by_customer nulls_first = record {
  aliases = scanned 1 ∷ [];
  conjuncts = [];
  output = out 0 0 (codes "oid") ∷ [];
  order = record { alias = 0; column = 1; way = record { descending = true; nulls_first = nulls_first } } ∷ [];
}

nulls_first-rise : Rises (answer_order (by_customer true) cust_ord) ((3 ∷ []) ∷ (2 ∷ []) ∷ (0 ∷ []) ∷ (1 ∷ []) ∷ [])
nulls_first-rise zero h = refl
nulls_first-rise (suc zero) h = refl
nulls_first-rise (suc (suc zero)) h = refl
nulls_first-rise (suc (suc (suc k))) h = absurd (omega arith)

nulls_last-rise : Rises (answer_order (by_customer false) cust_ord) ((2 ∷ []) ∷ (0 ∷ []) ∷ (1 ∷ []) ∷ (3 ∷ []) ∷ [])
nulls_last-rise zero h = refl
nulls_last-rise (suc zero) h = refl
nulls_last-rise (suc (suc zero)) h = refl
nulls_last-rise (suc (suc (suc k))) h = absurd (omega arith)

-- SELECT * FROM t, u WHERE t.c = u.d, and with the tables exchanged
abbrev pub small : List Relation
small =
    record {
      columns = record { name = codes "c"; kind = kind.Integer } ∷ record { name = codes "k"; kind = kind.Integer } ∷ [];
      rows = (Int (pos 1) ∷ Int (pos 10) ∷ []) ∷ (Int (pos 2) ∷ Int (pos 20) ∷ []) ∷ [];
    }
    ∷ record {
      columns = record { name = codes "d"; kind = kind.Integer } ∷ [];
      rows = (Int (pos 2) ∷ []) ∷ (Int (pos 1) ∷ []) ∷ (Int (pos 2) ∷ []) ∷ [];
    } ∷ []

abbrev pub all_columns : Block
all_columns = record {
  aliases = scanned 0 ∷ scanned 1 ∷ [];
  conjuncts = compared_columns 0 0 Eq 1 0 ∷ [];
  output = out 0 0 (codes "c") ∷ out 0 1 (codes "k") ∷ out 1 0 (codes "d") ∷ [];
  order = [];
}

all_columns-bag : bag no_meaning all_columns small ≡ (0 ∷ 1 ∷ []) ∷ (1 ∷ 0 ∷ []) ∷ (1 ∷ 2 ∷ []) ∷ []
unfolding product bag
all_columns-bag = simp truth_of-Compare

all_columns-text : answer_text all_columns small ((0 ∷ 1 ∷ []) ∷ (1 ∷ 0 ∷ []) ∷ (1 ∷ 2 ∷ []) ∷ []) ≡ codes "c,k,d\n1,10,1\n2,20,2\n2,20,2\n"
unfolding answer_text fields_text is_blank digits
all_columns-text = refl

abbrev pub exchanged : Block
exchanged = record {
  aliases = scanned 1 ∷ scanned 0 ∷ [];
  conjuncts = compared_columns 0 0 Eq 1 0 ∷ [];
  output = out 0 0 (codes "d") ∷ out 1 0 (codes "c") ∷ out 1 1 (codes "k") ∷ [];
  order = [];
}

exchanged-bag : bag no_meaning exchanged small ≡ (0 ∷ 1 ∷ []) ∷ (1 ∷ 0 ∷ []) ∷ (2 ∷ 1 ∷ []) ∷ []
unfolding product bag
exchanged-bag = simp truth_of-Compare

exchanged-text : answer_text exchanged small ((0 ∷ 1 ∷ []) ∷ (1 ∷ 0 ∷ []) ∷ (2 ∷ 1 ∷ []) ∷ []) ≡ codes "d,c,k\n2,2,20\n1,1,10\n2,2,20\n"
unfolding answer_text fields_text is_blank digits
exchanged-text = refl
