-- Two bands, worked out by hand: FROM x, y, z WHERE y.due BETWEEN x.low AND x.high AND x.low < z.at AND z.at <= y.due.
use Rattle.std.proofs.Common.{◌≡◌, inl, inr, ℕ, [], ◌∷◌, true, false, Some, None, refl, sym, replicate, lit≤}
use Rattle.std.proofs.lemmas.Bool.{false≢true}
use Rattle.sq_value.specs.declared.value.Cmp.TheVariants.{Lt, Le, Gt, Ge}
use Rattle.sq_expr.specs.declared.cond.ColumnOf.{ColumnOf}
use Rattle.sq_expr.specs.declared.cond.Side.TheVariants as side
use Rattle.sq_expr.specs.declared.cond.Cond.TheVariants.{Compare}
use Rattle.sq_expr.specs.declared.block.AliasUse.{AliasUse}
use Rattle.sq_expr.specs.declared.block.Block.{Block}
use Rattle.sq_expr.specs.declared.block.Conjunct.{Conjunct}
use Rattle.tuple_span.specs.declared.route.Via.TheVariants as via
use Rattle.eddy_meaning.specs.Tuple.{Tuple}
use Rattle.eddy_meaning.specs.Faithful.{is_finished}
use Rattle.eddy_meaning.specs.Hops.{HasHops}
use Rattle.eddy_meaning.specs.Route.{IsLegalBand, conjuncts_of, hopped, mark_all, joined, with_stamp, single}

-- x has the columns low and high, y has due, and z has at
abbrev low : ColumnOf
low = record { alias = 0; column = 0 }

abbrev high : ColumnOf
high = record { alias = 0; column = 1 }

abbrev due : ColumnOf
due = record { alias = 1; column = 0 }

abbrev at' : ColumnOf
at' = record { alias = 2; column = 0 }

abbrev scanned : ℕ → AliasUse
scanned table = record { table = table; access = record { scan = true; look_up = None } }

abbrev from_low : Conjunct
from_low = record { cond = Compare (side.Column due) Ge (side.Column low); span = 3 }

abbrev to_high : Conjunct
to_high = record { cond = Compare (side.Column due) Le (side.Column high); span = 3 }

abbrev above_low : Conjunct
above_low = record { cond = Compare (side.Column low) Lt (side.Column at'); span = 5 }

abbrev to_due : Conjunct
to_due = record { cond = Compare (side.Column at') Le (side.Column due); span = 6 }

abbrev three : Block
three = record {
  aliases = scanned 0 ∷ scanned 1 ∷ scanned 2 ∷ [];
  conjuncts = from_low ∷ to_high ∷ above_low ∷ to_due ∷ [];
  output = [];
  order = [];
}

-- row 5 of x arrives, and is built at stamp 9
abbrev arrived : Tuple
arrived = single 0 5

abbrev built : Tuple
built = hopped (with_stamp 9 arrived)

-- the probe of y by the conjuncts 0 and 1 is legal; row 6 of y comes of it
first : IsLegalBand three built 1 (scanned 1) 0
first = record {
  scanned = refl;
  own = due;
  of = refl;
  first = record { conjunct = from_low; at = refl; undone = refl; cmp = Ge; other = low; compares = inl refl; covered = refl; range = ((λ e. cc), (λ e. cc)) };
  second = record { conjunct = to_high; at = refl; undone = refl; cmp = Le; other = high; compares = inl refl; covered = refl; range = ((λ e. cc), (λ e. cc)) };
  apart = λ e. false≢true (sym e);
}

abbrev pair : Tuple
pair = hopped (mark_all (conjuncts_of (via.Band 0)) (joined 1 6 built))

-- the probe of z by the conjuncts 2 and 3 is legal then, where z.at stands behind < and before <=; row 7 of z comes of it
second : IsLegalBand three pair 2 (scanned 2) 2
second = record {
  scanned = refl;
  own = at';
  of = refl;
  first = record { conjunct = above_low; at = refl; undone = refl; cmp = Gt; other = low; compares = inr refl; covered = refl; range = ((λ e. cc), (λ e. cc)) };
  second = record { conjunct = to_due; at = refl; undone = refl; cmp = Le; other = due; compares = inl refl; covered = refl; range = ((λ e. cc), (λ e. cc)) };
  apart = λ e. false≢true (sym e);
}

abbrev triple : Tuple
triple = hopped (mark_all (conjuncts_of (via.Band 2)) (joined 2 7 pair))

-- it is finished after four hops: 3 parts and 4 done conjuncts
is_triple : triple ≡ record {
  parts = Some 5 ∷ Some 6 ∷ Some 7 ∷ replicate 9 None;
  stamp = Some 9;
  done = true ∷ true ∷ true ∷ true ∷ replicate 44 false;
  hops = 4;
}
is_triple = refl

finished : is_finished three triple ≡ true
finished = refl

has_hops : HasHops triple
has_hops = record { wide = refl; parts = lit≤ tt; done = lit≤ tt; most = lit≤ tt }
