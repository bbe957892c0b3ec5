-- One row of one table, which each alias uses.
use Rattle.std.proofs.Common.{◌≡◌, ℕ, zero, suc, ◌<◌, ◌*◌, ◌^◌, ◌%◌, List, [], ◌∷◌, length, get_or, replicate, Option, Some, refl, ap, sym, ◌∙◌, arith, subst}
use Rattle.std.specs.Prelude.{All, IsBitSet, slice_get, slice_index, slice_index_or, option_and_then}
use Rattle.std.proofs.Math.Pow.{pow-lt}
use Rattle.std.specs.Int.{bit_at}
use Rattle.std.proofs.lemmas.List.Elements.{All-weaker}
use Rattle.std.proofs.lemmas.Nat.Bits.{bit_at-pow_same}
use Rattle.sq_value.specs.Relation.{Relation, cell}
use Rattle.sq_value.specs.declared.predicate.Kinds.{Kinds}
use Rattle.sq_value.specs.declared.value.Value.{Value}
use Rattle.sq_value.specs.declared.value.Value.TheVariants as value
use Rattle.sq_expr.specs.Fits.{HasRow}
use Rattle.sq_expr.specs.declared.block.Block.{Block}
use Rattle.sq_expr.specs.declared.block.Conjunct.{Conjunct}
use Rattle.remote_lookup.specs.Own.{FitsOwn, FitOwn, IsReadyOwn}
use Rattle.remote_lookup.proofs.OwnBits.{bit_set}
use Rattle.remote_lookup.proofs.OwnLemmas.{own-covers}

pub repeated : {X : Type 0} (n i : ℕ) (x : X) → i < n → slice_get (replicate n x) i ≡ Some x
repeated zero i x low = absurd (omega (arith, low))
repeated (suc n) zero x low = refl
repeated (suc n) (suc i) x low = repeated n i x (omega (arith, low))

indexed : (n i x : ℕ) → i < n → slice_index (replicate n x) i ≡ x
indexed zero i x low = absurd (omega (arith, low))
indexed (suc n) zero x low = refl
indexed (suc n) (suc i) x low = indexed n i x (omega (arith, low))

pub word : (a : ℕ) → a < 12 → 1 * 2 ^ a % 65536 ≡ 2 ^ a
word a low =
    let few : 2 ^ a < 2 ^ 12 = pow-lt low in
    omega (arith, few)

pub ready_own : (kinds : ℕ → Option Kinds) (tables : List Relation) (table a row : ℕ) (block : Block) (t : Relation) → a < 12
    → slice_get tables table ≡ Some t → row < length t.rows → FitOwn kinds tables table a block
    → All (IsReadyOwn kinds tables (replicate 12 table) (replicate 12 row) (1 * 2 ^ a % 65536) a) block.conjuncts
ready_own kinds tables table a row block t low is there fit =
    All-weaker (FitsOwn kinds tables table a) (IsReadyOwn kinds tables (replicate 12 table) (replicate 12 row) (1 * 2 ^ a % 65536) a) one block.conjuncts fit
  where
    set' : IsBitSet (1 * 2 ^ a % 65536) a
    set' = bit_set (1 * 2 ^ a % 65536) a (ap (λ (n : ℕ). bit_at n a) (word a low) ∙ bit_at-pow_same a)

    has : HasRow tables (replicate 12 table) (replicate 12 row) a
    has = record {
      table = t;
      is = ap (slice_get tables) (indexed 12 a table low) ∙ is;
      row = subst (λ (n : ℕ). n < length t.rows) (sym (indexed 12 a row low)) there;
    }

    one : (c : Conjunct) → FitsOwn kinds tables table a c → IsReadyOwn kinds tables (replicate 12 table) (replicate 12 row) (1 * 2 ^ a % 65536) a c
    one c h = record {
      of = h.span;
      fits = h.fits;
      covered = λ own. own-covers tables (replicate 12 table) (replicate 12 row) (1 * 2 ^ a % 65536) a c.cond own set' has;
    }

-- the value of a cell
pub cell_value : (t : Relation) (row column : ℕ) (cells : List Value) (v : Value) → cell t row column ≡ Some v → slice_get t.rows row ≡ Some cells
    → slice_index_or cells column value.Null ≡ v
cell_value t row column cells v there is =
    let got : slice_get cells column ≡ Some v =
    sym (ap (λ (o : Option (List Value)). option_and_then (λ (r : List Value). slice_get r column) o) is) ∙ there in
    got_or cells column v got
  where
    got_or : (vs : List Value) (k : ℕ) (v : Value) → slice_get vs k ≡ Some v → get_or vs k value.Null ≡ v
    got_or [] k v e = absurd cc
    got_or (w ∷ vs) zero v e = cc
    got_or (w ∷ vs) (suc k) v e = got_or vs k v e
