-- Keys of two lists together.
use Rattle.std.proofs.Common.{◌≡◌, ℕ, ◌+◌, Bool, true, false, List, [], ◌∷◌, ◌++◌, length, map, refl, ap, sym, ◌∙◌, arith}
use Rattle.std.specs.Prelude.{◌&&◌, ◌||◌, ◌==◌, ℤ, filter, Result}
use Rattle.std.specs.List.{flat_map}
use Rattle.std.specs.Ordering.{int_eq}
use Rattle.std.proofs.lemmas.Grind.{flat_map-append}
use Rattle.std.proofs.lemmas.List.{length-append, map-append}
use Rattle.std.proofs.lemmas.List.Elements.{filter-append}
use Rattle.std.proofs.lemmas.List.Folds.{list_any-append}
use Rattle.sq_value.specs.declared.value.Value.{Value}
use Rattle.remote_lookup.specs.Filled.{keys_at}
use Rattle.remote_lookup.specs.Rounds.{Cause, lists_key, rows_of_file, row_count_of}
use Rattle.remote_lookup.specs.Working.{AreJoined}
use Rattle.remote_lookup.specs.declared.remote.RemoteKey.{RemoteKey}

or_false : (b : Bool) → b ≡ (b || false)
or_false true = refl
or_false false = refl

or_assoc : (a b c : Bool) → ((a || b) || c) ≡ (a || (b || c))
or_assoc true b c = refl
or_assoc false b c = refl

-- what stands between others may stand behind them
or_moved : (f t b : Bool) → (f || (t || b)) ≡ ((f || b) || (t || false))
or_moved true t b = refl
or_moved false true true = refl
or_moved false true false = refl
or_moved false false true = refl
or_moved false false false = refl

pub has_append : (xs ys : List RemoteKey) (remote : ℕ) (key : ℤ) → lists_key (xs ++ ys) remote key ≡ (lists_key xs remote key || lists_key ys remote key)
has_append xs ys remote key = list_any-append (λ (k : RemoteKey). (k.remote == remote) && int_eq k.key key) xs ys

keys_append : (xs ys : List RemoteKey) (remote : ℕ) → keys_at (xs ++ ys) remote ≡ keys_at xs remote ++ keys_at ys remote
keys_append xs ys remote =
    ap (λ (l : List RemoteKey). map (λ (k : RemoteKey). k.key) l) (filter-append (λ (k : RemoteKey). k.remote == remote) xs ys)
    ∙ map-append (λ (k : RemoteKey). k.key) (filter (λ (k : RemoteKey). k.remote == remote) xs) (filter (λ (k : RemoteKey). k.remote == remote) ys)

pub count_append : (xs ys : List RemoteKey) (remote : ℕ) → length (keys_at (xs ++ ys) remote) ≡ length (keys_at xs remote) + length (keys_at ys remote)
count_append xs ys remote = ap (length {A = ℤ}) (keys_append xs ys remote) ∙ length-append (keys_at xs remote) (keys_at ys remote)

pub rows_append : (file : ℕ → ℤ → Result (List (List Value)) Cause) (xs ys : List RemoteKey) (remote : ℕ)
    → row_count_of file (xs ++ ys) remote ≡ row_count_of file xs remote + row_count_of file ys remote
rows_append file xs ys remote =
    ap (λ (l : List ℤ). length (flat_map (λ (k : ℤ). rows_of_file (file remote k)) l)) (keys_append xs ys remote)
    ∙ ap (length {A = List Value}) (flat_map-append (λ (k : ℤ). rows_of_file (file remote k)) (keys_at xs remote) (keys_at ys remote))
    ∙ length-append (flat_map (λ (k : ℤ). rows_of_file (file remote k)) (keys_at xs remote)) (flat_map (λ (k : ℤ). rows_of_file (file remote k)) (keys_at ys remote))

-- with none there are the same keys
pub joined_none : (keys : List RemoteKey) → AreJoined keys [] keys
joined_none keys = record {
  has = λ remote key. or_false (lists_key keys remote key);
  size = omega arith;
  count = λ remote. omega arith;
  rows = λ file remote. omega arith;
}

-- a key between others is one behind them
pub joined_between : (front back : List RemoteKey) (k : RemoteKey) → AreJoined (front ++ back) (k ∷ []) (front ++ k ∷ back)
joined_between front back k = record {
  has = λ remote key. let itself : Bool = (k.remote == remote) && int_eq k.key key in
      has_append front (k ∷ back) remote key
      ∙ or_moved (lists_key front remote key) itself (lists_key back remote key)
      ∙ ap (λ (b : Bool). b || (itself || false)) (sym (has_append front back remote key));
  size = omega (arith, length-append front (k ∷ back), length-append front back);
  count = λ remote. omega (arith, count_append front (k ∷ back) remote, count_append (k ∷ []) back remote, count_append front back remote);
  rows = λ file remote. omega (arith, rows_append file front (k ∷ back) remote, rows_append file (k ∷ []) back remote, rows_append file front back remote);
}

-- and further ones are behind those
pub joined_more : (a b c d e : List RemoteKey) → AreJoined a b c → AreJoined c d e → AreJoined a (b ++ d) e
joined_more a b c d e one two = record {
  has = λ remote key.
      two.has remote key
      ∙ ap (λ (t : Bool). t || lists_key d remote key) (one.has remote key)
      ∙ or_assoc (lists_key a remote key) (lists_key b remote key) (lists_key d remote key)
      ∙ ap (λ (t : Bool). lists_key a remote key || t) (sym (has_append b d remote key));
  size = omega (arith, one.size, two.size, length-append b d);
  count = λ remote. omega (arith, one.count remote, two.count remote, count_append b d remote);
  rows = λ file remote. omega (arith, one.rows file remote, two.rows file remote, rows_append file b d remote);
}
