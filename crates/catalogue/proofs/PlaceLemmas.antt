-- Places in a list of texts and in the list of their bytes.
use Rattle.std.proofs.Common.{◌≡◌, ℕ, ◌+◌, Bool, not, List, [], ◌∷◌, Option, length, map, cond, refl, sym, ap, ◌∙◌}
use Rattle.std.specs.Prelude.{String, nat_lt, Some, None, position, string_bytes}
use Rattle.std.specs.List.{prefix_len}
use Rattle.std.proofs.lemmas.List.{length-map}
use Rattle.catalogue.specs.Names.{bytes_of}

prefix_len-map : {X Y : Type 0} (f : X → Y) (p : Y → Bool) (xs : List X) → prefix_len p (map f xs) ≡ prefix_len (λ x. p (f x)) xs
prefix_len-map f p [] = refl
prefix_len-map f p (x ∷ xs) = ap (λ n. cond (p (f x)) (1 + n) 0) (prefix_len-map f p xs)

-- where a count below a length is a place
place_at : ℕ → ℕ → Option ℕ
place_at n long = cond (nat_lt n long) (Some n) None

-- a test of bytes finds the same place among the texts
pub position-bytes : {A : Type 0} (p : List ℕ → Bool) (names : List (String A))
    → position (λ name. p (string_bytes name)) names ≡ position p (bytes_of names)
unfolding place_at
position-bytes p names =
    let count = prefix_len-map string_bytes (λ bytes. not (p bytes)) names in
    ap (λ n. place_at n (length names)) (sym count) ∙ ap (place_at (prefix_len (λ bytes. not (p bytes)) (bytes_of names))) (sym (length-map names string_bytes))
