-- What a folder holds: an association list from names to bytes.
use Rattle.std.specs.Prelude.{◌≡◌, ℕ, List, take, Option, None, Some, option_map, nat_eq, find, IfSome, IsSomeAnd}
use Rattle.std.specs.Cmp.Lexicographic.{pointwise}

-- a file: its name and its bytes
pub record File : Type 0 where
  pub name : List ℕ
  pub bytes : List ℕ

-- the file of this name with these bytes
abbrev pub file_of : List ℕ → List ℕ → File
file_of name bytes = record { name = name; bytes = bytes }

-- the bytes of the first file of that name
abbrev pub lookup : List File → List ℕ → Option (List ℕ)
lookup files name = option_map (λ file. file.bytes) (find (λ file. pointwise nat_eq file.name name) files)

-- what a load answers where the folder tells its files: the first bytes of the named one, up to the limit
abbrev pub Gives : Option (List File) → List ℕ → ℕ → List ℕ → Type 0
Gives held name limit bytes = IfSome held (λ files. option_map (take limit) (lookup files name) ≡ Some bytes)

-- the folder tells its files, and none has that name
abbrev pub Lacks : Option (List File) → List ℕ → Type 0
Lacks held name = IsSomeAnd held (λ files. lookup files name ≡ None)

-- what a look answers where the folder tells its files: the first bytes of the named one, up to the limit, or none
-- where it is lacking
abbrev pub Shows : Option (List File) → List ℕ → ℕ → Option (List ℕ) → Type 0
Shows held name limit found = IfSome held (λ files. option_map (take limit) (lookup files name) ≡ found)
