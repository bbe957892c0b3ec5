-- Words that name tables: a name, `=` and a file.
use Rattle.std.specs.Prelude.{ℕ, Bool, true, false, not, ◌&&◌, ◌||◌, ◌==◌, nat_lt, nat_le, List, [], ◌∷◌, length, map, Option, Some, None, if◌then◌else◌}
use Rattle.std.specs.List.{list_all, list_any, before_first, after_first}
use Rattle.std.specs.Char.{is_ascii_alphabetic, is_ascii_digit}
use Rattle.sq_value.specs.Name.{is_same_name}
use Rattle.command_line.specs.declared.command.TableWord.{TableWord}

-- whether a byte begins a regular identifier, an ASCII letter or `_`, and whether it may follow
abbrev pub begins_identifier : ℕ → Bool
begins_identifier b = is_ascii_alphabetic b || (b == 95)

abbrev pub follows_in_identifier : ℕ → Bool
follows_in_identifier b = begins_identifier b || is_ascii_digit b

-- whether a text is a regular identifier
abbrev pub is_identifier : List ℕ → Bool
is_identifier [] = false
is_identifier (b ∷ bs) = begins_identifier b && list_all follows_in_identifier bs

-- whether a byte is `=`
abbrev pub is_equals : ℕ → Bool
is_equals b = b == 61

-- the name and the file of a word: what stands before its first `=`, and what stands behind it
abbrev pub table_of_word : List ℕ → TableWord
table_of_word word = record { name = before_first is_equals word; file = after_first is_equals word }

-- whether a table has a regular identifier of 1 to 64 bytes as its name, and a file's name that isn't empty
abbrev pub is_named_file : TableWord → Bool
is_named_file t = is_identifier t.name && nat_le (length t.name) 64 && nat_lt 0 (length t.file)

-- whether a table has this name, but for the case of ASCII letters
abbrev pub has_name : List ℕ → TableWord → Bool
has_name name t = is_same_name t.name name

-- whether no two tables have the same name
unfoldable pub names_differ : List TableWord → Bool
names_differ [] = true
names_differ (t ∷ ts) = not (list_any (has_name t.name) ts) && names_differ ts

-- the tables of some words, where they are 1 to 16, each a name and a file, and the names differ
abbrev pub tables_of : List (List ℕ) → Option (List TableWord)
tables_of words =
    let tables = map table_of_word words in
    if nat_lt 0 (length tables) && nat_le (length tables) 16 && list_all is_named_file tables && names_differ tables
    then Some tables else None
