-- The text of `--remote`: items with a comma between each two, each a remote's name, `.`, a column, `=` and a prefix of
-- files' names.
use Rattle.std.specs.Prelude.{ℕ, ◌+◌, Bool, true, not, ◌&&◌, nat_lt, nat_le, List, [], ◌∷◌, length, map, Option, Some, None, if◌then◌else◌}
use Rattle.std.specs.List.{list_all, list_any, before_first, after_first, slice_split}
use Rattle.sq_value.specs.Name.{is_same_name}
use Rattle.command_line.specs.Tables.{is_identifier, is_equals, has_name}
use Rattle.command_line.specs.Accesses.{is_comma, is_dot}
use Rattle.command_line.specs.declared.command.RemoteWord.{RemoteWord}
use Rattle.command_line.specs.declared.command.TableWord.{TableWord}

-- the remote of a name, and of what stands behind its `.`: the column before the first `=` of that, and the prefix
-- behind it
abbrev pub remote_with : List ℕ → List ℕ → RemoteWord
remote_with name rest =
    record { name = name; column = before_first is_equals rest; prefix = after_first is_equals rest }

-- the remote of an item: its name stands before the first `.`
abbrev pub remote_of_item : List ℕ → RemoteWord
remote_of_item item = remote_with (before_first is_dot item) (after_first is_dot item)

-- whether a remote has a regular identifier of 1 to 64 bytes as its name, and a column's name and a prefix that aren't
-- empty
abbrev pub is_remote : RemoteWord → Bool
is_remote r =
    is_identifier r.name && nat_le (length r.name) 64 && nat_lt 0 (length r.column) && nat_lt 0 (length r.prefix)

-- whether a remote has this name, but for the case of ASCII letters
abbrev pub is_called : List ℕ → RemoteWord → Bool
is_called name r = is_same_name r.name name

-- whether a name is that of no table and of none of these remotes
abbrev pub is_new : List TableWord → List RemoteWord → List ℕ → Bool
is_new tables remotes name = not (list_any (has_name name) tables) && not (list_any (is_called name) remotes)

-- whether no remote has the name of a table, and no two remotes have the same name
unfoldable pub remotes_differ : List TableWord → List RemoteWord → Bool
remotes_differ tables [] = true
remotes_differ tables (r ∷ others) =
    is_new tables others r.name && remotes_differ tables others

-- remotes, where they are 4 at most, and 16 at most with the tables, each in form, and their names are new and differ
abbrev pub if_in_form : List TableWord → List RemoteWord → Option (List RemoteWord)
if_in_form tables remotes =
    if nat_le (length remotes) 4 && nat_le (length tables + length remotes) 16 && list_all is_remote remotes
    && remotes_differ tables remotes
    then Some remotes else None

-- the remotes that `--remote` asks for: none where it isn't given, else those of its text, which is cut at each comma
abbrev pub remotes_of : List TableWord → Option (List ℕ) → Option (List RemoteWord)
remotes_of tables None = Some []
remotes_of tables (Some text) = if_in_form tables (map remote_of_item (slice_split is_comma text))
