-- What is given to a run: the bytes of each file that its words name, or that the file is missing.
use Rattle.std.specs.Prelude.{◌≡◌, ℕ, List, ◌++◌, length, map, codes, Option, Some}
use Rattle.outside.specs.Files.{File, lookup}
use Rattle.command_line.specs.declared.command.Query.{Query}
use Rattle.command_line.specs.declared.command.RemoteWord.{RemoteWord}
use Rattle.command_line.specs.declared.command.TableWord.{TableWord}

-- what is given of the script, of each table and of each remote's heading in the order of the words
pub record Given : Type 0 where
  pub script : Option (List ℕ)
  pub tables : List (Option (List ℕ))
  pub headings : List (Option (List ℕ))

-- the name of the file of a table, and of a remote's heading file
abbrev pub table_file : TableWord → List ℕ
table_file t = t.file

abbrev pub heading_name : List ℕ → List ℕ
heading_name prefix = prefix ++ codes "heading.csv"

abbrev pub heading_file : RemoteWord → List ℕ
heading_file r = heading_name r.prefix

-- what is given of the file of this name is what a folder holds, where it tells that
abbrev pub IsFileGiven : List ℕ → Option (List File) → Option (List ℕ) → Type 0
IsFileGiven name holds found = (files : List File) → holds ≡ Some files → found ≡ lookup files name

-- the same of the files that some words name, one each
pub record AreAllGiven {W : Type 0} (name_of : W → List ℕ) (words : List W) (holds : Option (List File))
    (founds : List (Option (List ℕ))) : Type 0 where
  pub count : length founds ≡ length words
  pub held : (files : List File) → holds ≡ Some files → founds ≡ map (λ (w : W). lookup files (name_of w)) words

-- the same of the files of tables, and of the heading files of remotes
abbrev pub AreFilesGiven : List TableWord → Option (List File) → List (Option (List ℕ)) → Type 0
AreFilesGiven words holds founds = AreAllGiven table_file words holds founds

abbrev pub AreHeadingsGiven : List RemoteWord → Option (List File) → List (Option (List ℕ)) → Type 0
AreHeadingsGiven words holds founds = AreAllGiven heading_file words holds founds

-- the same of tables and of headings, as far as a query's words name them
pub record AreOpenedGiven (q : Query) (holds : Option (List File)) (given : Given) : Type 0 where
  pub tables : AreFilesGiven q.tables holds given.tables
  pub headings : AreHeadingsGiven q.remotes holds given.headings

-- the same of a script, its tables and its headings
pub record IsGiven (q : Query) (holds : Option (List File)) (given : Given) : Type 0 where
  pub script : IsFileGiven q.script holds given.script
  pub opened : AreOpenedGiven q holds given
