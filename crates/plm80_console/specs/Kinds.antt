-- What the kinds of arguments are: which name a file, and which name one that is written.
use Rattle.std.specs.Prelude.{ℕ, Bool, true, false, List, ◌++◌, codes}
use Rattle.std.specs.Str.{bytes_eq}
use Rattle.plm80_console.specs.declared.syntax.Kind.{Kind}
use Rattle.plm80_console.specs.declared.syntax.Kind.TheVariants.{Path, Paths, Words, Written, WrittenOption, WrittenIfGiven, Replaced, Required, Number, Count, Flag, PathsAt, PathInPlaceOf}

-- its value is the path of a file that is written
abbrev pub is_written : Kind → Bool
is_written Written = true
is_written (WrittenOption word) = true
is_written (WrittenIfGiven word) = true
is_written (Replaced word old) = true
is_written _ = false

-- its values name no file
abbrev pub names_no_file : Kind → Bool
names_no_file Words = true
names_no_file (Required word) = true
names_no_file (Number word) = true
names_no_file (Count default) = true
names_no_file Flag = true
names_no_file _ = false

-- the file that it writes may be the one that the argument of this name reads
abbrev pub may_replace : Kind → (name : List ℕ) → Bool
may_replace (Replaced word old) name = bytes_eq name old.now
may_replace _ name = false

-- how clap's errors show an argument: a position by its name, an option with the word for its value
abbrev pub value_shown : (name word : List ℕ) → List ℕ
value_shown name word = codes "--" ++ (name ++ (codes " <" ++ (word ++ codes ">")))

abbrev pub shown_text : Kind → (name : List ℕ) → List ℕ
shown_text Path name = codes "<" ++ (name ++ codes ">")
shown_text Written name = codes "<" ++ (name ++ codes ">")
shown_text Paths name = codes "<" ++ (name ++ codes ">...")
shown_text Words name = codes "<" ++ (name ++ codes ">...")
shown_text (Required word) name = value_shown name word.now
shown_text (WrittenOption word) name = value_shown name word.now
shown_text (WrittenIfGiven word) name = value_shown name word.now
shown_text (Replaced word old) name = value_shown name word.now
shown_text (Number word) name = value_shown name word.now
shown_text (PathsAt word) name = value_shown name word.now
shown_text Flag name = codes "--" ++ name
shown_text (Count default) name = value_shown name (codes "N")
shown_text (PathInPlaceOf others) name = value_shown name (codes "FILE")
