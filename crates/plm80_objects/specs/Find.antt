-- What `find` prints of the files in which it looks for modules.
-- (The form of the lines and the status are this project's own.)
use Rattle.std.specs.Prelude.{◌≡◌, ℕ, Bool, true, false, ◌&&◌, List, [], ◌∷◌, ◌++◌}
use Rattle.rom80_find.specs.{Dump.DumpValue, Found.PrintsMembers, Found.PrintsModules}
use Rattle.plm80_files.specs.declared.link_feed.LinkFile.TheVariants.{Modules, Library}
use Rattle.plm80_files.specs.{declared.link_feed.LinkFile.LinkFile, LinkFiles.SpellsEither}
use Rattle.plm80_console.specs.{Answer.AnswerValue, Answer.prints, Journal.FileValue, Journal.Journal}
use Rattle.plm80_objects.specs.{declared.find.FindArguments.FindArguments, Arguments.WritesWord, Compare.IsDump, Read.AreRead}

-- what is found of a file's modules behind a text, and whether all of an object file's are there; of a library's some may be missing
abbrev pub PrintsFile : DumpValue → LinkFile → (are_there : Bool) → (before after : List ℕ) → Type 0
PrintsFile dump (Modules ms) are_there before after = PrintsModules dump ms.items are_there before after
PrintsFile dump (Library library) are_there before after = PrintsMembers dump library before after × (are_there ≡ true)

-- the texts of files one after another, and whether in none of them a module is missing
pub data PrintsFiles (dump : DumpValue) : List LinkFile → (are_there : Bool) → (text : List ℕ) → Type 0 where
  none : PrintsFiles dump [] true []
  more : (files : List LinkFile) (file : LinkFile) (were_there are_there : Bool) (before after : List ℕ)
      → PrintsFiles dump files were_there before → PrintsFile dump file are_there before after
      → PrintsFiles dump (files ++ file ∷ []) (were_there && are_there) after

-- the status is 0 if none is missing
abbrev pub status_of : (are_there : Bool) → ℕ
status_of true = 0
status_of false = 1

pub record PrintsFound (dump : DumpValue) (files : List LinkFile) (answer : AnswerValue) : Type 0 where
  pub are_there : Bool
  pub text : List ℕ
  pub found : PrintsFiles dump files are_there text
  pub answer_is : answer ≡ prints text (status_of are_there)

-- what files are, each by its bytes, in order
pub data AreLinkFiles : List FileValue → List LinkFile → Type 0 where
  none : AreLinkFiles [] []
  more : (files : List FileValue) (are : List LinkFile) (file : FileValue) (is : LinkFile)
      → AreLinkFiles files are → SpellsEither file.bytes is → AreLinkFiles (files ++ file ∷ []) (are ++ is ∷ [])

-- all of these files were read, and this is what they are
abbrev pub AreFilesRead : (paths : List (List ℕ)) → (old new : Journal) → List LinkFile → Type 0
AreFilesRead = AreRead AreLinkFiles

-- what is printed of the dump that the first file has, from the option's first address on, and of the files behind it
pub record FindsModules (arguments : FindArguments) (read : List FileValue) (answer : AnswerValue) : Type 0 where
  pub dump : FileValue
  pub files : List FileValue
  pub read_are : read ≡ dump ∷ files
  pub first : ℕ
  pub first_is : WritesWord arguments.first first
  pub whole : IsDump first dump.bytes
  pub are : List LinkFile
  pub are_files : AreLinkFiles files are
  pub answer_is : PrintsFound (record { first = first; bytes = dump.bytes }) are answer
