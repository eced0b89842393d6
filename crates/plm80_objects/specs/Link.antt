-- What `link` writes and prints, and what `lib` writes.
-- (ISIS-II User's Guide, LINK and LIB. The form of the lines is this project's own.)
use Rattle.std.specs.Prelude.{◌≡◌, ◌⊎◌, ℕ, Bool, true, false, Option, Some, None, IsTrue, List, [], ◌∷◌, ◌++◌, length, map, codes}
use Rattle.std.specs.List.{flat_map, repeat}
use Rattle.omf_core.specs.Name.{is_name}
use Rattle.omf_model.specs.Modules.{ModuleValue}
use Rattle.omf_module.specs.Writing.{file_bytes}
use Rattle.link80_select.specs.{declared.chosen.Chosen.Chosen, Selected.module_at}
use Rattle.link80.specs.{declared.linking.Linked.Linked, Selection.IsSelection}
use Rattle.link80_text.specs.{Parts.IsMade, Parts.modules_of, Parts.parts_text, Parts.unresolved_text, Reasons.PrintsReasons}
use Rattle.plm80_console.specs.{Answer.AnswerValue, Answer.writes, Journal.FileValue, Journal.Journal}
use Rattle.plm80_files.specs.declared.link_feed.LinkFile.TheVariants.{Modules, Library}
use Rattle.plm80_files.specs.{LinkFiles.SpellsEither, declared.link_feed.LinkFile.LinkFile}
use Rattle.plm80_objects.specs.{declared.link.LinkArguments.LinkArguments, declared.link.LinkFiles.LinkFiles}
use Rattle.plm80_objects.specs.{declared.link.RootFile.RootFile, declared.helpers.link_lines.LinkLines.LinkLines, Read.AreRead}

-- the path of each module of a file
abbrev pub paths_of : RootFile → List (List ℕ)
paths_of file = repeat file.modules (file.path.now ∷ [])

-- the path of each module's file
abbrev pub root_paths : List RootFile → List (List ℕ)
root_paths files = flat_map paths_of files

-- the modules of an object file come behind the others, each with its path
pub record AddsModules (modules : List ModuleValue) (path : List ℕ) (before after : LinkFiles) : Type 0 where
  pub roots : after.roots.items ≡ before.roots.items ++ modules
  pub paths_of_roots : root_paths after.root_files.items ≡ root_paths before.root_files.items ++ repeat (length modules) (path ∷ [])
  pub libraries : after.libraries ≡ before.libraries
  pub paths : after.paths ≡ before.paths

-- a library comes behind the others with its path
pub record AddsLibrary (library : List ModuleValue) (path : List ℕ) (before after : LinkFiles) : Type 0 where
  pub roots : after.roots ≡ before.roots
  pub root_files : after.root_files ≡ before.root_files
  pub libraries : after.libraries.items ≡ before.libraries.items ++ library ∷ []
  pub paths : map (λ p. p.now) after.paths.items ≡ map (λ p. p.now) before.paths.items ++ path ∷ []

abbrev pub AddsFile : LinkFile → (path : List ℕ) → (before after : LinkFiles) → Type 0
AddsFile (Modules ms) path before after = AddsModules ms.items path before after
AddsFile (Library library) path before after = AddsLibrary library path before after

-- the files are these, each read as what its first byte says, in order
pub data AreLinkFilesOf : List FileValue → LinkFiles → Type 0 where
  none : (files : LinkFiles) → files.roots.items ≡ [] → files.root_files.items ≡ [] → files.libraries.items ≡ [] → files.paths.items ≡ []
      → AreLinkFilesOf [] files
  more : (read : List FileValue) (before after : LinkFiles) (file : FileValue) (is : LinkFile) → AreLinkFilesOf read before
      → SpellsEither file.bytes is → AddsFile is file.path before after → AreLinkFilesOf (read ++ file ∷ []) after

-- all of these files were read, and this is what they have
abbrev pub AreLinkFilesRead : (paths : List (List ℕ)) → (old new : Journal) → LinkFiles → Type 0
AreLinkFilesRead = AreRead AreLinkFilesOf

-- a word, a name, and a line feed
abbrev pub named_line : (word name : List ℕ) → List ℕ
named_line word name = word ++ name ++ 10 ∷ []

-- the line of a module that was taken
abbrev pub line_of_taken : Option ModuleValue → List ℕ
line_of_taken None = []
line_of_taken (Some m) = named_line (codes "TAKEN ") m.name

-- the line of the one at a place
abbrev pub taken_line : List (List ModuleValue) → Chosen → List ℕ
taken_line libraries place = line_of_taken (module_at libraries place)

-- the lines of the modules that were taken, in their order
abbrev pub taken_text : List (List ModuleValue) → List Chosen → List ℕ
taken_text libraries taken = flat_map (taken_line libraries) taken

-- the lines of names that no module declares
abbrev pub names_text : List (List ℕ) → List ℕ
names_text names = flat_map (named_line (codes "UNRESOLVED ")) names

-- with the map: a line for each module that needs a name that no module declares, and one for each part
abbrev pub map_text : List ModuleValue → List ℕ
map_text modules = unresolved_text modules ++ parts_text modules

abbrev pub rest_text : (map : Bool) → List ModuleValue → Linked → List ℕ
rest_text true modules made = map_text modules
rest_text false modules made = names_text made.unresolved.items

-- the lines of the modules that were taken; each with its reason if reasons are asked for, and the search finds them
abbrev pub PrintsTaken : (reasons : Bool) → (roots : List ModuleValue) → (libraries : List (List ModuleValue))
    → (paths : List (List ℕ)) → (taken : List Chosen) → (text : List ℕ) → Type 0
PrintsTaken true roots libraries paths taken text =
    PrintsReasons roots libraries taken paths taken [] text ⊎ (text ≡ taken_text libraries taken)
PrintsTaken false roots libraries paths taken text = text ≡ taken_text libraries taken

-- the lines of a link: of the modules that were taken; and of what is unresolved, with the parts if the map is asked for
pub record PrintsLink (wanted : LinkLines) (roots : List ModuleValue) (libraries : List (List ModuleValue))
    (paths : List (List ℕ)) (made : Linked) (lines : List ℕ) : Type 0 where
  pub taken : List ℕ
  pub printed : PrintsTaken wanted.reasons roots libraries paths made.taken.items taken
  pub lines_are : lines ≡ taken ++ rest_text wanted.map (modules_of roots libraries made) made

-- the object file of the linked module goes to its path, and the lines are printed
pub record WritesLinked (path : List ℕ) (wanted : LinkLines) (roots : List ModuleValue) (libraries : List (List ModuleValue))
    (paths : List (List ℕ)) (made : Linked) (answer : AnswerValue) : Type 0 where
  pub lines : List ℕ
  pub printed : PrintsLink wanted roots libraries paths made lines
  pub answer_is : answer ≡ writes path (file_bytes (made.module ∷ [])) lines

-- the modules are linked into one of this name, which is written
pub record LinksInto (path : List ℕ) (wanted : LinkLines) (name : List ℕ) (files : LinkFiles) (answer : AnswerValue) : Type 0 where
  pub made : Linked
  pub selection : IsSelection files.roots.items files.libraries.items made.taken.items
  pub is_made : IsMade files.roots.items files.libraries.items made
  pub name_is : made.module.name ≡ name
  pub writes : WritesLinked path wanted files.roots.items files.libraries.items (map (λ p. p.now) files.paths.items) made answer

-- the same of files that were read, by the arguments, whose name is one of a module
pub record LinksFiles (arguments : LinkArguments) (read : List FileValue) (answer : AnswerValue) : Type 0 where
  pub named : IsTrue (is_name arguments.name.text.now)
  pub files : LinkFiles
  pub are : AreLinkFilesOf read files
  pub links : LinksInto arguments.out.now arguments.lines arguments.name.text.now files answer
