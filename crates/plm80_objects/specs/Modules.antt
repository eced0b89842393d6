-- What `module`, `map`, `locate` and `lib` answer to object files.
-- (ISIS-II User's Guide, LOCATE and LIB. The form of the lines is this project's own.)
use Rattle.std.specs.Prelude.{◌≡◌, ℕ, false, List, [], ◌∷◌, ◌++◌, Option, None, map}
use Rattle.std.specs.List.{flat_map}
use Rattle.omf_model.specs.Modules.{ModuleValue}
use Rattle.omf_module.specs.Spelled.{SpellsFile}
use Rattle.image80.specs.declared.range.Range.{Range}
use Rattle.omf_library.specs.Writing.{is_too_large, library_bytes}
use Rattle.omf_text.specs.ModuleText.{module_text}
use Rattle.place80.specs.{declared.options.Options.Options, Layout.layout_of, PlaceFault.locate_fault}
use Rattle.place80_text.specs.Map.{IsMap}
use Rattle.plm80_console.specs.Journal.{FileValue, Journal, OnlyReports, and_blamed, and_read_files, paths_of}
use Rattle.board80.specs.declared.line.Kind.TheVariants.{Ram, Rom}
use Rattle.board80.specs.declared.line.Line.{Line}
use Rattle.plm80_boards.specs.Boards.{AreRangesIn}
use Rattle.plm80_console.specs.{Answer.AnswerValue, Answer.prints, Replaced.GaveUpKeeping, Replaced.IsReplacedKeeping}
use Rattle.plm80_objects.specs.Locate.{WritesProgram, fault_of, unmapped_of}
use Rattle.plm80_objects.specs.{declared.library.LibraryArguments.LibraryArguments, declared.locate.LocateArguments.LocateArguments}
use Rattle.plm80_objects.specs.{declared.map.MapArguments.MapArguments, Arguments.AreNumbersOf, Read.AreRead}

-- an answer to the modules of one object file
pub record AnswersModules (Answers : List ModuleValue → AnswerValue → Type 0) (files : List FileValue) (answer : AnswerValue) : Type 0 where
  pub file : FileValue
  pub files_are : files ≡ file ∷ []
  pub modules : List ModuleValue
  pub spelled : SpellsFile file.bytes modules
  pub answers : Answers modules answer

-- the lines of all modules are printed, in order
abbrev pub DescribesModules : List ModuleValue → AnswerValue → Type 0
DescribesModules modules answer = answer ≡ prints (flat_map module_text modules) 0

-- an answer to the one module of an object file
pub record OfProgram (Answers : ModuleValue → AnswerValue → Type 0) (modules : List ModuleValue) (answer : AnswerValue) : Type 0 where
  pub program : ModuleValue
  pub alone : modules ≡ program ∷ []
  pub answers : Answers program answer

-- the map of a program that can be located is printed
pub record PrintsMap (options : Options) (program : ModuleValue) (answer : AnswerValue) : Type 0 where
  pub none : locate_fault options program ≡ None
  pub is_map : IsMap (layout_of options program) program answer.lines
  pub answer_is : answer ≡ prints answer.lines 0

pub record MapsFile (arguments : MapArguments) (files : List FileValue) (answer : AnswerValue) : Type 0 where
  pub options : Options
  pub are_options : AreNumbersOf arguments.options options
  pub answers : AnswersModules (OfProgram (PrintsMap options)) files answer

-- the image of a program that can be located, for which the board has memory if it is named, and its regions are written
pub record WritesLocated (arguments : LocateArguments) (options : Options) (rom ram : List Range) (program : ModuleValue)
    (answer : AnswerValue) : Type 0 where
  pub none : fault_of arguments.restart options program ≡ None
  pub on_board : unmapped_of rom ram arguments.restart options program ≡ None
  pub writes : WritesProgram arguments.image.now arguments.regions.now arguments.restart arguments.publics options program answer

-- the same of one file, with the memory of the board, or that which the options name if there is no board
pub record LocatesFile (arguments : LocateArguments) (board : Option (List Line)) (files : List FileValue) (answer : AnswerValue) : Type 0 where
  pub options : Options
  pub are_options : AreNumbersOf arguments.options options
  pub rom : List Range
  pub is_rom : AreRangesIn Rom board (map (λ range. range.now) arguments.rom.items) rom
  pub ram : List Range
  pub is_ram : AreRangesIn Ram board (map (λ range. range.now) arguments.ram.items) ram
  pub answers : AnswersModules (OfProgram (WritesLocated arguments options rom ram)) files answer

-- ---- lib

-- the modules of object files, one after another
pub data AreModulesOf : List FileValue → List ModuleValue → Type 0 where
  none : AreModulesOf [] []
  more : (files : List FileValue) (modules : List ModuleValue) (file : FileValue) (own : List ModuleValue)
      → AreModulesOf files modules → SpellsFile file.bytes own → AreModulesOf (files ++ file ∷ []) (modules ++ own)

-- all of these files were read, and these are their modules
abbrev pub AreAllRead : (paths : List (List ℕ)) → (old new : Journal) → List ModuleValue → Type 0
AreAllRead = AreRead AreModulesOf

abbrev pub library_paths : LibraryArguments → List (List ℕ)
library_paths arguments = map (λ path. path.now) arguments.files.items

-- The files were read, and the library of their modules, which one library can hold, was written. (That a copy of an object file in its place is
-- kept before is tested.)
pub record WritesLibrary (arguments : LibraryArguments) (old new : Journal) (status : ℕ) : Type 0 where
  pub between : Journal
  pub modules : List ModuleValue
  pub read : AreAllRead (library_paths arguments) old between modules
  pub fits : is_too_large modules ≡ false
  pub replaced : IsReplacedKeeping arguments.library.now (library_bytes modules) between new
  pub status_is : status ≡ 0

-- With the bytes of these files one library holds no modules of the files of these paths, whatever bytes the others have.
abbrev pub NoLibrary : (paths : List (List ℕ)) → List FileValue → Type 0
NoLibrary paths files = (others : List FileValue) (modules : List ModuleValue) → paths_of (files ++ others) ≡ paths
    → AreModulesOf (files ++ others) modules → is_too_large modules ≡ false → ⊥

-- No library was written, which was reported: nothing was tried, and files were blamed only if there is none of their modules; or the files
-- were read, and then the library's path was tried, and may be spoiled, or a copy kept.
pub data GivesUpLibrary (arguments : LibraryArguments) (old new : Journal) : Type 0 where
  before : OnlyReports (library_paths arguments) old new → GivesUpLibrary arguments old new
  unanswered : (files : List FileValue) (rest : List (List ℕ)) → library_paths arguments ≡ paths_of files ++ rest
      → NoLibrary (library_paths arguments) files → new ≡ and_blamed (and_read_files old files) → GivesUpLibrary arguments old new
  within : (between : Journal) (modules : List ModuleValue) → AreAllRead (library_paths arguments) old between modules
      → GaveUpKeeping arguments.library.now between new → GivesUpLibrary arguments old new
