-- Where in the modules the cause of a fault of LINK is, line by line.
-- (ISIS-II User's Guide, LINK: multiply defined publics, segments that overflow, several main modules. The form of the lines is
-- this project's own.)
use Rattle.std.specs.Prelude.{◌≡◌, ℕ, if◌then◌else◌, Option, Some, None, option_map, List, [], ◌∷◌, ◌++◌, codes, filter_map, map, take, slice_get, slice_index_or}
use Rattle.std.specs.List.{flat_map, enumerate_from}
use Rattle.std.specs.Option.{option_map_or}
use Rattle.omf_core.specs.Name.{same_name}
use Rattle.omf_model.specs.declared.segment.Segment.{Segment}
use Rattle.omf_model.specs.declared.symbols.Common.{Common}
use Rattle.omf_model.specs.declared.symbols.Public.{Public}
use Rattle.omf_model.specs.Segments.{is_used, segment_in}
use Rattle.omf_model.specs.Modules.{ModuleValue}
use Rattle.link80_select.specs.declared.chosen.Chosen.{Chosen}
use Rattle.link80.specs.declared.fault.LinkFault.{LinkFault}
use Rattle.link80.specs.declared.fault.LinkFault.TheVariants.{DuplicatePublic, SegmentTooLong, TwoMains, HighNotPaged, TooManyCommons, Memory, TooManyExternals}
use Rattle.link80.specs.LinkFault.{link_fault}
use Rattle.link80.specs.Selection.{IsSelection, CannotBeLinked, modules_with}
use Rattle.link80_text.specs.declared.causes.high_bytes.HighByte.{HighByte}
use Rattle.link80_text.specs.HighBytes.{first_high}
use Rattle.link80_text.specs.ShownPaths.{shown_path}
use Rattle.omf_text.specs.Places.{place_words, part_words}

-- the files of linked modules, by their numbers: those of the roots, and those of the libraries that the others are taken from
abbrev pub files_with : (root_files library_files : List (List ℕ)) → List Chosen → List (List ℕ)
files_with root_files library_files taken = root_files ++ map (λ place. slice_index_or library_files place.library []) taken

-- ---- a name that is public twice: the first two publics that have it, by module and then by record

-- the number of a module, if a public has the name; and once for each of its publics that has it
abbrev pub declaration : List ℕ → ℕ → Public → Option ℕ
declaration name number p = if same_name p.name name then Some number else None

abbrev pub declarations_in : List ℕ → ℕ × ModuleValue → List ℕ
declarations_in name m = filter_map (declaration name m.0) m.1.publics

abbrev pub declarations : List ModuleValue → List ℕ → List ℕ
declarations modules name = flat_map (declarations_in name) (enumerate_from 0 modules)

-- ---- main programs: the modules that have a start

abbrev pub main_number : ℕ × ModuleValue → Option ℕ
main_number m = option_map (λ start. m.0) m.1.start

abbrev pub mains : List ModuleValue → List ℕ
mains modules = filter_map main_number (enumerate_from 0 modules)

-- ---- lines

-- the module with a number, by its name, and its file
abbrev pub module_words : (files : List (List ℕ)) → (number : ℕ) → (name : List ℕ) → List ℕ
module_words files number name = name ++ (codes " of " ++ shown_path (slice_index_or files number []))

-- a module with its number, and what it does
abbrev pub deed_line : (files : List (List ℕ)) → (does : List ℕ) → (number : ℕ) → (name : List ℕ) → List ℕ
deed_line files does number name = codes "  " ++ (module_words files number name ++ (does ++ 10 ∷ []))

-- the line of the module with a number
abbrev pub line_of : (files : List (List ℕ)) → List ModuleValue → (does : List ℕ) → ℕ → List ℕ
line_of files modules does number = option_map_or (λ m. deed_line files does number m.name) (slice_get modules number) []

-- those of the first two of these
abbrev pub first_two : (files : List (List ℕ)) → List ModuleValue → (does : List ℕ) → List ℕ → List ℕ
first_two files modules does numbers = flat_map (line_of files modules does) (take 2 numbers)

-- a high byte in a module with this name and these commons: where the part starts, and where the fixup is
abbrev pub use_line : (files : List (List ℕ)) → (name : List ℕ) → List Common → HighByte → List ℕ
use_line files name commons h =
    codes "  " ++ (module_words files h.source name ++ (codes " uses the high byte of " ++ (place_words commons h.target h.start
    ++ (codes " at " ++ (place_words commons h.segment h.offset ++ 10 ∷ [])))))

-- the line of a high byte
abbrev pub high_line : (files : List (List ℕ)) → List ModuleValue → HighByte → List ℕ
high_line files modules h = option_map_or (λ m. use_line files m.name m.commons h) (slice_get modules h.source) []

abbrev pub high_text : (files : List (List ℕ)) → List ModuleValue → Option HighByte → List ℕ
high_text files modules found = option_map_or (high_line files modules) found []

-- a part of the module with a number and a name
abbrev pub used_line : (files : List (List ℕ)) → (id : ℕ) → Segment → (number : ℕ) → (name : List ℕ) → List ℕ
used_line files id part number name = codes "  " ++ (part_words id part ++ 32 ∷ (module_words files number name ++ 10 ∷ []))

-- the line of the part that a module, with its number, has of CODE, DATA or STACK, if it has bytes or is paged
abbrev pub part_line : (files : List (List ℕ)) → (id : ℕ) → ℕ × ModuleValue → List ℕ
part_line files id m =
    if is_used (segment_in m.1.segments id) then used_line files id (segment_in m.1.segments id) m.0 m.1.name else []

abbrev pub parts_text : (files : List (List ℕ)) → List ModuleValue → (id : ℕ) → List ℕ
parts_text files modules id = flat_map (part_line files id) (enumerate_from 0 modules)

-- ---- the lines of a fault

abbrev pub cause_text : (files : List (List ℕ)) → List ModuleValue → LinkFault → List ℕ
cause_text files modules (DuplicatePublic name) = first_two files modules (codes " declares it") (declarations modules name)
cause_text files modules (SegmentTooLong id) = parts_text files modules id
cause_text files modules TwoMains = first_two files modules (codes " is a main program") (mains modules)
cause_text files modules HighNotPaged = high_text files modules (first_high modules)
cause_text files modules TooManyCommons = []
cause_text files modules Memory = []
cause_text files modules TooManyExternals = []

-- A text with these lines behind it, of the modules that a link of these roots and libraries has. If they can't be linked for this
-- cause, it is the first of just these modules.
pub record PrintsCause (roots : List ModuleValue) (root_files : List (List ℕ)) (libraries : List (List ModuleValue))
    (library_files : List (List ℕ)) (fault : LinkFault) (before after : List ℕ) : Type 0 where
  pub taken : List Chosen
  pub selection : IsSelection roots libraries taken
  pub first : CannotBeLinked roots libraries fault → link_fault (modules_with roots libraries taken) ≡ Some fault
  pub after_is : after ≡ before ++ cause_text (files_with root_files library_files taken) (modules_with roots libraries taken) fault
