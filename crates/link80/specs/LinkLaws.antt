-- What LINK keeps: the bytes of its modules, wherever they are located.
-- (ISIS-II User's Guide: LINK, then LOCATE.)
use Rattle.std.specs.Prelude.{◌≡◌, ◌≤◌, ℕ, true, false, Option, None, List, [], ◌∷◌, option_map, filter_map, slice_get, IsTrue}
use Rattle.std.specs.List.{AllByRecursion, enumerate_from}
use Rattle.omf_model.specs.Segments.{segment_in}
use Rattle.omf_model.specs.Modules.{ModuleValue}
use Rattle.omf_model.specs.Rules.{IsModule, keeps_rules}
use Rattle.omf_model.specs.Place.{Bases, place_in, is_laid_out}
use Rattle.omf_model.specs.ImageByte.{chunks_of, image_byte}
use Rattle.omf_model.specs.HighReferences.{any_loses_low_byte}
use Rattle.link80.specs.Linked.{parts_end, linked_length, linked_parts, linked, starts}
use Rattle.link80.specs.LinkFault.{link_fault}

-- The chunks of the linked module alone are those of the modules: for all bases, tops and words under which no fixup of the
-- linked module loses its low byte.
abbrev pub LinkedChunksAreTheModules : Type 0
LinkedChunksAreTheModules =
    (name : List ℕ) (modules : List ModuleValue) (bases : Bases)
    → AllByRecursion IsModule modules
    → link_fault modules ≡ None
    → any_loses_low_byte bases (linked name modules ∷ []) ≡ false
    → chunks_of bases (linked name modules ∷ []) ≡ chunks_of bases modules

-- So are the bytes, at every address.
abbrev pub LinkedBytesAreTheModules : Type 0
LinkedBytesAreTheModules =
    (name : List ℕ) (modules : List ModuleValue) (bases : Bases)
    → AllByRecursion IsModule modules
    → link_fault modules ≡ None
    → any_loses_low_byte bases (linked name modules ∷ []) ≡ false
    → (address : ℕ) → image_byte bases (linked name modules ∷ []) address ≡ image_byte bases modules address

-- The linked module keeps the rules of modules.
abbrev pub LinkedModuleKeepsRules : Type 0
LinkedModuleKeepsRules =
    (name : List ℕ) (modules : List ModuleValue)
    → AllByRecursion IsModule modules
    → link_fault modules ≡ None
    → IsTrue (keeps_rules (linked_parts name modules))

-- The lengths of the linked module's segments are words, if those of its modules are.
abbrev pub HasWordLengths : ModuleValue → Type 0
HasWordLengths m = (id : ℕ) → (segment_in m.segments id).length ≤ 65535

abbrev pub LinkedLengthsAreWords : Type 0
LinkedLengthsAreWords =
    (modules : List ModuleValue) (id : ℕ)
    → AllByRecursion HasWordLengths modules
    → link_fault modules ≡ None
    → linked_length modules id ≤ 65535

-- The parts of CODE, DATA and STACK lie one after another and end at a word; and no part ends before what lies before it.
abbrev pub LaidPartsEndAtWords : Type 0
LaidPartsEndAtWords =
    (modules : List ModuleValue) (id : ℕ) → link_fault modules ≡ None → is_laid_out id ≡ true → parts_end id 0 modules ≤ 65535

abbrev pub PartsEndLater : Type 0
PartsEndLater = (id before : ℕ) (modules : List ModuleValue) → before ≤ parts_end id before modules

-- where the start of one of the modules lies
abbrev pub start_within : Bases → List ModuleValue → ℕ × ModuleValue → ℕ × ℕ → ℕ
start_within bases modules m start = place_in bases modules m.0 m.1 start.0 start.1

-- where the first of the modules' starts lies
abbrev pub start_of : Bases → List ModuleValue → Option ℕ
start_of bases modules = slice_get (filter_map (λ m. option_map (start_within bases modules m) m.1.start) (enumerate_from 0 modules)) 0

-- The start of the linked module lies where that of its main program does, for all bases, tops and words.
abbrev pub LinkedStartIsTheModules : Type 0
LinkedStartIsTheModules =
    (name : List ℕ) (modules : List ModuleValue) (bases : Bases)
    → AllByRecursion IsModule modules
    → link_fault modules ≡ None
    → option_map (λ start. place_in bases (linked name modules ∷ []) 0 (linked name modules) start.0 start.1) (slice_get (starts modules) 0)
    ≡ start_of bases modules
