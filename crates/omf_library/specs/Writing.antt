-- The canonical form in which a library is written: header, modules, library module names, library module locations, library
-- dictionary, end of file. (8080 Object Module Formats, library file; the order of its index records is this project's.)
use Rattle.std.specs.Prelude.{ℕ, ◌+◌, ◌/◌, ◌%◌, ◌||◌, Bool, nat_lt, List, [], ◌∷◌, ◌++◌, length}
use Rattle.std.specs.List.{flat_map, AllByRecursion}
use Rattle.omf_core.specs.declared.kind.RecordKind.TheVariants as kind
use Rattle.omf_core.specs.Kind.{kind_byte}
use Rattle.omf_core.specs.Name.{name_spelling}
use Rattle.omf_core.specs.Record.{spelling}
use Rattle.omf_core.specs.Records.{RecordValue, spellings}
use Rattle.omf_body.specs.Fields.{word_bytes}
use Rattle.omf_model.specs.Modules.{ModuleValue}
use Rattle.omf_module.specs.WritingLaws.{IsReadAgain}
use Rattle.omf_module.specs.Writing.{module_bytes}
use Rattle.omf_library.specs.Spelled.{SpellsLibrary}

-- a place in the file: its block of 128 bytes, and the byte in it
abbrev pub location_bytes : ℕ → List ℕ
location_bytes place = word_bytes (place / 128) ++ word_bytes (place % 128)

-- where each module begins, the first at `at`
abbrev pub places_from : ℕ → List ModuleValue → List ℕ
places_from at [] = []
places_from at (m ∷ ms) = at ∷ places_from (at + length (module_bytes m)) ms

-- where the index begins, after a header of ten bytes and the modules
abbrev pub index_place : List ModuleValue → ℕ
index_place ms = 10 + length (flat_map module_bytes ms)

-- the number of modules, and where the index begins
abbrev pub header_body : List ModuleValue → List ℕ
header_body ms = word_bytes (length ms) ++ location_bytes (index_place ms)

-- the modules' names
abbrev pub names_body : List ModuleValue → List ℕ
names_body ms = flat_map (λ m. name_spelling m.name) ms

-- where they begin, the first after the header
abbrev pub locations_body : List ModuleValue → List ℕ
locations_body ms = flat_map location_bytes (places_from 10 ms)

-- for each module its public names, and 00
abbrev pub public_names : ModuleValue → List ℕ
public_names m = flat_map (λ p. name_spelling p.name) m.publics ++ 0 ∷ []

abbrev pub dictionary_body : List ModuleValue → List ℕ
dictionary_body ms = flat_map public_names ms

abbrev pub index_records : List ModuleValue → List RecordValue
index_records ms =
    record { kind = kind_byte kind.LibraryModuleNames; body = names_body ms }
    ∷ record { kind = kind_byte kind.LibraryModuleLocations; body = locations_body ms }
    ∷ record { kind = kind_byte kind.LibraryDictionary; body = dictionary_body ms }
    ∷ []

-- the bytes of a library
unfoldable pub library_bytes : List ModuleValue → List ℕ
library_bytes ms = spelling (kind_byte kind.LibraryHeader) (header_body ms) ++ flat_map module_bytes ms ++ spellings (index_records ms) ++ spelling (kind_byte kind.EndOfFile) []

-- More modules than a word counts, a body that no record carries, or a place whose block is no word. (No block is greater
-- than that of the index.)
abbrev pub is_too_large : List ModuleValue → Bool
is_too_large ms =
    nat_lt 65535 (length ms)
    || nat_lt 65534 (length (names_body ms))
    || nat_lt 65534 (length (locations_body ms))
    || nat_lt 65534 (length (dictionary_body ms))
    || nat_lt 65535 (index_place ms / 128)

-- A written library of modules that are read again wherever they stand spells them.
abbrev pub WrittenLibraryIsSpelled : Type 0
WrittenLibraryIsSpelled = (ms : List ModuleValue) → AllByRecursion IsReadAgain ms → SpellsLibrary (library_bytes ms) ms
