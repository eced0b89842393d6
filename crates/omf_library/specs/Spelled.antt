-- How bytes spell a library, and why they spell none: the first fault by place.
-- (8080 Object Module Formats, library file: library header, modules, library module names, library module locations and
-- library dictionary records. That the last three may stand in any order and number, and the faults, are this project's.)
use Rattle.std.specs.Prelude.{◌≡◌, ℕ, ◌≤◌, ◌<◌, ◌==◌, Bool, true, false, ◌&&◌, ◌||◌, not, nat_le, if◌then◌else◌, Option, Some, None, List, [], ◌∷◌, length, drop, IsTrue}
use Rattle.std.specs.List.{list_all}
use Rattle.omf_core.specs.declared.kind.RecordKind.TheVariants as kind
use Rattle.omf_core.specs.Kind.{kind_byte}
use Rattle.omf_core.specs.declared.fault.RecordFault.{RecordFault}
use Rattle.omf_core.specs.Record.{SpellsRecord, fault_at, word_at}
use Rattle.omf_core.specs.Records.{RecordValue, SpellsRecords}
use Rattle.omf_module.specs.declared.fault.Cause.TheVariants as cause
use Rattle.omf_module.specs.declared.fault.ModuleFault.{ModuleFault}
use Rattle.omf_model.specs.Modules.{ModuleValue}
use Rattle.omf_module.specs.Uses.{fault_by}
use Rattle.omf_module.specs.Spelled.{SpellsModules, FaultsModule, EndsFile}
use Rattle.omf_library.specs.declared.fault.LibraryFault.{LibraryFault}
use Rattle.omf_library.specs.declared.fault.LibraryFault.TheVariants.{Module, NotLibrary, CountDiffers, NoEnd}
use Rattle.omf_library.specs.Fault.{of_module}

-- ---- a library

-- a library header record has the number of modules as its first word
abbrev pub is_library_header : ℕ → List ℕ → Bool
is_library_header byte body = byte == kind_byte kind.LibraryHeader && nat_le 2 (length body)

-- The bytes up to place `first` are a library header that says how many modules there are.
pub record BeginsLibrary (bytes : List ℕ) (first said : ℕ) : Type 0 where
  pub kind : ℕ
  pub body : List ℕ
  pub framed : SpellsRecord bytes 0 first kind body
  pub header : IsTrue (is_library_header kind body)
  pub count : said ≡ word_at body 0

-- records of the index: library module locations, library module names, library dictionary
abbrev pub is_index_kind : ℕ → Bool
is_index_kind byte =
    byte == kind_byte kind.LibraryModuleLocations || byte == kind_byte kind.LibraryModuleNames || byte == kind_byte kind.LibraryDictionary

-- The bytes from place `from` up to place `to` are index records, whatever they hold.
pub record SpellsIndex (bytes : List ℕ) (from to : ℕ) (records : List RecordValue) : Type 0 where
  pub spelled : SpellsRecords bytes from to records
  pub kinds : IsTrue (list_all (λ r. is_index_kind r.kind) records)

-- one of them stands there
abbrev pub is_indexed : List RecordValue → Bool
is_indexed [] = false
is_indexed (r ∷ rs) = true

-- The bytes spell the modules as a library: a header that says how many there are, the modules one after another, index
-- records, and an end-of-file record. What stands after it isn't read.
pub record SpellsLibrary (bytes : List ℕ) (modules : List ModuleValue) : Type 0 where
  pub first : ℕ
  pub index : ℕ
  pub end : ℕ
  pub records : List RecordValue
  pub begins : BeginsLibrary bytes first (length modules)
  pub spelled : SpellsModules bytes first index modules
  pub indexed : SpellsIndex bytes index end records
  pub ends : EndsFile bytes end

-- ---- the first fault by place

-- no library header stands at the start
pub data FaultsLibraryHeader (bytes : List ℕ) : LibraryFault → Type 0 where
  no_header_byte : length bytes ≤ 0 → FaultsLibraryHeader bytes NotLibrary
  no_header_record : (fault : RecordFault) → 0 < length bytes → fault_at (drop 0 bytes) 0 ≡ Some fault
      → FaultsLibraryHeader bytes (Module (fault_by 0 (cause.Record fault)))
  no_header : (next kind : ℕ) (body : List ℕ) → SpellsRecord bytes 0 next kind body → is_library_header kind body ≡ false
      → FaultsLibraryHeader bytes NotLibrary

-- a record by which the library goes on: of the index, or a module header if no index record stands before it
abbrev pub goes_on : Bool → ℕ → Bool
goes_on indexed byte = is_index_kind byte || (not indexed && byte == kind_byte kind.ModuleHeader)

-- what another record leads to: the end of a library of as many modules as its header says, or a fault
abbrev pub fault_of_record : ℕ → ℕ → ℕ → ℕ → Option LibraryFault
fault_of_record at said found byte =
    if byte == kind_byte kind.EndOfFile then (if said == found then None else Some (CountDiffers said found))
    else Some (Module (fault_by at (cause.UnknownKind byte)))

-- After a header that says how many modules there are, as many modules as were found, and index records or none, the library
-- neither goes on nor ends at a place.
pub data FaultsAt (bytes : List ℕ) (at said found : ℕ) (indexed : Bool) : LibraryFault → Type 0 where
  no_byte : length bytes ≤ at → FaultsAt bytes at said found indexed (NoEnd at)
  no_record : (fault : RecordFault) → at < length bytes → fault_at (drop at bytes) at ≡ Some fault
      → FaultsAt bytes at said found indexed (Module (fault_by at (cause.Record fault)))
  in_module : (next : ℕ) (body : List ℕ) (fault : ModuleFault) → indexed ≡ false → SpellsRecord bytes at next (kind_byte kind.ModuleHeader) body
      → FaultsModule bytes at fault
      → FaultsAt bytes at said found indexed (of_module fault)
  at_record : (next kind : ℕ) (body : List ℕ) (fault : LibraryFault) → SpellsRecord bytes at next kind body
      → goes_on indexed kind ≡ false
      → fault_of_record at said found kind ≡ Some fault → FaultsAt bytes at said found indexed fault

-- The first fault of a library: of its header, or of what follows the modules and the index records that stand after it.
pub data FaultsLibrary (bytes : List ℕ) : LibraryFault → Type 0 where
  in_header : (fault : LibraryFault) → FaultsLibraryHeader bytes fault → FaultsLibrary bytes fault
  after_header : (first said index at : ℕ) (modules : List ModuleValue) (records : List RecordValue) (fault : LibraryFault)
      → BeginsLibrary bytes first said → SpellsModules bytes first index modules → SpellsIndex bytes index at records
      → FaultsAt bytes at said (length modules) (is_indexed records) fault → FaultsLibrary bytes fault
