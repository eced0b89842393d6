-- Libraries in pieces: how many whole modules bytes hold, and the faults that stay whatever bytes follow.
-- (8080 Object Module Formats, library file: an end-of-file record is its last. What stands after it isn't read.)
use Rattle.std.specs.Prelude.{◌≡◌, ℕ, List, [], length, Option}
use Rattle.omf_core.specs.Lasting.{Lasting}
use Rattle.omf_core.specs.Records.{RecordValue}
use Rattle.omf_model.specs.Modules.{ModuleValue}
use Rattle.omf_module.specs.Spelled.{SpellsModules}
use Rattle.omf_module.specs.Pieces.{IsCutOff, EndsWithin}
use Rattle.omf_library.specs.declared.fault.LibraryFault.{LibraryFault}
use Rattle.omf_library.specs.Spelled.{BeginsLibrary, SpellsIndex, SpellsLibrary, FaultsLibrary}

-- what callers see of a feed: the bytes that it took, and the fault that it keeps
pub record LibraryFeedValue : Type 0 where
  pub bytes : List ℕ
  pub kept : Option LibraryFault

-- The fault is there whatever bytes follow, also if none do.
abbrev pub LastingLibraryFault : List ℕ → LibraryFault → Type 0
LastingLibraryFault = Lasting FaultsLibrary

-- A library begins with a header that says how many modules there are, these modules up to place `index`, and these index
-- records up to place `at`.
pub record OpenLibrary (bytes : List ℕ) (said index at : ℕ) (modules : List ModuleValue)
    (records : List RecordValue) : Type 0 where
  pub first : ℕ
  pub begins : BeginsLibrary bytes first said
  pub spelled : SpellsModules bytes first index modules
  pub indexed : SpellsIndex bytes index at records

-- The bytes hold a given number of whole modules: up to the end of the library, or as far as they go. They may end inside the header,
-- inside a record outside the modules, inside a module, or before any of these.
pub data CountsModules (bytes : List ℕ) (count : ℕ) : Type 0 where
  in_header : IsCutOff bytes 0 → count ≡ 0 → CountsModules bytes count
  at_record : (said index at : ℕ) (modules : List ModuleValue) (records : List RecordValue)
      → OpenLibrary bytes said index at modules records → IsCutOff bytes at → count ≡ length modules → CountsModules bytes count
  in_module : (said at : ℕ) (modules : List ModuleValue)
      → OpenLibrary bytes said at at modules [] → EndsWithin bytes at → count ≡ length modules → CountsModules bytes count
  ended : (modules : List ModuleValue) → SpellsLibrary bytes modules → count ≡ length modules → CountsModules bytes count
