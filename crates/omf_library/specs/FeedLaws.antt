-- What holds of faults that stay whatever bytes follow. (It follows from the layout of records.)
use Rattle.std.specs.Prelude.{◌≡◌, ℕ, List}
use Rattle.omf_core.specs.Lasting.{StayLasting}
use Rattle.omf_library.specs.declared.fault.LibraryFault.{LibraryFault}
use Rattle.omf_library.specs.Spelled.{FaultsLibrary}
use Rattle.omf_library.specs.LibraryFeed.{CountsModules, LastingLibraryFault}

-- A fault that lasts of some bytes lasts of those and any others.
abbrev pub LastingFaultsLast : Type 0
LastingFaultsLast = StayLasting FaultsLibrary

-- If the whole modules are counted, no fault lasts.
abbrev pub CountedHaveNone : Type 0
CountedHaveNone =
    (bytes : List ℕ) (count : ℕ) (fault : LibraryFault)
    → CountsModules bytes count
    → LastingLibraryFault bytes fault
    → ⊥

-- Bytes hold one number of whole modules.
abbrev pub OneModuleCount : Type 0
OneModuleCount = (bytes : List ℕ) (count count' : ℕ) → CountsModules bytes count → CountsModules bytes count' → count ≡ count'
