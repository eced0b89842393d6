-- Bytes spell one library at most, or have one first fault, and never both. (It follows from the layout of records.)
use Rattle.std.specs.Prelude.{◌≡◌, ℕ, List}
use Rattle.omf_model.specs.Modules.{ModuleValue}
use Rattle.omf_library.specs.declared.fault.LibraryFault.{LibraryFault}
use Rattle.omf_library.specs.Spelled.{SpellsLibrary, FaultsLibrary}

abbrev pub OneLibrary : Type 0
OneLibrary = (bytes : List ℕ) (ms ms' : List ModuleValue) → SpellsLibrary bytes ms → SpellsLibrary bytes ms' → ms ≡ ms'

abbrev pub OneLibraryFault : Type 0
OneLibraryFault = (bytes : List ℕ) (f f' : LibraryFault) → FaultsLibrary bytes f → FaultsLibrary bytes f' → f ≡ f'

abbrev pub NeverBothLibrary : Type 0
NeverBothLibrary = (bytes : List ℕ) (ms : List ModuleValue) (f : LibraryFault) → SpellsLibrary bytes ms → FaultsLibrary bytes f
    → ⊥
