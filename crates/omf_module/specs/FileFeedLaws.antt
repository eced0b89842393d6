-- What holds of the whole modules of bytes, and of faults that stay whatever bytes follow. (It follows from the definitions.)
use Rattle.std.specs.Prelude.{◌≡◌, ℕ, List}
use Rattle.omf_core.specs.Lasting.{StayLasting}
use Rattle.omf_module.specs.FileFeed.{CountsModules}
use Rattle.omf_module.specs.Spelled.{FaultsFile}

-- Bytes hold one number of whole modules.
abbrev pub OneModuleCount : Type 0
OneModuleCount = (bytes : List ℕ) (count count' : ℕ) → CountsModules bytes count → CountsModules bytes count' → count ≡ count'

-- A fault that lasts of some bytes lasts of those and any others.
abbrev pub LastingFileFaultsLast : Type 0
LastingFileFaultsLast = StayLasting FaultsFile
