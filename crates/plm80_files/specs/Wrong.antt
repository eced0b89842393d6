-- What is wrong with the bytes of a file that is blamed.
use Rattle.std.specs.Prelude.{◌≢◌, ℕ, List, [], ◌∷◌}
use Rattle.plm80_console.specs.Journal.{FileValue}
use Rattle.image80.specs.{Regions.Areas, RegionsText.Spells}
use Rattle.image80_file.specs.ImageFile.{AbsoluteProgram, SpellsImage}
use Rattle.omf_model.specs.Modules.{ModuleValue}
use Rattle.omf_module.specs.Spelled.{SpellsFile}
use Rattle.omf_module.specs.declared.fault.Cause.TheVariants as cause
use Rattle.omf_library.specs.declared.fault.LibraryFault.TheVariants as library
use Rattle.plm80_files.specs.LinkFiles.{SpellsEither}
use Rattle.plm80_files.specs.declared.{file_fault.FileFault.FileFault, link_feed.LinkFile.LinkFile}
use Rattle.plm80_files.specs.declared.file_fault.FileFault.TheVariants.{Module, Library}

-- they spell no regions
abbrev pub SpellsNoRegions : (text : List ℕ) → Type 0
SpellsNoRegions text = (areas : Areas) → Spells text areas → ⊥

-- they spell no image
abbrev pub SpellsNoImage : (bytes : List ℕ) → Type 0
SpellsNoImage bytes = (program : AbsoluteProgram) → SpellsImage bytes program → ⊥

-- they spell no modules as an object file
abbrev pub SpellsNoModules : (bytes : List ℕ) → Type 0
SpellsNoModules bytes = (modules : List ModuleValue) → SpellsFile bytes modules → ⊥

-- they spell neither modules nor a library, whichever their first byte says
abbrev pub SpellsNeither : (bytes : List ℕ) → Type 0
SpellsNeither bytes = (file : LinkFile) → SpellsEither bytes file → ⊥

-- this holds of the bytes of the first of these files
abbrev pub OfFirst : (Wrong : List ℕ → Type 0) → List FileValue → Type 0
OfFirst Wrong [] = ⊥
OfFirst Wrong (file ∷ files) = Wrong file.bytes

-- the first of these files spells no image
abbrev pub HaveNoImage : List FileValue → Type 0
HaveNoImage = OfFirst SpellsNoImage

-- a fault is one of the bytes: memory didn't run out
abbrev pub IsOfBytes : FileFault → Type 0
IsOfBytes (Module fault) = fault.cause ≢ cause.Memory
IsOfBytes (Library fault) = fault ≢ library.Memory
