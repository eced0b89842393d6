-- Bytes that have a fault spell nothing.
use Rattle.std.proofs.Common.{◌≡◌, ◌≢◌, ◌⊎◌, inl, inr, ℕ, List, sym, ap, ◌∙◌}
use Rattle.std.proofs.lemmas.Bool.{false≢true}
use Rattle.omf_model.specs.Modules.{ModuleValue}
use Rattle.omf_module.specs.{Fault.no_memory, ReadingLaws.NeverBothFile, Spelled.FaultsFile}
use Rattle.omf_module.specs.declared.fault.{Cause.TheVariants.Memory, ModuleFault.ModuleFault}
use Rattle.omf_library.specs.{Laws.NeverBothLibrary, Spelled.FaultsLibrary, Spelled.SpellsLibrary, declared.fault.LibraryFault.LibraryFault}
use Rattle.omf_library.specs.declared.fault.LibraryFault.TheVariants.{Memory as NoLibraryMemory}
use Rattle.plm80_files.specs.{LinkFiles.FaultsEither, Wrong.IsOfBytes, Wrong.SpellsNeither, Wrong.SpellsNoModules}
use Rattle.plm80_files.specs.declared.file_fault.FileFault.{FileFault}
use Rattle.plm80_files.specs.declared.file_fault.FileFault.TheVariants as fault
use Rattle.plm80_files.specs.declared.link_feed.LinkFile.TheVariants as file

pub no_modules : NeverBothFile → (bytes : List ℕ) (f : ModuleFault) → (f ≡ no_memory) ⊎ FaultsFile bytes f → f.cause ≢ Memory
    → SpellsNoModules bytes
no_modules never bytes f (inl memory) other modules spelled = other (ap (λ (g : ModuleFault). g.cause) memory)
no_modules never bytes f (inr faults) other modules spelled = never bytes modules f spelled faults

no_library : NeverBothLibrary → (bytes : List ℕ) (f : LibraryFault) → (f ≡ NoLibraryMemory) ⊎ FaultsLibrary bytes f → f ≢ NoLibraryMemory
    → (modules : List ModuleValue) → SpellsLibrary bytes modules → ⊥
no_library never bytes f (inl memory) other modules spelled = other memory
no_library never bytes f (inr faults) other modules spelled = never bytes modules f spelled faults

pub neither : NeverBothFile → NeverBothLibrary → (bytes : List ℕ) (f : FileFault) → FaultsEither bytes f → IsOfBytes f → SpellsNeither bytes
neither files libraries bytes (fault.Module f) faults other (file.Modules ms) spelled = no_modules files bytes f faults.0 other ms.items spelled.0
neither files libraries bytes (fault.Module f) faults other (file.Library ms) spelled = false≢true (sym faults.1 ∙ spelled.1)
neither files libraries bytes (fault.Library f) faults other (file.Modules ms) spelled = false≢true (sym spelled.1 ∙ faults.1)
neither files libraries bytes (fault.Library f) faults other (file.Library ms) spelled = no_library libraries bytes f faults.0 other ms spelled.0
