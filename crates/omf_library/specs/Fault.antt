-- The faults of libraries. (Their numbers and their order are this project's own.)
use Rattle.std.specs.Prelude.{◌≡◌, ◌⊎◌, ℕ, Result, Err}
use Rattle.omf_module.specs.declared.fault.Cause.{Cause}
use Rattle.omf_module.specs.declared.fault.Cause.TheVariants as cause
use Rattle.omf_module.specs.declared.fault.ModuleFault.{ModuleFault}
use Rattle.omf_library.specs.declared.fault.LibraryFault.{LibraryFault}
use Rattle.omf_library.specs.declared.fault.LibraryFault.TheVariants.{Module, NotLibrary, CountDiffers, NoEnd, Memory}
use Rattle.omf_library.specs.declared.fault.LibraryPutFault.{LibraryPutFault}
use Rattle.omf_library.specs.declared.fault.LibraryPutFault.TheVariants as put

abbrev pub library_fault_code : LibraryFault → ℕ
library_fault_code (Module f) = 1
library_fault_code NotLibrary = 2
library_fault_code (CountDiffers said found) = 3
library_fault_code (NoEnd at) = 4
library_fault_code Memory = 5

abbrev pub library_put_fault_code : LibraryPutFault → ℕ
library_put_fault_code put.TooLarge = 1
library_put_fault_code put.Memory = 2

-- a module's fault as its library's: out of memory is the library's own
abbrev pub by_cause : ModuleFault → Cause → LibraryFault
by_cause f cause.Memory = Memory
by_cause f _ = Module f

abbrev pub of_module : ModuleFault → LibraryFault
of_module f = by_cause f f.cause

-- out of memory, or a fault
abbrev pub OrNoMemory : (LibraryFault → Type 0) → LibraryFault → Type 0
OrNoMemory Faults fault = (fault ≡ Memory) ⊎ Faults fault

-- an answer, unless memory ran out
abbrev pub Answers : {A : Type 0} → Result A LibraryFault → Result A LibraryFault → Type 0
Answers result answer = (result ≡ answer) ⊎ (result ≡ Err Memory)
