-- Bytes spell one module at a place at most, or have one first fault there, and never both; and so do files.
-- (It follows from the layout of records.)
use Rattle.std.specs.Prelude.{◌≡◌, ◌⊎◌, ℕ, List, Result, Err}
use Rattle.omf_body.specs.declared.body.HeaderBody.{HeaderBody}
use Rattle.omf_body.specs.declared.body.Body.TheVariants.{ModuleHeader}
use Rattle.omf_module.specs.declared.fault.Cause.{Cause}
use Rattle.omf_module.specs.declared.fault.ModuleFault.{ModuleFault}
use Rattle.omf_module.specs.Fault.{no_memory}
use Rattle.omf_model.specs.Modules.{ModuleValue}
use Rattle.omf_module.specs.Records.{SpellsBody}
use Rattle.omf_module.specs.Spelled.{SpellsModule, FaultsHeader, FaultsModule, SpellsFile, FaultsFile}

abbrev pub OneModule : Type 0
OneModule = (bytes : List ℕ) (at after after' : ℕ) (m m' : ModuleValue) → SpellsModule bytes at after m
    → SpellsModule bytes at after' m' → (m ≡ m') × (after ≡ after')

abbrev pub OneFault : Type 0
OneFault = (bytes : List ℕ) (at : ℕ) (f f' : ModuleFault) → FaultsModule bytes at f → FaultsModule bytes at f' → f ≡ f'

abbrev pub NeverBoth : Type 0
NeverBoth = (bytes : List ℕ) (at after : ℕ) (m : ModuleValue) (f : ModuleFault) → SpellsModule bytes at after m
    → FaultsModule bytes at f → ⊥

-- where a header is to stand, there is one first fault at most
abbrev pub OneHeaderFault : Type 0
OneHeaderFault = (bytes : List ℕ) (at : ℕ) (why why' : Cause) → FaultsHeader bytes at why → FaultsHeader bytes at why'
    → why ≡ why'

-- where a header stands, there is none
abbrev pub SoundHeader : Type 0
SoundHeader = (bytes : List ℕ) (at next : ℕ) (header : HeaderBody) (why : Cause) → SpellsBody bytes at next (ModuleHeader header)
    → FaultsHeader bytes at why → ⊥

abbrev pub OneFile : Type 0
OneFile = (bytes : List ℕ) (ms ms' : List ModuleValue) → SpellsFile bytes ms → SpellsFile bytes ms' → ms ≡ ms'

abbrev pub OneFileFault : Type 0
OneFileFault = (bytes : List ℕ) (f f' : ModuleFault) → FaultsFile bytes f → FaultsFile bytes f' → f ≡ f'

abbrev pub NeverBothFile : Type 0
NeverBothFile = (bytes : List ℕ) (ms : List ModuleValue) (f : ModuleFault) → SpellsFile bytes ms → FaultsFile bytes f → ⊥

-- an answer, unless memory ran out
abbrev pub Answers : {A : Type 0} → Result A ModuleFault → Result A ModuleFault → Type 0
Answers result answer = (result ≡ answer) ⊎ (result ≡ Err no_memory)
