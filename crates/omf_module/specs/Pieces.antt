-- Files in pieces: how far a module is read whose last bytes are still to come, and the faults that stay whatever bytes follow.
-- (8080 Object Module Formats, module and object file.)
use Rattle.std.specs.Prelude.{◌≡◌, ℕ, List, [], ◌⊎◌, drop, Some, IsTrue}
use Rattle.omf_core.specs.declared.fault.RecordFault.TheVariants.{Truncated}
use Rattle.omf_core.specs.Record.{fault_at}
use Rattle.omf_core.specs.Lasting.{Lasting}
use Rattle.omf_body.specs.declared.body.HeaderBody.{HeaderBody}
use Rattle.omf_body.specs.declared.body.Body.TheVariants.{ModuleHeader}
use Rattle.omf_model.specs.declared.symbols.Common.{Common}
use Rattle.omf_module.specs.declared.fault.ModuleFault.{ModuleFault}
use Rattle.omf_module.specs.declared.module_file.PlacedBody.{PlacedBody}
use Rattle.omf_module.specs.Records.{SpellsBody, SpellsBodies, commons_of, each_follows, ModuleRecords, SpellsModuleRecords}
use Rattle.omf_module.specs.Spelled.{FaultsModule}

-- The module at a place has this fault whatever bytes follow, also if none do.
abbrev pub LastingModuleFault : List ℕ → ℕ → ModuleFault → Type 0
LastingModuleFault bytes at = Lasting (λ b. FaultsModule b at) bytes

-- A module's header and records after it stand up to place `here`, and these are the commons that they declare.
pub record BegunModule (bytes : List ℕ) (begin here : ℕ) (commons : List Common) : Type 0 where
  pub first : ℕ
  pub header : HeaderBody
  pub bodies : List PlacedBody
  pub begins : SpellsBody bytes begin first (ModuleHeader header)
  pub spelled : SpellsBodies bytes first here bodies
  pub follow : IsTrue (each_follows [] bodies)
  pub declared : commons ≡ commons_of bodies

-- all records of a module stand there, up to its end
pub record WholeModule (bytes : List ℕ) (begin : ℕ) : Type 0 where
  pub after : ℕ
  pub records : ModuleRecords
  pub begins : records.at ≡ begin
  pub spelled : SpellsModuleRecords bytes after records

-- the record at a place is cut off, or no byte stands there
abbrev pub IsCutOff : List ℕ → ℕ → Type 0
IsCutOff bytes at = fault_at (drop at bytes) at ≡ Some (Truncated at)

-- how far a module is read: not at all, or up to place `here`
abbrev pub ReadsModule : List ℕ → ℕ → ℕ → List Common → Type 0
ReadsModule bytes begin here commons = ((here ≡ begin) × (commons ≡ [])) ⊎ BegunModule bytes begin here commons

-- the bytes end after the header and some records of a module, or inside the record that follows them
pub record EndsWithin (bytes : List ℕ) (begin : ℕ) : Type 0 where
  pub here : ℕ
  pub commons : List Common
  pub begun : BegunModule bytes begin here commons
  pub cut_off : IsCutOff bytes here

-- more bytes are needed to read a module, or to find its fault
abbrev pub WaitsModule : List ℕ → ℕ → Type 0
WaitsModule bytes begin = IsCutOff bytes begin ⊎ EndsWithin bytes begin
