-- Object files in pieces: the whole modules that bytes hold from their start on, and the faults that stay whatever bytes follow.
-- (8080 Object Module Formats, object file: modules one after another, and an end-of-file record. What stands after it isn't
-- read.)
use Rattle.std.specs.Prelude.{◌≡◌, ℕ, ◌<◌, ◌≤◌, Bool, true, false, List, [], ◌++◌, length, Option}
use Rattle.omf_core.specs.Lasting.{Lasting}
use Rattle.omf_model.specs.Modules.{ModuleValue}
use Rattle.omf_module.specs.declared.fault.ModuleFault.{ModuleFault}
use Rattle.omf_module.specs.declared.file_feed.Progress.{Progress}
use Rattle.omf_module.specs.declared.pieces.UnfinishedModule.{UnfinishedModule}
use Rattle.omf_module.specs.Spelled.{SpellsModule, SpellsModules, EndsFile, FaultsFile}
use Rattle.omf_module.specs.Pieces.{ReadsModule, WaitsModule}

-- what callers see of a feed: the bytes that it took, and the fault that it keeps
pub record FileFeedValue : Type 0 where
  pub bytes : List ℕ
  pub kept : Option ModuleFault

-- The bytes hold a given number of whole modules: they spell those from their start on, and no whole module follows.
pub record CountsModules (bytes : List ℕ) (count : ℕ) : Type 0 where
  pub to : ℕ
  pub modules : List ModuleValue
  pub spelled : SpellsModules bytes 0 to modules
  pub last : (after : ℕ) (next : ModuleValue) → SpellsModule bytes to after next → ⊥
  pub counted : count ≡ length modules

-- The file has this fault whatever bytes follow, also if none do.
abbrev pub LastingFileFault : List ℕ → ModuleFault → Type 0
LastingFileFault = Lasting FaultsFile

-- ---- how far a file is read

-- a file that ends after modules at place `at`
pub record EndsAfter (bytes : List ℕ) (at : ℕ) (modules : List ModuleValue) : Type 0 where
  pub some : 0 < length modules
  pub ends : EndsFile bytes at

-- after these modules the file ends, or another one is read
abbrev pub ReadsNext : List ℕ → Progress → Bool → Type 0
ReadsNext bytes read true = EndsAfter bytes read.unfinished.begin read.modules.items
ReadsNext bytes read false = ReadsModule bytes read.unfinished.begin read.unfinished.here read.unfinished.commons.items

-- The modules are those that the bytes spell from their start on, up to the one that is unfinished.
pub record ReadsFile (bytes : List ℕ) (read : Progress) : Type 0 where
  pub spelled : SpellsModules bytes 0 read.unfinished.begin read.modules.items
  pub inside : read.unfinished.begin ≤ length bytes
  pub next : ReadsNext bytes read read.ended

-- after the modules the file ends, or more bytes are needed
abbrev pub Stops : List ℕ → Progress → Bool → Type 0
Stops bytes read true = EndsAfter bytes read.unfinished.begin read.modules.items
Stops bytes read false = WaitsModule bytes read.unfinished.begin

-- a module of which nothing is read begins at a place
pub record IsUnread (unfinished : UnfinishedModule) (at : ℕ) : Type 0 where
  pub begin : unfinished.begin ≡ at
  pub here : unfinished.here ≡ at
  pub commons : unfinished.commons.items ≡ []

-- these modules, and perhaps more
pub record GrowsBy (before after : List ModuleValue) : Type 0 where
  pub more : List ModuleValue
  pub joined : after ≡ before ++ more
