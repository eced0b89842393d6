-- What holds of modules wherever they stand. (It follows from the layout of records.)
use Rattle.std.specs.Prelude.{ℕ, ◌<◌, ◌≤◌, List, [], ◌∷◌, ◌++◌, length}
use Rattle.std.specs.List.{flat_map, AllByRecursion}
use Rattle.omf_model.specs.declared.symbols.Common.{Common}
use Rattle.omf_model.specs.Modules.{ModuleValue}
use Rattle.omf_module.specs.declared.fault.Cause.{Cause}
use Rattle.omf_module.specs.Spelled.{SpellsModule, SpellsModules, FaultsWithin, FaultsModule}
use Rattle.omf_module.specs.Pieces.{BegunModule, ReadsModule}
use Rattle.omf_module.specs.Uses.{fault_by}
use Rattle.omf_module.specs.Writing.{module_bytes}
use Rattle.omf_module.specs.WritingLaws.{IsReadAgain}

-- What is spelled of modules is spelled whatever bytes follow.
pub record ModulesStay : Type 0 where
  pub whole : (bytes more : List ℕ) (at after : ℕ) (m : ModuleValue) → SpellsModule bytes at after m
      → SpellsModule (bytes ++ more) at after m
  pub all : (bytes more : List ℕ) (from to : ℕ) (ms : List ModuleValue) → SpellsModules bytes from to ms
      → SpellsModules (bytes ++ more) from to ms
  pub begun : (bytes more : List ℕ) (begin here : ℕ) (commons : List Common) → BegunModule bytes begin here commons
      → BegunModule (bytes ++ more) begin here commons
  pub reads : (bytes more : List ℕ) (begin here : ℕ) (commons : List Common) → ReadsModule bytes begin here commons
      → ReadsModule (bytes ++ more) begin here commons

-- A module reaches further than to its begin, and inside the bytes; so does one that is begun, which has the fault of what
-- follows. A module that follows others makes their list longer by one. Modules that are read again are spelled where they are
-- written one after another.
pub record ModulesStand : Type 0 where
  pub further : (bytes : List ℕ) (at after : ℕ) (m : ModuleValue) → SpellsModule bytes at after m
      → (at < after) × (after ≤ length bytes)
  pub grow : (bytes : List ℕ) (from to next : ℕ) (ms : List ModuleValue) (m : ModuleValue) → SpellsModules bytes from to ms
      → SpellsModule bytes to next m → SpellsModules bytes from next (ms ++ m ∷ [])
  pub inside : (bytes : List ℕ) (begin here : ℕ) (commons : List Common) → BegunModule bytes begin here commons
      → here ≤ length bytes
  pub faults : (bytes : List ℕ) (begin here : ℕ) (commons : List Common) (why : Cause) → BegunModule bytes begin here commons
      → FaultsWithin bytes here commons why → FaultsModule bytes begin (fault_by here why)
  pub spelled : (before after : List ℕ) (ms : List ModuleValue) → AllByRecursion IsReadAgain ms
      → SpellsModules (before ++ flat_map module_bytes ms ++ after) (length before) (length (before ++ flat_map module_bytes ms))
      ms
