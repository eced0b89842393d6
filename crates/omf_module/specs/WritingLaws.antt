-- What is written is read again as the same modules. (8080 Object Module Formats, module and object file.)
use Rattle.std.specs.Prelude.{ℕ, ◌+◌, ◌<◌, List, ◌++◌, length}
use Rattle.std.specs.List.{AllByRecursion}
use Rattle.omf_model.specs.Modules.{ModuleValue}
use Rattle.omf_model.specs.Rules.{IsModule}
use Rattle.omf_module.specs.Spelled.{SpellsModule, SpellsFile}
use Rattle.omf_module.specs.Writing.{module_bytes, file_bytes}

-- Wherever the bytes that are written of this module stand, they spell it.
abbrev pub IsReadAgain : ModuleValue → Type 0
IsReadAgain m =
    (before after : List ℕ)
    → SpellsModule (before ++ module_bytes m ++ after) (length before) (length before + length (module_bytes m)) m

-- Written modules spell themselves.
abbrev pub WrittenModuleIsSpelled : Type 0
WrittenModuleIsSpelled = (m : ModuleValue) → IsModule m → IsReadAgain m

-- A written file spells its modules, of which there is one at least.
abbrev pub WrittenFileIsSpelled : Type 0
WrittenFileIsSpelled = (modules : List ModuleValue) → 0 < length modules → AllByRecursion IsModule modules
    → SpellsFile (file_bytes modules) modules
