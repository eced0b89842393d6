-- The code of a module that is looked for.
use Rattle.std.specs.Prelude.{◌≡◌, ◌≤◌, List}
use Rattle.omf_model.specs.Modules.{ModuleValue}
use Rattle.omf_model.specs.Rules.{IsModule}
use Rattle.rom80_pattern.specs.declared.code_byte.CodeByte.{CodeByte}
use Rattle.rom80_pattern.specs.Modules.{code_bytes, code_length}

-- the bytes are those of the module's code, and the module keeps the rules of modules
pub record IsCodeOf (m : ModuleValue) (code : List CodeByte) : Type 0 where
  pub bytes : code ≡ code_bytes m
  pub short : code_length m ≤ 65535
  pub rules : IsModule m
