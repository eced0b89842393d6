-- The numbers of the refusals, which are this project's own.
use Rattle.std.specs.Prelude.{ℕ}
use Rattle.omf_model.specs.declared.fault.PartsFault.{PartsFault}
use Rattle.omf_model.specs.declared.fault.PartsFault.TheVariants.{Rule, Memory}

abbrev pub parts_fault_code : PartsFault → ℕ
parts_fault_code Rule = 1
parts_fault_code Memory = 2
