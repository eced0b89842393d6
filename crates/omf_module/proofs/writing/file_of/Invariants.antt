-- what is written, and that those written are modules
use Rattle.std.proofs.Common.{◌≡◌, drop, take}
use Rattle.std.specs.List.{flat_map, AllByRecursion}
use Rattle.omf_model.specs.Rules.{IsModule}
use Rattle.omf_module.specs.Writing.{module_bytes}
use Rattle.omf_module.proofs.writing.file_of.Given as goal

abbrev pub invariant-loop-module : goal.invariant-loop-module
invariant-loop-module l = record {
  written : l.file.items ≡ flat_map module_bytes (take l.module-index l.modules);
  rules : AllByRecursion IsModule (drop l.module-index l.modules) → AllByRecursion IsModule l.modules;
}
