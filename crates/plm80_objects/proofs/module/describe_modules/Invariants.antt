use Rattle.plm80_objects.proofs.Names.{◌≡◌, take, flat_map, module_text}
use Rattle.plm80_objects.proofs.module.describe_modules.Given as goal

abbrev pub invariant-loop-described : goal.invariant-loop-described
invariant-loop-described l = l.text.items ≡ flat_map module_text (take l.described-index l.modules)
