-- the modules so far
use Rattle.std.specs.Prelude.{take}
use Rattle.rom80_find.specs.Dump.{dump_of}
use Rattle.rom80_find.specs.Found.{PrintsModules}
use Rattle.rom80_find.proofs.lines.modules.append_modules.Given as goal

abbrev pub invariant-loop-source : goal.invariant-loop-source
invariant-loop-source l =
    PrintsModules (dump_of l.dump) (take l.source-index l.modules) l.are_there l.initial.text.items l.text.items
