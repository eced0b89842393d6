-- the texts so far
use Rattle.std.specs.Prelude.{take}
use Rattle.rom80_find.specs.Dump.{dump_of}
use Rattle.rom80_find.specs.Prints.{PrintsEach}
use Rattle.rom80_find.proofs.lines.places.append_each_place.Given as goal

abbrev pub invariant-loop-address : goal.invariant-loop-address
invariant-loop-address l = PrintsEach (dump_of l.dump) l.pattern (take l.address-index l.places) l.initial.text.items l.text.items
