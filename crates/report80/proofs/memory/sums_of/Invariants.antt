use Rattle.std.proofs.Common.{◌≡◌, ◌++◌, take}
use Rattle.std.specs.List.{flat_map}
use Rattle.report80.specs.MemoryText.{rom_line}
use Rattle.report80.proofs.memory.sums_of.Given as goal

abbrev pub invariant-loop-range : goal.invariant-loop-range
invariant-loop-range l = l.text.items ≡ flat_map (rom_line l.image.chunks l.fill) (take l.range-index l.code)
