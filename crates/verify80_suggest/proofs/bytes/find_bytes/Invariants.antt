use Rattle.std.specs.Prelude.{take}
use Rattle.verify80_suggest.specs.Bytes.{has_byte}
use Rattle.verify80_cases.specs.Marks.{AreMarks}
use Rattle.verify80_suggest.proofs.bytes.find_bytes.Given as goal

abbrev pub invariant-loop-chunk : goal.invariant-loop-chunk
invariant-loop-chunk l = record {
  marks : AreMarks (has_byte (take l.chunk-index l.chunks)) 65536 l.marks.items;
}
