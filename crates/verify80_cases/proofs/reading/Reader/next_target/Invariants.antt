use Rattle.verify80_cases.specs.Reading.{AreRests}
use Rattle.verify80_cases.proofs.reading.Reader.next_target.Given as goal

abbrev pub invariant-loop : goal.invariant-loop
invariant-loop l = record {
  rests : AreRests l.code l.visited.marks.items l.self.unfinished.items;
}
