use Rattle.verify80_cases.specs.Reading.{AreRests}
use Rattle.verify80_cases.proofs.reading.Reader.notice.Given as goal

abbrev pub invariant-loop-number : goal.invariant-loop-number
invariant-loop-number l = record {
  rests : AreRests l.code l.visited.marks.items l.self.unfinished.items;
}

abbrev pub invariant-loop-number-2 : goal.invariant-loop-number-2
invariant-loop-number-2 l = record {
  rests : AreRests l.code l.visited.marks.items l.self.unfinished.items;
}
