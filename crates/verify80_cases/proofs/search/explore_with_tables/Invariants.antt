use Rattle.verify80_cases.specs.Reading.{AreRests}
use Rattle.verify80_cases.specs.Suggested.{IsExplored}
use Rattle.verify80_cases.proofs.search.explore_with_tables.Given as goal

abbrev pub invariant-loop : goal.invariant-loop
invariant-loop l = record {
  explored : IsExplored l.code l.entries l.visited.marks.items l.visited.order.items;
  rests : AreRests l.code l.visited.marks.items l.reader.unfinished.items;
}
