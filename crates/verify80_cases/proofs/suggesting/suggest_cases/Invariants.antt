use Rattle.verify80_cases.specs.Suggested.{AreNotesBelow, AreSuggestedBelow}
use Rattle.verify80_cases.proofs.suggesting.suggest_cases.Given as goal

abbrev pub invariant-loop-address : goal.invariant-loop-address
invariant-loop-address l = record {
  so_far : AreSuggestedBelow l.image l.search-inside.reached.items l.search-inside.taken.items l.address l.found.cases.items l.found.tableless.items;
  notes : AreNotesBelow l.image l.search-inside.reached.items l.search-inside.taken.items l.address l.found.cases.items l.found.tableless.items l.found.notes.items;
}
