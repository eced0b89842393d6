-- those so far
use Rattle.std.specs.List.{AllByRecursion}
use Rattle.rom80_find.specs.Words.{AreAscendingBelow, AreSingle, IsOfATarget}
use Rattle.rom80_find.proofs.words.single_words.Given as goal

abbrev pub invariant-loop-number : goal.invariant-loop-number
invariant-loop-number l = record {
  single : AreSingle l.table l.number l.words.items;
  order : AreAscendingBelow l.number l.words.items;
  targets : AllByRecursion IsOfATarget l.words.items;
}
