use Rattle.verify80_suggest.specs.Tables.{AreWordsBelow}
use Rattle.verify80_suggest.proofs.tables.find_words.Given as goal

abbrev pub invariant-loop-address : goal.invariant-loop-address
invariant-loop-address l = record {
  words : AreWordsBelow l.code l.covered l.loaded l.goals l.address l.words.items;
}
