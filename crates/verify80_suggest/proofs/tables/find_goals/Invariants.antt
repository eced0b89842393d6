use Rattle.verify80_suggest.specs.Tables.{AreGoalsBelow}
use Rattle.verify80_suggest.proofs.tables.find_goals.Given as goal

abbrev pub invariant-loop-address : goal.invariant-loop-address
invariant-loop-address l = record {
  goals : AreGoalsBelow l.code l.address l.goals.items;
}
