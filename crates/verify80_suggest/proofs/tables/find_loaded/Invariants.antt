use Rattle.verify80_suggest.specs.Tables.{AreLoadedBelow}
use Rattle.verify80_suggest.proofs.tables.find_loaded.Given as goal

abbrev pub invariant-loop-address : goal.invariant-loop-address
invariant-loop-address l = record {
  loaded : AreLoadedBelow l.code l.reached l.address l.loaded.items;
}
