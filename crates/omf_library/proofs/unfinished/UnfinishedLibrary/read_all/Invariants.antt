-- what was read, and what is left
use Rattle.omf_library.specs.Unfinished.{ReadsLibrary, left_after, Extends}
use Rattle.omf_library.proofs.unfinished.UnfinishedLibrary.read_all.Given as goal

abbrev pub invariant-items : goal.invariant-items
invariant-items l = record {
  reads : ReadsLibrary l.bytes l.self;
  extends : Extends l.fn.self.modules.items l.self.modules.items;
}

abbrev pub decreases-items : goal.decreases-items
decreases-items l = left_after l.bytes l.self.next l.self.progress
