use Rattle.omf_library.proofs.feed.LibraryFeed.new.Goals as goal

pub invariant_of-result : goal.invariant_of-result
invariant_of-result c = c.new-2.ensures c.new.result.items
