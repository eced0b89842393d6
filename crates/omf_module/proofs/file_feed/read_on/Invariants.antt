-- what was read, and what is left
use Rattle.std.proofs.Common.{◌-◌, length}
use Rattle.omf_module.specs.FileFeed.{ReadsFile, GrowsBy}
use Rattle.omf_module.proofs.file_feed.read_on.Given as goal

abbrev pub invariant-loop : goal.invariant-loop
invariant-loop l = record { reads : ReadsFile l.bytes l.read; grown : GrowsBy l.initial.read.modules.items l.read.modules.items }

abbrev pub decreases-loop : goal.decreases-loop
decreases-loop l = length l.bytes - l.read.unfinished.begin
