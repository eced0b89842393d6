-- the names of the last publics so far
use Rattle.std.proofs.Common.{◌-◌, [], drop, length}
use Rattle.rom80_pattern.specs.Names.{AreNames}
use Rattle.rom80_pattern.proofs.names.Names.set_publics.Given as goal

abbrev pub invariant-loop-done : goal.invariant-loop-done
invariant-loop-done l = AreNames (drop (length l.publics - l.done) l.publics) [] l.self
