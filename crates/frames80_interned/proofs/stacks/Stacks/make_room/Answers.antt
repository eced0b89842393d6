use Rattle.frames80_interned.specs.Stacks.{stacks_of}
use Rattle.frames80_interned.proofs.MetLemmas.{AreMet-empty}
use Rattle.frames80_interned.proofs.stacks.Stacks.make_room.Goals as goal

pub invariant_of-self : goal.invariant_of-self
invariant_of-self c = (c.self.invariant.0, AreMet-empty (stacks_of c.self.inside.links.keys) c.clear.new.self c.clear.ensures.empty)
