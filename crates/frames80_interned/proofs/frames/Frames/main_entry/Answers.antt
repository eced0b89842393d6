use Rattle.frames80_interned.proofs.StackLemmas.{stays-self}
use Rattle.frames80_interned.proofs.FrameLemmas.{StayNumbered-interned}
use Rattle.frames80_interned.proofs.frames.Frames.main_entry.Goals as goal

pub returns-clause-stays : goal.returns-clause-stays
returns-clause-stays c =
    StayNumbered-interned c.self.inside.stacks c.self.inside.stacks c.self.inside.interned.keys c.args.self.now c.self.view_is c.self.invariant (stays-self c.self.inside.stacks) c.intern.new.frames.keys c.of_words.result c.intern.ensures.grows
