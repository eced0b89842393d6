use Rattle.std.proofs.Common.{ap, sym, ◌∙◌}
use Rattle.frames80.specs.Moves.{changed}
use Rattle.frames80_interned.specs.Frames.{frame_at}
use Rattle.frames80_interned.proofs.FrameLemmas.{frame-read, AreInterned-stacks, StayNumbered-stacks, AreInterned-interned, StayNumbered-interned, IsFrame-result}
use Rattle.frames80_interned.proofs.frames.Frames.change.Goals as goal

pub invariant_of-self : goal.invariant_of-self
invariant_of-self c = AreInterned-stacks c.self.inside.stacks c.change_frame.new.stacks c.self.inside.interned.keys c.args.self.now c.self.view_is c.self.invariant c.in_err-changed.ensures.stays

pub returns-in_err-changed-clause-stays : goal.returns-in_err-changed-clause-stays
returns-in_err-changed-clause-stays c = StayNumbered-stacks c.self.inside.stacks c.change_frame.new.stacks c.self.inside.interned.keys c.args.self.now c.self.view_is c.self.invariant c.in_err-changed.ensures.stays

pub invariant_of-self-2 : goal.invariant_of-self-2
invariant_of-self-2 c =
    AreInterned-interned c.self.inside.stacks c.change_frame.new.stacks c.self.inside.interned.keys c.args.self.now c.self.view_is c.self.invariant c.in_ok-changed.ensures.stays c.intern.new.frames.keys c.in_ok-changed.changed c.intern.ensures.grows
    c.in_ok-changed.ensures.changed.there

pub returns-clause-changed : goal.returns-clause-changed
returns-clause-changed c =
    let read = frame-read c.self.inside.stacks c.self.inside.interned.keys c.args.self.now c.self.view_is c.args.frame c.interned_at-interned.result c.interned_at-interned.ensures in
    let is = c.in_ok-changed.ensures.changed.is ∙ ap (changed c.args.change) (sym read) in
    IsFrame-result c.intern.result c.change_frame.new.stacks c.intern.new.frames.keys c.in_ok-changed.changed (changed c.args.change (frame_at c.args.self.now c.args.frame)) c.intern.ensures.number is

pub returns-clause-stays : goal.returns-clause-stays
returns-clause-stays c =
    StayNumbered-interned c.self.inside.stacks c.change_frame.new.stacks c.self.inside.interned.keys c.args.self.now c.self.view_is c.self.invariant c.in_ok-changed.ensures.stays c.intern.new.frames.keys c.in_ok-changed.changed c.intern.ensures.grows
