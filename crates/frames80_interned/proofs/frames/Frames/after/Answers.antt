use Rattle.std.specs.Prelude.{ℕ, ◌<◌, length}
use Rattle.std.proofs.Common.{ap, subst, sym, ◌∙◌, arith}
use Rattle.frames80.specs.StackFrame.{StackFrame, of_words}
use Rattle.frames80.specs.Calls.{room, returned}
use Rattle.frames80_interned.specs.Frames.{frame_at}
use Rattle.frames80_interned.proofs.StackLemmas.{stays-self}
use Rattle.frames80_interned.proofs.FrameLemmas.{frame-read, AreInterned-interned, StayNumbered-interned, IsFrame-interned}
use Rattle.frames80_interned.proofs.frames.Frames.after.Goals as goal

pub returns-in_err-intern-clause-stays : goal.returns-in_err-intern-clause-stays
returns-in_err-intern-clause-stays c =
    StayNumbered-interned c.self.inside.stacks c.self.inside.stacks c.self.inside.interned.keys c.args.self.now c.self.view_is c.self.invariant (stays-self c.self.inside.stacks) c.intern.new.frames.keys c.of_words.result c.intern.ensures.grows

pub invariant_of-self-2 : goal.invariant_of-self-2
invariant_of-self-2 c =
    AreInterned-interned c.self.inside.stacks c.self.inside.stacks c.self.inside.interned.keys c.args.self.now c.self.view_is c.self.invariant (stays-self c.self.inside.stacks) c.intern.new.frames.keys c.of_words.result c.intern.ensures.grows
    (subst (λ (n : ℕ). n < length c.self.inside.stacks) (sym c.of_words.ensures.words) c.beneath-words.ensures.there)

pub returns-clause-enough : goal.returns-clause-enough
returns-clause-enough c =
    let read = frame-read c.self.inside.stacks c.self.inside.interned.keys c.args.self.now c.self.view_is c.args.frame c.interned_at-interned.result c.interned_at-interned.ensures in
    let e = ap (λ (f : StackFrame). room c.args.role f.words) read in
    omega (arith, c.room.ensures)

pub returns-clause-back : goal.returns-clause-back
returns-clause-back c =
    let read = frame-read c.self.inside.stacks c.self.inside.interned.keys c.args.self.now c.self.view_is c.args.frame c.interned_at-interned.result c.interned_at-interned.ensures in
    let is = c.of_words.ensures.frame c.self.inside.stacks ∙ ap (of_words c.interned_at-interned.result.taken) c.beneath-words.ensures.is ∙ ap (returned c.args.taken) (sym read) in
    IsFrame-interned c.self.inside.stacks c.intern.new.frames.keys c.in_ok-intern.field-0 c.of_words.result (returned c.args.taken (frame_at c.args.self.now c.args.frame)) c.in_ok-intern.ensures.number is

pub returns-clause-stays : goal.returns-clause-stays
returns-clause-stays c =
    StayNumbered-interned c.self.inside.stacks c.self.inside.stacks c.self.inside.interned.keys c.args.self.now c.self.view_is c.self.invariant (stays-self c.self.inside.stacks) c.intern.new.frames.keys c.of_words.result c.intern.ensures.grows
