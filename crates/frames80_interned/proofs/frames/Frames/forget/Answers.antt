use Rattle.std.proofs.Common.{sym, subst}
use Rattle.frames80.specs.StackFrame.{StackFrame}
use Rattle.frames80.specs.Places.{Covers}
use Rattle.frames80_interned.specs.Frames.{frame_at}
use Rattle.frames80_interned.specs.Stacks.{words_at}
use Rattle.frames80_interned.specs.InternedFrame.{frame_of, pairs_of}
use Rattle.frames80_interned.specs.declared.interned_frame.InternedFrame.{InternedFrame}
use Rattle.frames80_interned.proofs.LesserLemmas.{lesser_covers}
use Rattle.frames80_interned.proofs.FrameLemmas.{frame-read, AreInterned-stacks, StayNumbered-stacks, AreInterned-interned, StayNumbered-interned, IsLesserFrame-result}
use Rattle.frames80_interned.proofs.frames.Frames.forget.Goals as goal

pub invariant_of-self : goal.invariant_of-self
invariant_of-self c = AreInterned-stacks c.self.inside.stacks c.forget_words.new.stacks c.self.inside.interned.keys c.args.self.now c.self.view_is c.self.invariant c.in_err-words.ensures.stays

pub returns-in_err-words-clause-stays : goal.returns-in_err-words-clause-stays
returns-in_err-words-clause-stays c = StayNumbered-stacks c.self.inside.stacks c.forget_words.new.stacks c.self.inside.interned.keys c.args.self.now c.self.view_is c.self.invariant c.in_err-words.ensures.stays

pub invariant_of-self-2 : goal.invariant_of-self-2
invariant_of-self-2 c =
    AreInterned-interned c.self.inside.stacks c.forget_words.new.stacks c.self.inside.interned.keys c.args.self.now c.self.view_is c.self.invariant c.in_ok-words.ensures.stays c.intern.new.frames.keys _ c.intern.ensures.grows
    c.in_ok-words.ensures.lesser.there

pub returns-clause-lesser : goal.returns-clause-lesser
returns-clause-lesser c =
    let interned = c.interned_at-interned.result in
    let read = frame-read c.self.inside.stacks c.self.inside.interned.keys c.args.self.now c.self.view_is c.args.frame interned c.interned_at-interned.ensures in
    let lesser : InternedFrame = record { taken = interned.taken; words = c.in_ok-words.words; bc = c.forget_word.result; de = c.forget_word-2.result; hl = c.forget_word-3.result } in
    let covers : Covers (frame_of c.forget_words.new.stacks lesser) (frame_of c.self.inside.stacks interned) =
    lesser_covers interned.taken (words_at c.forget_words.new.stacks c.in_ok-words.words) (words_at c.self.inside.stacks interned.words) (pairs_of lesser) (pairs_of interned)
    c.in_ok-words.ensures.lesser.lesser c.forget_word.ensures c.forget_word-2.ensures c.forget_word-3.ensures in
    IsLesserFrame-result c.intern.result c.forget_words.new.stacks c.intern.new.frames.keys lesser (frame_at c.args.self.now c.args.frame) c.intern.ensures.number
    (subst (λ (f : StackFrame). Covers (frame_of c.forget_words.new.stacks lesser) f) (sym read) covers)

pub returns-clause-stays : goal.returns-clause-stays
returns-clause-stays c =
    StayNumbered-interned c.self.inside.stacks c.forget_words.new.stacks c.self.inside.interned.keys c.args.self.now c.self.view_is c.self.invariant c.in_ok-words.ensures.stays c.intern.new.frames.keys _ c.intern.ensures.grows
