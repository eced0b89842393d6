use Rattle.std.proofs.Common.{◌<◌, ◌∷◌, length, ap, subst, sym, ◌∙◌, List}
use Rattle.std.specs.Prelude.{ℕ}
use Rattle.frames80.specs.declared.word.Word.{Word}
use Rattle.frames80.specs.declared.word.Word.TheVariants.{Own}
use Rattle.frames80.specs.StackFrame.{of_words, entry_frame}
use Rattle.frames80_interned.proofs.FrameLemmas.{AreInterned-stacks, StayNumbered-stacks, AreInterned-interned, StayNumbered-interned, IsFrame-result}
use Rattle.frames80_interned.proofs.frames.Frames.entry.Goals as goal

pub invariant_of-self : goal.invariant_of-self
invariant_of-self c = AreInterned-stacks c.self.inside.stacks c.push.new.self c.self.inside.interned.keys c.args.self.now c.self.view_is c.self.invariant c.in_err-words.ensures.stays

pub returns-in_err-words-clause-stays : goal.returns-in_err-words-clause-stays
returns-in_err-words-clause-stays c = StayNumbered-stacks c.self.inside.stacks c.push.new.self c.self.inside.interned.keys c.args.self.now c.self.view_is c.self.invariant c.in_err-words.ensures.stays

pub invariant_of-self-2 : goal.invariant_of-self-2
invariant_of-self-2 c =
    AreInterned-interned c.self.inside.stacks c.push.new.self c.self.inside.interned.keys c.args.self.now c.self.view_is c.self.invariant c.in_ok-words.ensures.stays c.intern.new.frames.keys c.of_words.result c.intern.ensures.grows
    (subst (λ (n : ℕ). n < length c.push.new.self) (sym c.of_words.ensures.words) c.in_ok-words.ensures.pushed.there)

pub returns-clause-entry : goal.returns-clause-entry
returns-clause-entry c =
    let is = c.of_words.ensures.frame c.push.new.self ∙ ap (of_words 0) (c.in_ok-words.ensures.pushed.is ∙ ap (λ (ws : List Word). Own ∷ ws) c.self.invariant.empty.is) in
    IsFrame-result c.intern.result c.push.new.self c.intern.new.frames.keys c.of_words.result entry_frame c.intern.ensures.number is

pub returns-clause-stays : goal.returns-clause-stays
returns-clause-stays c =
    StayNumbered-interned c.self.inside.stacks c.push.new.self c.self.inside.interned.keys c.args.self.now c.self.view_is c.self.invariant c.in_ok-words.ensures.stays c.intern.new.frames.keys c.of_words.result c.intern.ensures.grows
