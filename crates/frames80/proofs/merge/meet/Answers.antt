use Rattle.std.proofs.Common.{◌≡◌, ◌∙◌, ap, sym, length, reverse}
use Rattle.frames80.specs.Calls.{words_met}
use Rattle.frames80.proofs.Meeting.{words_met-reverse, same_frame, changed_frame}
use Rattle.frames80.proofs.merge.meet.Goals as goal

pub returns-clause-merged : goal.returns-clause-merged
returns-clause-merged c =
    let mine = c.frame.inside.words.items in
    let other = c.other.inside.words.items in
    let long : length mine ≡ length other =
    sym c.frame.inside.words.ok.0 ∙ sym c.len.ensures ∙ c.if-len.false ∙ c.len-else-frame-other.ensures ∙ c.other.inside.words.ok.0 in
    let words : reverse c.meet_words-words.new.words.items ≡ words_met (reverse mine) (reverse other) =
    ap reverse c.meet_words-words.ensures.met ∙ sym (words_met-reverse mine other long) in
    rw (← c.frame.view_is, ← c.other.view_is) (same_frame c.frame.inside.taken _ _ _ _ _ _ _ _ words c.meet_word-bc.ensures.met c.meet_word-de.ensures.met c.meet_word-hl.ensures.met)

pub returns-clause-changed : goal.returns-clause-changed
returns-clause-changed c = rw (← c.frame.view_is) (changed_frame _ _ _ _ _ _ _ _ _ _ _ _ _ c.meet_words-words.ensures.changed c.meet_word-bc.ensures.changed c.meet_word-de.ensures.changed c.meet_word-hl.ensures.changed)
