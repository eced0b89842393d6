use Rattle.verify80_stores.proofs.Names.{◌≡◌, ◌∙◌, Bool, List, true, ap, sym, subst, Located, is_marked, AreClosed}
use Rattle.verify80_stores.proofs.StackLemmas.{sets_stack}
use Rattle.verify80_stores.proofs.stack_pointer.sets_stack.Goals as goal

pub returns : goal.returns
returns c = λ closed.
    let image = c.args.image.now in
    let marks = c.in_ok-marks.marks.items in
    let begins : is_marked marks image.start ≡ true =
    ap (λ (m : List Bool). is_marked m image.start) (sym c.deref.ensures.value)
    ∙ ap (λ (i : Located). is_marked c.deref.result.now i.start) (sym c.image.view_is)
    ∙ sym c.is_marked.ensures ∙ c.if-not-is_marked.false in
    sets_stack image marks c.in_ok-marks.ensures begins
    (subst (λ (m : List Bool). AreClosed image m 65536) c.deref-2.ensures.value
    (subst (λ (i : Located). AreClosed i c.deref-2.result.now 65536) c.in_ok-code.ensures (c.are_closed.ensures closed)))
