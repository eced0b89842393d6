use Rattle.verify80_stores.proofs.Names.{◌∙◌, ap, sym, leads_outside}
use Rattle.verify80_stores.proofs.StackLemmas.{target_marked}
use Rattle.verify80_stores.proofs.stack_pointer.targets_are_marked.Goals as goal

pub returns-in-Some : goal.returns-in-Some
returns-in-Some c = λ marked to inside.
    target_marked c.args.marks.now c.in-Some.targets.now to (sym c.are_marked.ensures ∙ marked) (ap (λ o. leads_outside o to) (sym c.in-Some.ensures.declared) ∙ inside)
