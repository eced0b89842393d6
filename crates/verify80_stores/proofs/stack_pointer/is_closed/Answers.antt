use Rattle.verify80_stores.proofs.Names.{◌∙◌, sym, subst, true≢false, flow, Areas, LeadsToMarked}
use Rattle.verify80_stores.proofs.StackLemmas.{closed_by, closed_without}
use Rattle.verify80_stores.proofs.stack_pointer.is_closed.Goals as goal

pub returns-then-sets_sp : goal.returns-then-sets_sp
returns-then-sets_sp c = λ sets marked.
    closed_by c.args.code.now c.args.marks.now c.args.at c.in-Ok.found (sym c.fetch.ensures ∙ c.in-Ok.is) (sym c.uses_sp.ensures ∙ c.if-uses_sp.false)
    (λ unset. absurd (true≢false (sym c.if-sets_sp.true ∙ c.sets_sp.ensures ∙ unset)))

pub returns-else-sets_sp : goal.returns-else-sets_sp
returns-else-sets_sp c = λ leads marked.
    closed_by c.args.code.now c.args.marks.now c.args.at c.in-Ok.found (sym c.fetch.ensures ∙ c.in-Ok.is) (sym c.uses_sp.ensures ∙ c.if-uses_sp.false)
    (λ unset. subst (λ (r : Areas). LeadsToMarked r c.args.marks.now c.args.at (flow c.in-Ok.found.instr) c.in-Ok.found.next) c.requires (c.leads_to_marked.ensures leads))

pub returns-in-Err : goal.returns-in-Err
returns-in-Err c = λ _ marked. closed_without c.args.code.now c.args.marks.now c.args.at c.in-Err.field-0 (sym c.fetch.ensures ∙ c.in-Err.is)
