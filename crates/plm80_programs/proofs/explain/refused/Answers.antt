use Rattle.plm80_programs.proofs.Names.{◌≡◌, ◌≢◌, ℕ, Option, Some, Result, Ok, Err, IfOk, OnOk, ◌∙◌, subst, sym, Refusal, ShowsWith}
use Rattle.plm80_programs.proofs.Names.{GoesOnWithWays, named_refusal_line, needed_stack}
use Rattle.verify80_flow.specs.declared.refusal.Refusal.TheVariants.{Memory}
use Rattle.plm80_programs.proofs.explain.refused.Goals as goal

-- a refusal that compares bytes of stack isn't out of memory
no_memory : (refusal : Refusal) (need : ℕ) → Some need ≡ needed_stack refusal → refusal ≢ Memory
no_memory refusal need e is =
    let none : Some need ≡ needed_stack Memory = subst (λ (r : Refusal). Some need ≡ needed_stack r) is e in cc

on_ok : {A E P : Type 0} (r : Result A E) → P → OnOk r P
on_ok (Ok x) p = p
on_ok (Err e) p = tt

pub returns-in-Some-clause-shows : goal.returns-in-Some-clause-shows
returns-in-Some-clause-shows c =
    subst (λ (o : Option ℕ). IfOk c.overrun.result (λ text. ShowsWith c.args.image.now c.args.names.now c.args.refusal o text.items))
    (sym c.in-Some.is ∙ c.needed_stack.ensures) c.overrun.ensures

pub returns-in-Some-clause-no_memory : goal.returns-in-Some-clause-no_memory
returns-in-Some-clause-no_memory c =
    on_ok c.overrun.result (no_memory c.args.refusal c.in-Some.need (sym c.in-Some.is ∙ c.needed_stack.ensures))

pub returns-in_ok-append_explanation-in-None-clause-shows : goal.returns-in_ok-append_explanation-in-None-clause-shows
returns-in_ok-append_explanation-in-None-clause-shows c =
    let image = c.args.image.now in
    let text = c.append_explanation.new.text.items in
    let ways : GoesOnWithWays image c.args.names.now c.args.refusal (named_refusal_line image.regions.code c.args.names.now c.args.refusal) text =
    simp (c.publics.ensures, c.in_ok-text-in-None.ensures.line) at c.in_ok-append_explanation-in-None.ensures in
    subst (λ (o : Option ℕ). ShowsWith image c.args.names.now c.args.refusal o text) (sym c.in-None.is ∙ c.needed_stack.ensures) ways
