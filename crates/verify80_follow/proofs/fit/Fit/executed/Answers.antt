use Rattle.std.specs.Prelude.{◌≡◌, Err, Ok, false, true}
use Rattle.std.proofs.Common.{ap, sym, ◌∙◌}
use Rattle.decode80.specs.{Facts.flow, declared.flow.Flow.TheVariants.JumpsToHl}
use Rattle.frames80.specs.declared.code.LookFault.{LookFault}
use Rattle.image80.specs.Image.{memory_of}
use Rattle.verify80.specs.{LookLaws.fetch_at, Looking.is_declared}
use Rattle.verify80_follow.specs.Follows.{IsExecuted}
use Rattle.verify80_follow.proofs.FitLemmas.{declared, executed, executed_ei, executed_pchl, no_jump, some_maps, undeclared}
use Rattle.verify80_follow.proofs.fit.Fit.executed.Goals as goal

pub returns-in-Ok-clause-executed : goal.returns-in-Ok-clause-executed
returns-in-Ok-clause-executed c = executed c.args.self.now.program.now c.args.self.now.interrupted c.args.at c.in-Ok.found c.looks_are_exact.ensures.found (sym c.look.ensures ∙ c.in-Ok.is)

pub returns-in-Ok-clause-declared : goal.returns-in-Ok-clause-declared
returns-in-Ok-clause-declared c = declared c.args.self.now.program.now c.args.at c.in-Ok.found c.looks_are_exact.ensures.found (sym c.look.ensures ∙ c.in-Ok.is)

pub returns-in-Err-Pchl-clause-executed : goal.returns-in-Err-Pchl-clause-executed
returns-in-Err-Pchl-clause-executed c =
    let fit = c.args.self.now in
    let image = fit.program.now in
    let at = c.args.at in
    let fault = sym c.look.ensures ∙ c.in-Err-Pchl.is ∙ ap (λ (f : LookFault). Err f) c.in-Err-Pchl.field-0-is in
    some_maps c.executed_by.result (λ it. (fetch_at image.regions (memory_of image.chunks) at ≡ Ok it.found) × (it.by_targets ≡ false)) (λ it. IsExecuted image fit.interrupted at it.found)
    (λ it is. executed_pchl image at it.found c.looks_are_exact.ensures.fault fault is.0 fit.interrupted) c.executed_by.ensures

pub returns-in-Err-Pchl-clause-declared : goal.returns-in-Err-Pchl-clause-declared
returns-in-Err-Pchl-clause-declared c =
    let fit = c.args.self.now in
    let image = fit.program.now in
    let at = c.args.at in
    let fault = sym c.look.ensures ∙ c.in-Err-Pchl.is ∙ ap (λ (f : LookFault). Err f) c.in-Err-Pchl.field-0-is in
    some_maps c.executed_by.result (λ it. (fetch_at image.regions (memory_of image.chunks) at ≡ Ok it.found) × (it.by_targets ≡ false)) (λ it. flow it.found.instr ≡ JumpsToHl → is_declared image.regions at ≡ it.by_targets)
    (λ it is jumps. undeclared image at it.found c.looks_are_exact.ensures.fault fault is.0 jumps ∙ sym is.1) c.executed_by.ensures

pub returns-in-Err-EnablesInterrupts-clause-executed : goal.returns-in-Err-EnablesInterrupts-clause-executed
returns-in-Err-EnablesInterrupts-clause-executed c =
    let fit = c.args.self.now in
    let image = fit.program.now in
    let at = c.args.at in
    let fault = sym c.look.ensures ∙ c.in-Err-EnablesInterrupts.is ∙ ap (λ (f : LookFault). Err f) c.in-Err-EnablesInterrupts.field-0-is in
    some_maps c.executed_by-in-Err-EnablesInterrupts.result (λ it. (fetch_at image.regions (memory_of image.chunks) at ≡ Ok it.found) × (it.by_targets ≡ true)) (λ it. IsExecuted image fit.interrupted at it.found)
    (λ it is. executed_ei image at it.found c.looks_are_exact.ensures.fault fault is.0 fit.interrupted c.if-self.true) c.executed_by-in-Err-EnablesInterrupts.ensures

pub returns-in-Err-EnablesInterrupts-clause-declared : goal.returns-in-Err-EnablesInterrupts-clause-declared
returns-in-Err-EnablesInterrupts-clause-declared c =
    let fit = c.args.self.now in
    let image = fit.program.now in
    let at = c.args.at in
    let fault = sym c.look.ensures ∙ c.in-Err-EnablesInterrupts.is ∙ ap (λ (f : LookFault). Err f) c.in-Err-EnablesInterrupts.field-0-is in
    some_maps c.executed_by-in-Err-EnablesInterrupts.result (λ it. (fetch_at image.regions (memory_of image.chunks) at ≡ Ok it.found) × (it.by_targets ≡ true)) (λ it. flow it.found.instr ≡ JumpsToHl → is_declared image.regions at ≡ it.by_targets)
    (λ it is jumps. no_jump image at it.found c.looks_are_exact.ensures.fault fault is.0 jumps ∙ sym is.1) c.executed_by-in-Err-EnablesInterrupts.ensures
