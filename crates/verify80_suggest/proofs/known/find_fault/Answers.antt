use Rattle.std.proofs.Common.{◌≡◌, subst, sym, true}
use Rattle.std.specs.Prelude.{All, IfSome, Option, None, Some}
use Rattle.image80.specs.Image.{Located}
use Rattle.verify80_suggest.specs.Known.{has_instruction}
use Rattle.verify80_suggest.proofs.known.find_fault.Goals as goal

if_some : {A P Q : Type 0} (o : Option A) → (P → Q) → IfSome o (λ _. P) → IfSome o (λ _. Q)
if_some (Some x) more is = more is
if_some None more is = tt

pub returns-clause-unfit : goal.returns-clause-unfit
returns-clause-unfit c =
    if_some c.lacking_instruction.result
    (λ lacks fits. lacks
    (subst (λ (image : Located). All (λ at. has_instruction image at ≡ true) c.args.known.entries.now) (sym c.in_ok-code.ensures) fits.each_entry))
    c.lacking_instruction.ensures.unfit
