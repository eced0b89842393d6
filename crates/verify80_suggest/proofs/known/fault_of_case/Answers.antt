use Rattle.std.proofs.Common.{◌≡◌, ap, subst, sym, true, ℕ, ◌∙◌}
use Rattle.std.specs.Prelude.{All, IfNone, IfSome, Option, None, Some}
use Rattle.image80.specs.{Case.DeclaredCase, Regions.in_code}
use Rattle.verify80_cases.specs.Suggested.{holds_pchl}
use Rattle.verify80_suggest.specs.Known.{fetch_in, has_instruction}
use Rattle.verify80_suggest.proofs.known.fault_of_case.Goals as goal

if_none : {A P Q : Type 0} (o : Option A) → (P → Q) → IfNone o P → IfNone o Q
if_none (Some x) more is = tt
if_none None more is = more is

if_some : {A P Q : Type 0} (o : Option A) → (P → Q) → IfSome o (λ _. P) → IfSome o (λ _. Q)
if_some (Some x) more is = more is
if_some None more is = tt

pub returns-then-holds_pchl-clause-unfit : goal.returns-then-holds_pchl-clause-unfit
returns-then-holds_pchl-clause-unfit c =
    let targets = c.deref.ensures.value ∙ ap (λ (k : DeclaredCase). k.targets) c.case.view_is in
    if_some c.lacking_instruction.result
    (λ lacks fits. lacks (subst (All (λ at. has_instruction c.args.code.now at ≡ true)) (sym targets) fits.targets))
    c.lacking_instruction.ensures.unfit

pub returns-then-holds_pchl-clause-fits : goal.returns-then-holds_pchl-clause-fits
returns-then-holds_pchl-clause-fits c =
    let image = c.args.code.now in
    let targets = c.deref.ensures.value ∙ ap (λ (k : DeclaredCase). k.targets) c.case.view_is in
    let at = ap (λ (k : DeclaredCase). k.at) c.case.view_is in
    if_none c.lacking_instruction.result
    (λ each. record {
      pchl = subst (λ (n : ℕ). holds_pchl (fetch_in (in_code image.regions) image n) ≡ true) at (sym c.holds_pchl.ensures ∙ c.if-holds_pchl.true);
      targets = subst (All (λ at. has_instruction image at ≡ true)) targets each;
    })
    c.lacking_instruction.ensures.fits
