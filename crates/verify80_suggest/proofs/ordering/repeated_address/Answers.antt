use Rattle.std.proofs.Common.{◌≡◌, ◌≤◌, ◌<◌, ◌+◌, ◌-◌, ℕ, ap, arith, get_or, refl, subst, sym, ◌∙◌}
use Rattle.std.specs.Prelude.{All, take}
use Rattle.std.proofs.lemmas.List.{get_or_default, take_all}
use Rattle.image80.specs.Case.{AreByAddress, DeclaredCase}
use Rattle.verify80_suggest.proofs.OrderLemmas.{case_above, no_cases}
use Rattle.verify80_suggest.proofs.ordering.repeated_address.Goals as goal

pub loop-case-init : goal.loop-case-init
loop-case-init c = record { by_address = no_cases.0; below = no_cases.1; start = λ _. refl; last = λ d some. absurd (omega (arith, some)) }

pub loop-case-preserved : goal.loop-case-preserved
loop-case-preserved c =
    let cases = c.args.cases.now in
    let i = c.loop-case.case-index in
    let d = c.case-item.result in
    let seen = ap (λ (k : DeclaredCase). k.at) c.case.view_is in
    let item = ap (λ (k : DeclaredCase). k.at) c.case-item.is in
    let above : c.loop-case.limit ≤ (get_or cases i d).at = omega (arith, c.if-from-limit.false, c.from.ensures, seen, item) in
    let same : (get_or cases i d).at + 1 ≡ c.from-limit.result + 1 = omega (arith, c.from-limit.ensures, seen, item) in
    let more = case_above cases i d c.loop-case.limit c.loop-case-test.true above c.loop-case.invariant.by_address c.loop-case.invariant.below in
    let back : i + 1 - 1 ≡ i = omega arith in
    record {
      by_address = more.0;
      below = subst (λ n. All (λ (k : DeclaredCase). k.at < n) (take (i + 1) cases)) same more.1;
      start = λ none. absurd (omega (arith, none));
      last = λ e some.
          subst (λ (n : ℕ). c.from-limit.result + 1 ≡ (get_or cases n e).at + 1) (sym back)
          (sym same ∙ ap (λ (k : DeclaredCase). k.at + 1) (get_or_default cases i d e c.loop-case-test.true));
    }

pub returns-clause-by_address : goal.returns-clause-by_address
returns-clause-by_address c = subst AreByAddress (take_all c.loop-case.case-index c.args.cases.now c.loop-case-test.false) c.loop-case.invariant.by_address
