use Rattle.std.proofs.Common.{rules, All, get_or, subst, sym}
use Rattle.std.specs.Prelude.{take}
use Rattle.std.proofs.lemmas.List.{take_all, take_more}
use Rattle.std.proofs.lemmas.List.Elements.{All-push}
use Rattle.image80.specs.{Case.DeclaredCase, Regions.in_code}
use Rattle.verify80_suggest.specs.Known.{FitsCase}
use Rattle.verify80_suggest.proofs.known.unfit_case.Goals as goal

pub loop-case-preserved : goal.loop-case-preserved
loop-case-preserved c =
    let cases = c.args.cases.now in
    let i = c.loop-case.case-index in
    let d = c.case-item.result in
    let Fits : DeclaredCase → Type 0 = FitsCase (in_code c.args.code.now.regions) c.args.code.now in
    let one : Fits (get_or cases i d) = subst Fits c.case-item.is (search rules) in
    subst (All Fits) (sym (take_more cases i d c.loop-case-test.true)) (All-push Fits (take i cases) (get_or cases i d) c.loop-case.invariant one)

pub returns-clause-fits : goal.returns-clause-fits
returns-clause-fits c =
    subst (All (FitsCase (in_code c.args.code.now.regions) c.args.code.now)) (take_all c.loop-case.case-index c.args.cases.now c.loop-case-test.false)
    c.loop-case.invariant
