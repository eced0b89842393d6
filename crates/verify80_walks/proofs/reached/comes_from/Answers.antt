use Rattle.std.proofs.Common.{◌≡◌, Bool, true, subst, sym}
use Rattle.std.specs.Prelude.{IfOk}
use Rattle.std.proofs.lemmas.Result.{IfOk-weaker}
use Rattle.verify80_walks.specs.declared.search.Origin.{Origin}
use Rattle.verify80_walks.specs.Reached.{BackFrom, Comes, EntersFrom}
use Rattle.verify80_walks.specs.Ways.{LeadsOn}
use Rattle.verify80_walks.proofs.reached.comes_from.Goals as goal

pub returns-in-Some : goal.returns-in-Some
returns-in-Some g c =
    let code = g.C.Code.code c.args.program.now in
    let points = c.args.points.now in
    let one = c.in-Some.one.now in
    subst (λ (o : Origin). IfOk c.leads_on.result (λ (r : Bool). r ≡ true → Comes code points c.args.number c.args.point.now o)) (sym c.in-GoesOn.is)
    (IfOk-weaker c.leads_on.result (λ (r : Bool). r ≡ true → LeadsOn code one c.args.point.now) _
    (λ r leads is. record { earlier = c.in-Some.ensures.earlier; point = one; is = c.in-Some.ensures.point; there = leads is }) c.leads_on.ensures)

pub returns-in-Some-earlier : goal.returns-in-Some-earlier
returns-in-Some-earlier g c =
    let code = g.C.Code.code c.args.program.now in
    let points = c.args.points.now in
    let one = c.in-Some-earlier.one.now in
    subst (λ (o : Origin). IfOk c.enters.result (λ (r : Bool). r ≡ true → Comes code points c.args.number c.args.point.now o)) (sym c.in-Enters.is)
    (IfOk-weaker c.enters.result (λ (r : Bool). r ≡ true → EntersFrom code one c.args.point.now) _
    (λ r enters is. record { earlier = c.in-Some-earlier.ensures.earlier; point = one; is = c.in-Some-earlier.ensures.point; there = enters is }) c.enters.ensures)

pub returns-in-Some-earlier-3 : goal.returns-in-Some-earlier-3
returns-in-Some-earlier-3 g c =
    let code = g.C.Code.code c.args.program.now in
    let points = c.args.points.now in
    let one = c.in-Some-earlier-2 in
    let callee = c.in-Some-earlier-3 in
    subst (λ (o : Origin). IfOk c.comes_back.result (λ (r : Bool). r ≡ true → Comes code points c.args.number c.args.point.now o))
    (sym c.in-ComesBack.is)
    (IfOk-weaker c.comes_back.result (λ (r : Bool). r ≡ true → BackFrom code one.one.now callee.callee.now c.args.point.now) _
    (λ r back is. record {
      earlier = one.ensures.earlier;
      point = one.one.now;
      is = one.ensures.point;
      there = record { earlier = callee.ensures.earlier; point = callee.callee.now; is = callee.ensures.point; there = back is };
    }) c.comes_back.ensures)
