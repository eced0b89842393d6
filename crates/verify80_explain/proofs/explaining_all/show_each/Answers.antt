use Rattle.std.specs.Prelude.{◌≡◌, [], All, Option, Some, IfSome}
use Rattle.std.proofs.Common.{subst, sym}
use Rattle.std.proofs.lemmas.List.Elements.{All-append, All-cons, All-nil}
use Rattle.verify80_explain.specs.declared.explaining_all.ShownRefusal.{ShownRefusal}
use Rattle.verify80_explain.specs.Shows.{IsShown}
use Rattle.verify80_explain.proofs.explaining_all.show_each.Goals as goal

of_some : {A : Type 0} (P : A → Type 0) (o : Option A) (x : A) → o ≡ Some x → IfSome o P → P x
of_some P o x is given = subst (λ (p : Option _). IfSome p P) is given

pub returns-in_err-push : goal.returns-in_err-push
returns-in_err-push g c = λ all.
    subst (All (IsShown (g.C.Code.code c.args.program.now))) (sym c.in_err-push.ensures.items) (c.loop-found.invariant all)

pub loop-found-preserved : goal.loop-found-preserved
loop-found-preserved g c = λ all.
    let P : ShownRefusal → Type 0 = IsShown (g.C.Code.code c.args.program.now) in
    let one = of_some _ c.in_ok-explanation.field-0 c.in-Some.explanation c.in-Some.is c.in_ok-explanation.ensures in
    subst (All P) (sym c.in_ok-push.ensures.items)
    (All-append P c.loop-found.shown.items _ (c.loop-found.invariant all) (All-cons P _ [] one (All-nil P)))
