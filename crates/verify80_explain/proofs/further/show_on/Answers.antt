use Rattle.std.specs.Prelude.{[], All}
use Rattle.std.proofs.Common.{sym, subst}
use Rattle.std.specs.Global.{Vec}
use Rattle.std.proofs.lemmas.List.Elements.{All-append, All-cons, All-nil}
use Rattle.frames80.specs.Code.{Code}
use Rattle.verify80.specs.Looking.{code_of}
use Rattle.verify80_explain.specs.declared.explaining_all.FurtherRefusals.{FurtherRefusals}
use Rattle.verify80_explain.specs.declared.conditions.Conditions.{Conditions}
use Rattle.verify80_explain.specs.declared.explaining_all.ShownRefusal.{ShownRefusal}
use Rattle.verify80_explain.specs.Conditions.{AreConditionsOf, AreShownIf, code_if}
use Rattle.verify80_explain.specs.Order.{AreShownInOrder}
use Rattle.verify80_explain.specs.Shows.{IsShown}
use Rattle.verify80_explain.proofs.further.show_on.Goals as goal

shown_if : (code : Code) (conditions : Conditions) (shown : Vec ShownRefusal) → AreConditionsOf code conditions
    → All (IsShown (code_if conditions code)) shown.items → AreShownInOrder shown.items → AreShownIf code (record { conditions = conditions; shown = shown })
shown_if code conditions shown are all order = record { conditions = are; shown = all; in_order = order }

pub returns : goal.returns
returns c = λ all.
    let P : FurtherRefusals → Type 0 = AreShownIf (code_of c.args.code.now) in
    let of = IsShown (code_if c.args.conditions (code_of c.args.code.now)) in
    let one = shown_if (code_of c.args.code.now) c.args.conditions c.show_if.new.shown c.requires
    (c.in_ok-are_shown.ensures.shown (subst (All of) (sym c.new-shown.ensures.items) (All-nil of))) c.in_ok-are_shown.ensures.in_order in
    subst (All P) (sym c.in_ok-push.ensures.items)
    (All-append P c.args.further.now.items _ all (All-cons P _ [] one (All-nil P)))
