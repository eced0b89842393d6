use Rattle.std.specs.Prelude.{All}
use Rattle.std.proofs.Common.{sym, subst}
use Rattle.std.proofs.lemmas.List.Elements.{All-nil}
use Rattle.image80.specs.Image.{Located}
use Rattle.verify80.specs.Looking.{code_of}
use Rattle.verify80_explain.specs.Conditions.{AreShownIf}
use Rattle.verify80_explain.specs.Shows.{IsShown}
use Rattle.verify80_explain.proofs.explaining_all.explain_all.Goals as goal

pub returns : goal.returns
returns c =
    let none = subst (All (IsShown (code_of c.in_ok-code.code))) (sym c.new-shown.ensures.items) (All-nil (IsShown (code_of c.in_ok-code.code))) in
    let no_further = subst (All (AreShownIf (code_of c.in_ok-code.code))) (sym c.new-further.ensures.items) (All-nil (AreShownIf (code_of c.in_ok-code.code))) in
    record {
      shown = subst (λ (i : Located). All (IsShown (code_of i)) c.sort_shown.new.shown.items) c.in_ok-code.ensures
          (c.in_ok-sort_shown.ensures.kept (code_of c.in_ok-code.code) (c.show_reached.ensures none));
      further = subst (λ (i : Located). All (AreShownIf (code_of i)) c.show_further-answer.new.further.items) c.in_ok-code.ensures (c.show_further-answer.ensures no_further);
      in_order = c.in_ok-sort_shown.ensures.in_order;
    }
