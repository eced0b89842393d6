use Rattle.plm80_programs.proofs.Names.{ℕ, List, ◌++◌, refl, ◌∙◌, ap, sym}
use Rattle.plm80_programs.specs.Explanations.ShowsRest.{behind}
use Rattle.plm80_programs.proofs.all_refusals.append_rest.Goals as goal

pub returns : goal.returns
returns c =
    behind c.in_ok-rest.rest.items (sym c.is_among.ensures ∙ c.if-is_among.false) c.in_ok-rest.ensures.shows refl
    (c.in_ok-extend_from_slice.ensures.items ∙ ap (λ (l : List ℕ). c.args.text.now.items ++ l) c.deref.ensures.value)
