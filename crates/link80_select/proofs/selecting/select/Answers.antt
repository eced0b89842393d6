use Rattle.std.proofs.Common.{sym, ◌∙◌, ap, subst, drop, length, ◌++◌, refl}
use Rattle.std.proofs.lemmas.List.{take_rest}
use Rattle.std.proofs.lemmas.Result.{IfOk-weaker}
use Rattle.link80_select.specs.Selected.{AreAscending}
use Rattle.link80_select.specs.Selecting.{marked_places, members}
use Rattle.link80_select.proofs.ChosenLemmas.{selected, marked_in_order}
use Rattle.link80_select.proofs.selecting.select.Goals as goal

pub returns : goal.returns
returns c =
    let roots = length c.args.roots.now in
    let marked = drop roots c.in_ok-marked.marked.items in
    let gives = ap (marked_places c.as_slice.result.now) (take_rest c.deref.result.now roots
    ∙ ap (drop roots) c.deref.ensures.value)
    ∙ ap (λ ps. marked_places ps marked) (c.as_slice.ensures.value ∙ c.in_ok-places.ensures) in
    record {
      chosen = IfOk-weaker c.with_mark.result _ _
          (λ taken is. selected c.args.roots.now c.args.libraries.now
          (c.args.roots.now ++ members c.args.libraries.now) c.in_ok-marked.marked.items taken.items refl c.in_ok-marked.ensures
          (is ∙ gives)) c.with_mark.ensures;
      ascending = IfOk-weaker c.with_mark.result _ _
          (λ taken is. subst AreAscending (sym (is ∙ gives)) (marked_in_order c.args.libraries.now marked)) c.with_mark.ensures;
    }
