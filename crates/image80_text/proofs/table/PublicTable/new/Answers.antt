use Rattle.std.specs.Prelude.{ℕ, List, Option, None}
use Rattle.std.proofs.Common.{◌≡◌, ◌∙◌, ap, subst, sym}
use Rattle.omf_model.specs.declared.symbols.Public.{Public}
use Rattle.image80_text.specs.Tables.{AreFirst, AreNearest, filled_from}
use Rattle.image80_text.proofs.TableLemmas.{nearest_filled}
use Rattle.image80_text.proofs.table.PublicTable.new.Goals as goal

pub invariant_of-result : goal.invariant_of-result
invariant_of-result c =
    let publics : List Public = c.args.publics.items in
    let first : AreFirst publics c.in_ok-first.first.items =
    subst (λ (ps : List Public). AreFirst ps c.in_ok-first.first.items) c.deref.ensures.value c.in_ok-first.ensures.first in
    let filled : c.in_ok-nearest.nearest.items ≡ filled_from None c.in_ok-first.first.items =
    c.in_ok-nearest.ensures ∙ ap (filled_from None) c.deref-2.ensures.value in (
      first,
      subst (λ (t : List (Option ℕ)). AreNearest publics t) (sym filled)
          (nearest_filled publics c.in_ok-first.first.items first c.in_ok-first.ensures.whole),
    )
