use Rattle.std.specs.Prelude.{◌≡◌, ℕ, List, Option, []}
use Rattle.std.proofs.Common.{subst, sym}
use Rattle.omf_model.specs.declared.symbols.Public.{Public}
use Rattle.image80_text.specs.Tables.{AreFirst, AreNearest}
use Rattle.image80_text.proofs.TableLemmas.{first_of_none, nearest_of_none}
use Rattle.image80_text.proofs.table.PublicTable.none.Goals as goal

both : (publics : List Public) (first nearest : List (Option ℕ)) → publics ≡ [] → first ≡ [] → nearest ≡ []
    → AreFirst publics first × AreNearest publics nearest
both publics first nearest none no_first no_nearest =
    subst (λ (ps : List Public). AreFirst ps first × AreNearest ps nearest) (sym none) (
      subst (λ (t : List (Option ℕ)). AreFirst [] t) (sym no_first) first_of_none,
      subst (λ (t : List (Option ℕ)). AreNearest [] t) (sym no_nearest) nearest_of_none,
    )

pub invariant_of-result : goal.invariant_of-result
invariant_of-result c =
    both c.new.result.items c.new-2.result.items c.new-3.result.items c.new.ensures.items c.new-2.ensures.items c.new-3.ensures.items
