use Rattle.std.proofs.Common.{◌≡◌, ◌∙◌, ℕ, List, ap, sym}
use Rattle.std.specs.Prelude.{Option, Some, None, IfSome, option_copied, ◌≤◌}
use Rattle.std.proofs.Common.{Bor}
use Rattle.omf_model.specs.declared.symbols.Public.{Public}
use Rattle.image80_text.specs.NameText.{nearest_from}
use Rattle.image80_text.specs.Tables.{entry_at, public_with}
use Rattle.image80_text.proofs.TableLemmas.{nearest_at_most}
use Rattle.image80_text.proofs.table.PublicTable.nearest_below.Goals as goal

pub returns-clause-which : goal.returns-clause-which
returns-clause-which c =
    let publics : List Public = c.self.inside.publics.items in
    c.public_with.ensures
    ∙ ap (λ (ps : List Public). public_with ps c.entry_at.result) c.deref.ensures.value
    ∙ ap (public_with publics) (c.entry_at.ensures ∙ ap (λ (t : List (Option ℕ)). entry_at t c.args.address) c.deref-2.ensures.value)
    ∙ c.self.invariant.1 c.args.address c.ranges.address.fits
    ∙ ap (λ (ps : List Public). nearest_from ps c.args.address c.args.address) c.self.view_is

pub returns-clause-below : goal.returns-clause-below
returns-clause-below c = go c.public_with.result (returns-clause-which c)
  where
    go : (o : Option (Bor Public)) → option_copied o ≡ nearest_from c.args.self.now c.args.address c.args.address
        → IfSome o (λ public. public.now.offset ≤ c.args.address)
    go None is = tt
    go (Some p) is = nearest_at_most c.args.self.now c.args.address c.args.address p.now (sym is)
