use Rattle.std.proofs.Common.{◌∙◌, ℕ, List, ap}
use Rattle.std.specs.Prelude.{Option}
use Rattle.omf_model.specs.declared.symbols.Public.{Public}
use Rattle.image80_text.specs.Names.{is_at, public_at}
use Rattle.image80_text.specs.Tables.{entry_at, public_with}
use Rattle.image80_text.proofs.TableLemmas.{found_by_position}
use Rattle.image80_text.proofs.table.PublicTable.at.Goals as goal

pub returns : goal.returns
returns c =
    let publics : List Public = c.self.inside.publics.items in
    let entry = c.entry_at.ensures ∙ ap (λ (t : List (Option ℕ)). entry_at t c.args.address) c.deref-2.ensures.value
    ∙ c.self.invariant.0 c.args.address c.ranges.address.fits in
    c.public_with.ensures
    ∙ ap (λ (ps : List Public). public_with ps c.entry_at.result) c.deref.ensures.value
    ∙ ap (public_with publics) entry
    ∙ found_by_position (is_at c.args.address) publics
    ∙ ap (λ (ps : List Public). public_at ps c.args.address) c.self.view_is
