use Rattle.std.proofs.Common.{◌≡◌, ℕ, Bool, false, List, ap, sym, subst, ◌∙◌}
use Rattle.std.specs.Prelude.{slice_index_or}
use Rattle.std.specs.List.{list_any}
use Rattle.verify80_calls.specs.declared.graph.chain.Link.{Link}
use Rattle.verify80_calls.specs.Chain.{is_link}
use Rattle.verify80_calls.proofs.TableLemmas.{none_there}
use Rattle.verify80_calls.proofs.graph.chain.MarkedChain.has.Goals as goal

pub returns-else-index : goal.returns-else-index
returns-else-index c =
    let marks = c.self.inside.marks.items in
    let none : slice_index_or marks c.args.at false ≡ false =
    ap (λ (k : ℕ). slice_index_or marks k false) (sym c.from.ensures)
    ∙ (ap (λ (d : Bool). slice_index_or marks c.from.result d) (sym c.if-index.false) ∙ (sym c.index.ensures ∙ c.if-index.false)) in
    c.if-index.false
    ∙ sym (subst (λ (l : List Link). list_any (is_link c.args.caller c.args.at) l ≡ false) c.self.view_is
    (none_there c.self.inside.links.items c.args.caller c.args.at (sym (c.self.invariant.each c.args.at) ∙ none)))
