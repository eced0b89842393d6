use Rattle.std.proofs.Common.{◌++◌, ◌∙◌, List, ℕ, ap}
use Rattle.page80.specs.Reading.{shown_in}
use Rattle.page80.proofs.LawLemmas.{shown-grows, whole-append}
use Rattle.page80.proofs.page.Page.put.Goals as goal

pub invariant_of-self-2 : goal.invariant_of-self-2
invariant_of-self-2 c =
    whole-append c.self.inside.html.items c.args.piece.now _ c.in_ok-extend_from_slice.ensures.items c.self.invariant c.requires

pub returns : goal.returns
returns c =
    shown-grows c.self.inside.html.items c.args.piece.now _ c.in_ok-extend_from_slice.ensures.items c.self.invariant
    ∙ ap (λ (shown : List ℕ). shown ++ shown_in c.args.piece.now) c.self.view_is
