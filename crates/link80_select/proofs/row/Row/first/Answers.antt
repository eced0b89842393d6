use Rattle.std.proofs.Common.{◌∙◌, ap}
use Rattle.omf_library.specs.Providers.{first_provider}
use Rattle.link80_select.proofs.ChosenLemmas.{first_within}
use Rattle.link80_select.proofs.row.Row.first.Goals as goal

pub returns-clause-within : goal.returns-clause-within
returns-clause-within c = first_within c.args.self.now c.args.name.now c.first.result
    (c.first.ensures _ c.self.invariant ∙ ap (λ ms. first_provider ms c.args.name.now) c.self.view_is)
