use Rattle.std.proofs.Common.{ap, sym, ◌∙◌, Option}
use Rattle.std.specs.Prelude.{option_map}
use Rattle.std.specs.Option.{option_to_list}
use Rattle.omf_body.specs.declared.body.Place.{Place}
use Rattle.omf_module.specs.Uses.{unknown_id}
use Rattle.omf_module.specs.Reading.{with_contents}
use Rattle.omf_module.proofs.uses.check_start.Goals as goal

pub returns-in-Some : goal.returns-in-Some
returns-in-Some c = λ cs. c.check_id.ensures cs
    ∙ ap (λ (s : Option Place). unknown_id (with_contents c.args.parts.now cs) (option_to_list (option_map (λ p. p.segment) s)))
    (sym c.in-Some.is)
