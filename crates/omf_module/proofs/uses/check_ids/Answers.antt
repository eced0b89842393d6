use Rattle.std.proofs.Common.{ap, sym, ◌∙◌}
use Rattle.omf_body.specs.declared.body.Body.{Body}
use Rattle.omf_module.specs.Uses.{unknown_id, ids_in}
use Rattle.omf_module.specs.Reading.{with_contents}
use Rattle.omf_module.proofs.uses.check_ids.Goals as goal

pub returns-in-Content : goal.returns-in-Content
returns-in-Content c = λ cs. c.check_id.ensures cs
    ∙ ap (λ (b : Body). unknown_id (with_contents c.args.parts.now cs) (ids_in b)) (sym c.in-Content.is)

pub returns-in-PublicDeclarations : goal.returns-in-PublicDeclarations
returns-in-PublicDeclarations c = λ cs. c.check_id-in-PublicDeclarations.ensures cs
    ∙ ap (λ (b : Body). unknown_id (with_contents c.args.parts.now cs) (ids_in b)) (sym c.in-PublicDeclarations.is)

pub returns-in-IntersegmentReferences : goal.returns-in-IntersegmentReferences
returns-in-IntersegmentReferences c = λ cs. c.check_id-in-IntersegmentReferences.ensures cs
    ∙ ap (λ (b : Body). unknown_id (with_contents c.args.parts.now cs) (ids_in b)) (sym c.in-IntersegmentReferences.is)
