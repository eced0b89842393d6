use Rattle.std.specs.Prelude.{IfOk}
use Rattle.std.proofs.Common.{◌≡◌, ap, subst, ◌∙◌}
use Rattle.omf_model.specs.Modules.{ModuleValue, made_of}
use Rattle.omf_model.specs.Rules.{keeps_rules}
use Rattle.image80_file.proofs.ImageFileLemmas.{made_as_it_is, image_keeps_rules}
use Rattle.image80_file.proofs.image_file.image_module.Goals as goal

pub from_sound_parts-requires : goal.from_sound_parts-requires
from_sound_parts-requires c =
    ap keeps_rules c.in_ok-parts.ensures.parts
    ∙ image_keeps_rules c.args.image.now c.args.publics.items c.requires c.in_ok-parts.ensures.rules

pub returns-clause-made : goal.returns-clause-made
returns-clause-made c =
    subst (λ (m : ModuleValue). IfOk c.from_sound_parts.result (λ made. made ≡ m)) (ap made_of c.in_ok-parts.ensures.parts
    ∙ made_as_it_is c.args.image.now c.args.publics.items)
    c.from_sound_parts.ensures
