use Rattle.std.proofs.Common.{subst, ◌∙◌}
use Rattle.image80_file.specs.ImageFile.{without_regions}
use Rattle.plm80_files.specs.Wrong.{SpellsNoImage, SpellsNoRegions}
use Rattle.plm80_console.specs.AnswerLaws.{blames_same, blames_so, err_from}
use Rattle.plm80_names.specs.Printed.{HasNoNames}
use Rattle.plm80_names.proofs.named_files.ProgramTexts.program.Goals as goal

pub returns-in_err-areas-clause-fault : goal.returns-in_err-areas-clause-fault
returns-in_err-areas-clause-fault g c =
    err_from c.from_residual.result
    (blames_so
    (λ lacks image publics are. subst SpellsNoRegions c.deref.ensures.value lacks image.regions are.regions)
    c.in_err-areas.ensures.fault)

pub returns-in_err-image-clause-fault : goal.returns-in_err-image-clause-fault
returns-in_err-image-clause-fault g c =
    err_from c.from_residual-in_err-image.result
    (blames_same c.in_ok-areas.ensures.unchanged
    (blames_so
    (λ lacks image publics are. subst SpellsNoImage c.deref-2.ensures.value lacks (without_regions image) are.contents)
    c.in_err-image.ensures.fault))

pub returns-in_err-names-clause-fault : goal.returns-in_err-names-clause-fault
returns-in_err-names-clause-fault g c =
    err_from c.from_residual-in_err-names.result
    (blames_same (c.in_ok-image.ensures.unchanged ∙ c.in_ok-areas.ensures.unchanged)
    (blames_so
    (λ lacks image publics are. subst (HasNoNames c.args.asked) c.deref-3.ensures.value lacks publics are.names)
    c.in_err-names.ensures.fault))
