use Rattle.plm80_objects.proofs.Names.{ℕ, List, subst, SpellsImage, without_regions, AreNamesOf}
use Rattle.plm80_console.specs.AnswerLaws.{blames_same, blames_so, err_from}
use Rattle.plm80_files.specs.Wrong.{SpellsNoImage}
use Rattle.plm80_names.specs.Printed.{HasNoNames}
use Rattle.plm80_objects.proofs.Names.{◌∙◌}
use Rattle.plm80_objects.proofs.ReadLemmas.{refused_dump}
use Rattle.plm80_objects.proofs.compare.compare_read.Goals as goal

pub returns-in-Ok-clause-compared : goal.returns-in-Ok-clause-compared
returns-in-Ok-clause-compared g c = record {
  whole = c.in-Ok.ensures.whole;
  image = c.in_ok-image.image;
  contents = subst (λ (bs : List ℕ). SpellsImage bs (without_regions c.in_ok-image.image)) c.deref.ensures.value c.in_ok-image.ensures.image;
  publics = c.in_ok-names.names;
  names = subst (λ (bs : List ℕ). AreNamesOf c.args.asks_names bs c.in_ok-names.names) c.deref-2.ensures.value c.in_ok-names.ensures.names;
  answer_is = c.in-Ok.ensures.answer;
}

pub returns-in_err-image-clause-fault : goal.returns-in_err-image-clause-fault
returns-in_err-image-clause-fault g c =
    err_from c.from_residual.result
    (blames_so
    (λ lacks answer is. subst SpellsNoImage c.deref.ensures.value lacks (without_regions is.image) is.contents)
    c.in_err-image.ensures.fault)

pub returns-in_err-names-clause-fault : goal.returns-in_err-names-clause-fault
returns-in_err-names-clause-fault g c =
    err_from c.from_residual-in_err-names.result
    (blames_same c.in_ok-image.ensures.unchanged
    (blames_so
    (λ lacks answer is. subst (HasNoNames c.args.asks_names) c.deref-2.ensures.value lacks is.publics is.names)
    c.in_err-names.ensures.fault))

pub returns-clause-fault : goal.returns-clause-fault
returns-clause-fault g c =
    blames_same (c.in_ok-names.ensures.unchanged ∙ c.in_ok-image.ensures.unchanged)
    (blames_so
    (λ no_memory answer is. refused_dump c.args.first c.args.dump.now.bytes.items c.in-Err.fault.fault no_memory c.in-Err.ensures.fault.1 is.whole)
    c.blame_rom_fault.ensures)
