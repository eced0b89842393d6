use Rattle.std.proofs.Common.{List, take, sym, subst, ◌∙◌}
use Rattle.std.proofs.lemmas.Bool.{false≢true}
use Rattle.std.proofs.lemmas.List.{take_more}
use Rattle.omf_model.specs.declared.fixup.Fixup.{Fixup}
use Rattle.omf_model.specs.Contents.{is_taken}
use Rattle.omf_model.specs.Marks.{AreMarks}
use Rattle.omf_model.proofs.MarkLemmas.{fits_next}
use Rattle.omf_model.proofs.marks.are_fitting.Goals as goal
use Rattle.omf_model.proofs.marks.are_fitting.Goals.{then-is_inside, else-is_inside}

pub loop-fixup-preserved : goal.loop-fixup-preserved
loop-fixup-preserved c =
    let i = c.loop-fixup.fixup-index in
    let fixups = c.args.fixups.now in
    let so_far = c.loop-fixup.invariant in
    record {
      all = elim c.if-is_inside.branch [
        | then-is_inside w ↦
            fits_next c.args.commons.now c.args.externals c.args.first c.args.size fixups i _ _ so_far.all c.loop-fixup-test.true
            (sym c.is_inside.ensures ∙ w.if-is_inside.true) (sym c.if-not-mark.false ∙ c.mark.ensures.free (take i fixups) so_far.marked)
            (sym w.has_target-fits.ensures ∙ (sym w.fits-is ∙ c.if-not-fits.false))
        | else-is_inside w ↦
            absurd (false≢true (sym w.if-is_inside.false ∙ (sym w.fits-is ∙ c.if-not-fits.false)))
      ];
      marked = subst (λ (l : List Fixup). AreMarks c.mark.new.marks.items c.args.first (is_taken l)) (sym (take_more fixups i _ c.loop-fixup-test.true)) (c.mark.ensures.marked (take i fixups) so_far.marked);
      as_many = c.mark.ensures.as_many ∙ so_far.as_many;
    }
