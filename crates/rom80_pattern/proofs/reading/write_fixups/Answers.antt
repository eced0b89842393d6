use Rattle.std.proofs.Common.{◌-◌, ◌<◌, ◌∙◌, arith, subst, sym, length, List, get_or, ap}
use Rattle.omf_model.specs.declared.fixup.Fixup.{Fixup}
use Rattle.omf_model.specs.declared.fixup.Target.TheVariants as target
use Rattle.omf_body.specs.declared.field.Field.TheVariants as field
use Rattle.rom80_pattern.specs.Modules.{IsWithin}
use Rattle.rom80_pattern.proofs.ReadingLemmas.{within_at, place_more}
use Rattle.rom80_pattern.proofs.reading.write_fixups.Goals as goal

abbrev some_fixup : Fixup
some_fixup = record { offset = 0; field = field.Low; target = target.Segment 0 }

pub write_fixup-requires-clause-within : goal.write_fixup-requires-clause-within
write_fixup-requires-clause-within c =
    let same = c.requires.same in
    let few : length c.args.fixups.now - 1 - c.loop-done.done < length c.args.content.now.fixups = omega (arith, ap (λ (xs : List Fixup). length xs) same, c.loop-done-test.true) in
    subst (λ (xs : List Fixup). IsWithin c.args.content.now (get_or xs (length c.args.fixups.now - 1 - c.loop-done.done) some_fixup)) (sym same)
    (within_at c.args.source.now c.args.content.now (length c.args.fixups.now - 1 - c.loop-done.done) some_fixup c.requires.fixups few)

pub loop-done-preserved : goal.loop-done-preserved
loop-done-preserved c = record {
  whole = c.write_fixup.ensures.whole ∙ c.loop-done.invariant.whole;
  each = λ first o lt old. place_more c.args.source.now c.args.content.now c.args.fixups.now c.loop-done.done o some_fixup _ _ first c.loop-done-test.true
      (c.write_fixup.ensures.each o (omega (arith, lt, c.loop-done.invariant.whole))) (c.loop-done.invariant.each first o lt old);
}
