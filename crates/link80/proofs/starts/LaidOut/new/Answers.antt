use Rattle.std.specs.Prelude.{◌≡◌, ◌≤◌, ◌++◌, ◌+◌, Some, None, drop, length, refl}
use Rattle.std.proofs.Common.{◌∙◌, ap, sym, arith}
use Rattle.std.proofs.lemmas.List.{at_drop_all}
use Rattle.omf_model.specs.Segments.{segment_in}
use Rattle.omf_model.specs.Place.{starts_from}
use Rattle.link80.specs.Linked.{parts_end}
use Rattle.link80.specs.Starts.{next_part}
use Rattle.link80.proofs.StartsLemmas.{part_is_laid, too_long_at}
use Rattle.link80.proofs.starts.LaidOut.new.Goals as goal

pub loop-number-preserved : goal.loop-number-preserved
loop-number-preserved c =
    let is : next_part c.loop-number.end (segment_in c.get.result.now.segments c.args.id)
    ≡ Some (c.in-Some.start, c.in-Some.next) =
    sym (c.next_part.ensures ∙ ap (next_part c.loop-number.end) c.segment_of.ensures) ∙ c.in-Some.is in
    let laid = part_is_laid c.args.id c.loop-number.end c.args.modules.now c.loop-number.number c.get.result.now c.in-Some.start
    c.in-Some.next c.loop-number.starts.items c.get.ensures is in (
      ap (λ l. l ++ starts_from c.args.id c.in-Some.next (drop (c.loop-number.number + 1) c.args.modules.now))
          c.in_ok-push-in-Some.ensures.items ∙ laid.starts ∙ c.loop-number.invariant.0,
      laid.ends ∙ c.loop-number.invariant.1,
      laid.fits,
    )

pub returns-in-None-clause-fault : goal.returns-in-None-clause-fault
returns-in-None-clause-fault c _ =
    let is : next_part c.loop-number.end (segment_in c.get.result.now.segments c.args.id) ≡ None =
    sym (c.next_part.ensures ∙ ap (next_part c.loop-number.end) c.segment_of.ensures) ∙ c.in-None.is in
    let long = too_long_at c.args.id c.loop-number.end c.args.modules.now c.loop-number.number c.get.result.now c.get.ensures
    is in
    (refl, omega (arith, long, c.loop-number.invariant.1))

pub returns-clause-fits : goal.returns-clause-fits
returns-clause-fits c =
    let past : length c.args.modules.now ≤ c.loop-number.number =
    omega (arith, c.loop-number-test.false, c.len-number-end.ensures) in
    let end_is : c.loop-number.end ≡ parts_end c.args.id 0 c.args.modules.now =
    sym (at_drop_all (parts_end c.args.id c.loop-number.end) c.args.modules.now c.loop-number.number past)
    ∙ c.loop-number.invariant.1 in
    omega (arith, end_is, c.loop-number.invariant.2)
