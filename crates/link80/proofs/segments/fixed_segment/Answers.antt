use Rattle.std.specs.Prelude.{◌≡◌, ◌≤◌, ◌+◌, drop, length}
use Rattle.std.proofs.Common.{◌∙◌, ap, sym, arith}
use Rattle.std.proofs.lemmas.List.{at_drop_all}
use Rattle.omf_model.specs.declared.segment.Segment.{Segment}
use Rattle.omf_model.specs.Modules.{ModuleValue}
use Rattle.omf_model.specs.Segments.{empty_segment, segment_in}
use Rattle.link80.specs.Joined.{joined_parts, with_parts}
use Rattle.link80.proofs.JoinedLemmas.{over_one_another, one_after_another}
use Rattle.link80.proofs.LoopLemmas.{left_at}
use Rattle.link80.proofs.segments.fixed_segment.Goals as goal
use Rattle.link80.proofs.segments.fixed_segment.Goals.{After-end_of}

pub loop-number-preserved : goal.loop-number-preserved
loop-number-preserved c =
    let part : ModuleValue → Segment = λ m. segment_in m.segments c.args.id in
    ap (λ s. with_parts part s (drop (c.loop-number.number + 1) c.args.joined.now)) (c.joined_parts-segment.ensures
    ∙ ap (joined_parts c.loop-number.segment) c.segment_of.ensures)
    ∙ ap (with_parts part c.loop-number.segment)
    (sym (left_at c.args.joined.now c.loop-number.number c.get.result.now c.get.ensures))
    ∙ c.loop-number.invariant

all_joined : (c : After-end_of)
    → c.loop-number.segment ≡ with_parts (λ m. segment_in m.segments c.args.id) empty_segment c.args.joined.now
all_joined c =
    let past : length c.args.joined.now ≤ c.loop-number.number =
    omega (arith, c.loop-number-test.false, c.len-number-end.ensures) in
    sym (at_drop_all (with_parts (λ m. segment_in m.segments c.args.id) c.loop-number.segment) c.args.joined.now
    c.loop-number.number past) ∙ c.loop-number.invariant

pub returns-in-Some : goal.returns-in-Some
returns-in-Some c = one_after_another c.args.joined.now c.args.id c.in-Some.length c.requires
    (sym c.in-Some.ensures.which) c.in-Some.ensures.end c.loop-number.segment (all_joined c.before)

pub returns-in-None : goal.returns-in-None
returns-in-None c = all_joined c.before ∙ over_one_another c.args.joined.now c.args.id c.requires (sym c.in-None.ensures.which)
