use Rattle.std.specs.Prelude.{◌≡◌, ◌++◌, ◌+◌, ℕ, List, drop, map}
use Rattle.std.proofs.Common.{rules, ◌∙◌, ap}
use Rattle.omf_model.specs.declared.segment.Segment.{Segment}
use Rattle.omf_model.specs.Segments.{segment_in}
use Rattle.omf_model.specs.Place.{rounded}
use Rattle.link80.specs.Linked.{parts_end}
use Rattle.link80_text.specs.Parts.{part_line}
use Rattle.link80_text.proofs.LaidLemmas.{left_of, Fit, part_fits, one_more}
use Rattle.link80_text.proofs.laid.append_laid.Goals as goal
use Rattle.link80_text.proofs.laid.append_laid.Goals.{After-segment_in-part}

fits : (c : After-segment_in-part) → Fit c.loop-source.end (segment_in c.source-item.result.now.segments c.args.id)
fits c =
    part_fits c.laid_parts_end_at_words.ensures.later c.args.id c.loop-source.end (parts_end c.args.id 0 (map (λ m. m.now) c.args.modules.now)) c.source-item.result.now
    (map (λ m. m.now) (drop (c.loop-source.source-index + 1) c.args.modules.now))
    (map (λ m. m.now) (drop c.loop-source.source-index c.args.modules.now))
    (left_of (λ m. m.now) c.args.modules.now c.loop-source.source-index c.source-item.result c.loop-source-test.true c.source-item.is)
    c.loop-source.invariant.ends c.requires

part_is : (c : After-segment_in-part) → c.segment_in-part.result ≡ segment_in c.source-item.result.now.segments c.args.id
part_is c = c.segment_in-part.ensures ∙ ap (λ s. segment_in s c.args.id) c.segments.ensures.value

pub round_up-start-requires : goal.round_up-start-requires
round_up-start-requires c = (fits c).first

pub overflow_cast-start : goal.overflow_cast-start
overflow_cast-start c =
    let start = c.round_up-start.ensures ∙ ap (λ (s : Segment). rounded s.paged c.loop-source.end) (part_is c.before.before) in
    let fit = (fits c.before.before).start in
    search (rules, start, fit)

pub overflow_add-end : goal.overflow_add-end
overflow_add-end c =
    let part = c.segment_in-part.ensures ∙ ap (λ s. segment_in s c.args.id) c.segments.ensures.value in
    let start = c.round_up-start.ensures ∙ ap (λ (s : Segment). rounded s.paged c.loop-source.end) part in
    let length = c.from.ensures ∙ ap (λ (s : Segment). s.length) part in
    let fit = (part_fits c.laid_parts_end_at_words.ensures.later c.args.id c.loop-source.end (parts_end c.args.id 0 (map (λ m. m.now) c.args.modules.now))
    c.source-item.result.now (map (λ m. m.now) (drop (c.loop-source.source-index + 1) c.args.modules.now))
    (map (λ m. m.now) (drop c.loop-source.source-index c.args.modules.now))
    (left_of (λ m. m.now) c.args.modules.now c.loop-source.source-index c.source-item.result c.loop-source-test.true c.source-item.is)
    c.loop-source.invariant.ends c.requires).end in
    search (rules, start, length, fit)

pub loop-source-preserved : goal.loop-source-preserved
loop-source-preserved c =
    let part = c.segment_in-part.ensures ∙ ap (λ s. segment_in s c.args.id) c.segments.ensures.value in
    let start = c.round_up-start.ensures ∙ ap (λ (s : Segment). rounded s.paged c.loop-source.end) part in
    let length = c.from.ensures ∙ ap (λ (s : Segment). s.length) part in
    let grown = c.in_ok-append_part.ensures
    ∙ ap (λ (n : ℕ). c.loop-source.text.items ++ part_line c.args.commons.now c.args.id n c.segment_in-part.result c.name.result.now) start
    ∙ ap (λ (s : Segment). c.loop-source.text.items ++ part_line c.args.commons.now c.args.id
    (rounded (segment_in c.source-item.result.now.segments c.args.id).paged c.loop-source.end) s c.name.result.now) part
    ∙ ap (λ (n : List ℕ). c.loop-source.text.items ++ part_line c.args.commons.now c.args.id
    (rounded (segment_in c.source-item.result.now.segments c.args.id).paged c.loop-source.end)
    (segment_in c.source-item.result.now.segments c.args.id) n) c.name.ensures in
    let more = one_more c.args.commons.now c.args.id c.loop-source.end (c.round_up-start.result + c.from.result)
    (parts_end c.args.id 0 (map (λ m. m.now) c.args.modules.now)) c.loop-source.text.items c.append_part.new.text.items _
    c.source-item.result.now (map (λ m. m.now) (drop (c.loop-source.source-index + 1) c.args.modules.now))
    (map (λ m. m.now) (drop c.loop-source.source-index c.args.modules.now))
    (left_of (λ m. m.now) c.args.modules.now c.loop-source.source-index c.source-item.result c.loop-source-test.true c.source-item.is)
    c.loop-source.invariant.lines c.loop-source.invariant.ends grown
    (ap (λ (n : ℕ). n + c.from.result) start
    ∙ ap (λ (n : ℕ). rounded (segment_in c.source-item.result.now.segments c.args.id).paged c.loop-source.end + n) length) in
    record { lines = more.lines; ends = more.ends }
