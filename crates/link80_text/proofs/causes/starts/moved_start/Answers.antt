use Rattle.std.specs.Prelude.{◌%◌, ℕ}
use Rattle.std.proofs.Common.{◌∙◌, ap, sym, get_or, Bor}
use Rattle.omf_model.specs.declared.segment.Segment.{Segment}
use Rattle.omf_model.specs.declared.modules.Module.{Module}
use Rattle.omf_model.specs.Segments.{segment_in}
use Rattle.omf_model.specs.Place.{rounded}
use Rattle.link80_text.proofs.StartLemmas.{part_start_after}
use Rattle.link80_text.proofs.causes.starts.moved_start.Goals as goal

pub returns : goal.returns
returns c =
    let id = c.args.id in
    let whole = part_start_after (λ m. m.now) c.args.modules.now c.args.number c.index-modules-number.result id c.requires.number
    c.requires.laid in
    let part = c.segment_in-part.ensures ∙ ap (λ s. segment_in s id) c.segments.ensures.value
    ∙ ap (λ (m : Bor Module). segment_in m.now.segments id) c.index-modules-number.is in
    let start = c.round_up.ensures ∙ ap (λ (s : Segment). rounded s.paged c.args.end) part
    ∙ ap (λ (e : ℕ). rounded (segment_in (get_or c.args.modules.now c.args.number c.index-modules-number.result).now.segments id).paged e)
    c.requires.end in
    ap (λ (n : ℕ). n % 65536) (start ∙ sym whole)
