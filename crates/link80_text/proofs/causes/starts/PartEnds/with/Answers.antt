use Rattle.std.specs.Prelude.{◌≡◌, ◌+◌, ℕ}
use Rattle.std.proofs.Common.{◌∙◌, ap, sym}
use Rattle.omf_model.specs.declared.segment.Segment.{Segment}
use Rattle.omf_model.specs.Segments.{segment_in}
use Rattle.omf_model.specs.Place.{rounded}
use Rattle.link80_text.proofs.StartLemmas.{end_more}
use Rattle.link80_text.proofs.causes.starts.PartEnds.with.Goals as goal

-- the end of one part more
with_part : (end before : ℕ) (part : Segment) → end ≡ before → (new : ℕ) → (given : Segment) → given ≡ part
    → new ≡ rounded given.paged end + given.length → new ≡ rounded part.paged before + part.length
with_part end before part e new given same is =
    is ∙ (ap (λ (s : Segment). rounded s.paged end + s.length) same ∙ ap (λ (n : ℕ). rounded part.paged n + part.length) e)

pub returns-clause-ends : goal.returns-clause-ends
returns-clause-ends c = λ before h.
    let m = c.args.source.now in
    record {
      code = with_part c.args.self.code _ (segment_in m.segments 1) h.code c.end_with.result c.segment_in.result
          (c.segment_in.ensures ∙ ap (λ l. segment_in l 1) c.segments.ensures.value) c.end_with.ensures ∙ sym (end_more 1 0 before m);
      variables = with_part c.args.self.variables _ (segment_in m.segments 2) h.variables c.end_with-2.result c.segment_in-2.result
          (c.segment_in-2.ensures ∙ ap (λ l. segment_in l 2) c.segments-2.ensures.value) c.end_with-2.ensures ∙ sym (end_more 2 0 before m);
    }
