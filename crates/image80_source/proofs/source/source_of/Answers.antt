use Rattle.std.proofs.Common.{rules, ◌≡◌, ◌∙◌, ap, subst, List, ℕ}
use Rattle.std.specs.List.{flat_map}
use Rattle.image80.specs.Image.{Located, PlacedBytes}
use Rattle.image80_source.specs.declared.line.Line.{Line}
use Rattle.image80_source.specs.Lines.{is_covered, line_bytes}
use Rattle.image80_source.specs.Placed.{AreMarksOf, marked_from}
use Rattle.image80_source.specs.SourceText.{source_text}
use Rattle.image80_source.proofs.PlaceLemmas.{marked_contents}
use Rattle.image80_source.proofs.source.source_of.Goals as goal

pub returns : goal.returns
returns c =
    let lines : List Line = c.in_ok-lines.lines.items in
    let marks : List ℕ = c.in_ok-covered.covered.items in
    let memory : List ℕ = c.in_ok-memory.memory.items in
    let of_lines : flat_map line_bytes lines ≡ marked_from marks memory 0 65536 = search rules in
    let chunks : c.deref.result.now ≡ c.args.image.now.chunks = c.deref.ensures.value ∙ ap (λ (v : Located). v.chunks) c.image.view_is in
    let covered : AreMarksOf (is_covered c.args.image.now.chunks) marks = subst (λ (l : List PlacedBytes). AreMarksOf (is_covered l) marks) chunks c.in_ok-covered.ensures in
    let text : c.in_ok-text.text.items ≡ source_text c.in_ok-labels.labels lines c.image.inside.start = search rules in
    record {
      lines = lines;
      labels = c.in_ok-labels.labels;
      bytes = of_lines ∙ marked_contents c.args.image.now.chunks marks memory covered c.in_ok-memory.ensures.bytes c.memory_has_the_byte_of_the_last_chunk.ensures.at_address;
      instructions = c.in_ok-lines.ensures.found;
      regions_are = c.in_ok-labels.ensures.regions;
      publics_are = c.in_ok-labels.ensures.publics;
      text_is = text ∙ ap (λ (v : Located). source_text c.in_ok-labels.labels lines v.start) c.image.view_is;
    }
