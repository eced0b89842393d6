-- what is made, and what is left to make, which keeps the rule
use Rattle.std.proofs.Common.{◌≡◌, ◌++◌, drop, map}
use Rattle.std.specs.List.{AllByRecursion}
use Rattle.omf_model.specs.Contents.{ContentValue}
use Rattle.image80.specs.Image.{IsChunk}
use Rattle.image80_file.specs.ImageFile.{content_chunk}
use Rattle.image80_file.proofs.image_file.chunks_of.Given as goal

abbrev pub invariant-loop-content : goal.invariant-loop-content
invariant-loop-content l = record {
  chunks : l.chunks.items ++ map content_chunk (drop l.content-index l.contents) ≡ map content_chunk l.contents;
  rules : AllByRecursion (λ (c : ContentValue). IsChunk (content_chunk c)) (drop l.content-index l.contents);
}
