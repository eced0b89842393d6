use Rattle.std.proofs.Common.{◌∙◌, List, subst, sym}
use Rattle.std.specs.List.{AllByRecursion}
use Rattle.omf_model.specs.Contents.{ContentValue}
use Rattle.image80.specs.Image.{IsChunk}
use Rattle.image80_file.specs.ImageFile.{content_chunk}
use Rattle.image80_file.proofs.ImageFileLemmas.{absolute_contents}
use Rattle.image80_file.proofs.image_file.program_of.Goals as goal

pub chunks_of-requires : goal.chunks_of-requires
chunks_of-requires c =
    subst (λ (contents : List ContentValue). AllByRecursion
    (λ (content : ContentValue). IsChunk (content_chunk content)) contents)
    (sym c.contents.ensures.value)
    (absolute_contents c.args.program.now c.contents.ensures.rules (sym c.is_absolute.ensures ∙ c.if-not-is_absolute.false))
