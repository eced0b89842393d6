use Rattle.omf_model.specs.Contents.{ContentValue}
use Rattle.image80.specs.Image.{IsChunk}
use Rattle.image80_file.specs.ImageFile.{content_chunk}
use Rattle.image80_file.proofs.ImageFileLemmas.{all_item}
use Rattle.image80_file.proofs.image_file.chunks_of.Goals as goal

pub chunk_of-requires : goal.chunk_of-requires
chunk_of-requires c =
    all_item (λ (content : ContentValue). IsChunk (content_chunk content)) c.args.contents.now c.loop-content.content-index
    c.content-item.result c.requires c.loop-content-test.true c.content-item.is
