use Rattle.page80.proofs.LawLemmas.{tag-end}
use Rattle.page80.proofs.tag.end_tag.Goals as goal

pub returns : goal.returns
returns c =
    tag-end c.args.tag.now.items c.args.piece.now _ c.in_ok-extend_from_slice.ensures.items c.requires.begun c.requires.piece
