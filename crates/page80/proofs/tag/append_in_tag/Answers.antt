use Rattle.page80.proofs.LawLemmas.{tag-append}
use Rattle.page80.proofs.tag.append_in_tag.Goals as goal

pub returns : goal.returns
returns c =
    tag-append c.args.tag.now.items c.args.piece.now _ c.in_ok-extend_from_slice.ensures.items c.requires.begun c.requires.piece
