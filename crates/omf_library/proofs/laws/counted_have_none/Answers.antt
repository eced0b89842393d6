use Rattle.omf_library.proofs.FeedLemmas.{of_stay, of_change, counted_have_none}
use Rattle.omf_library.proofs.laws.counted_have_none.Goals as goal

pub returns : goal.returns
returns c =
    counted_have_none
    (of_change (of_stay c.records_stay.ensures c.lists_stay.ensures c.modules_stay.ensures.stay c.modules_stay.ensures.stand)
    c.truncated_can_be_spoilt.ensures c.one_library.ensures.fault c.one_library.ensures.never_both)
