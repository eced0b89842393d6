use Rattle.omf_library.proofs.WrittenLibrary.{library_spelled}
use Rattle.omf_library.proofs.laws.written_library_is_spelled.Goals as goal

pub returns : goal.returns
returns c = library_spelled c.written_is_spelled.ensures c.written_list_is_spelled.ensures c.modules_stay.ensures.stand
