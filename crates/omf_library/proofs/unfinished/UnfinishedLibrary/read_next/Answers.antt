use Rattle.std.proofs.Common.{◌∙◌}
use Rattle.omf_library.proofs.UnfinishedLemmas.{header_waits}
use Rattle.omf_library.proofs.unfinished.UnfinishedLibrary.read_next.Goals as goal

pub returns-in-Header-clause-waits : goal.returns-in-Header-clause-waits
returns-in-Header-clause-waits c = λ e.
    let none = rw c.in-Header.is at c.requires in
    let library = c.read_header.new.self in
    header_waits c.args.bytes.now library.modules.items library.next library.progress (c.read_header.ensures.progress
    ∙ c.in-Header.is) (c.read_header.ensures.modules ∙ none) (c.read_header.ensures.waits e)
