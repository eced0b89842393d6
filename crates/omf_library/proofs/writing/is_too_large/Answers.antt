use Rattle.std.proofs.Common.{◌∙◌}
use Rattle.omf_library.proofs.WritingLemmas.{too_large_is}
use Rattle.omf_library.proofs.writing.is_too_large.Goals as goal

pub returns : goal.returns
returns c =
    c.exceeds.ensures
    ∙ too_large_is c.args.modules.now c.args.names.now c.args.places.now c.args.dictionary.now c.args.bytes.now c.requires.names
    c.requires.places c.requires.dictionary c.requires.bytes
