use Rattle.omf_module.specs.Reading.{records_of}
use Rattle.omf_module.proofs.UsedLemmas.{drafted}
use Rattle.omf_module.proofs.reading.parts_of.Goals as goal

pub used_contents-requires : goal.used_contents-requires
used_contents-requires c =
    drafted (records_of c.args.file.now) c.in_ok-parts.parts c.args.commons.items c.deref.result.now c.in_ok-parts.ensures
    c.requires c.deref.ensures.value
