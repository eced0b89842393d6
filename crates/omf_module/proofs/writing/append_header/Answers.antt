use Rattle.std.proofs.Common.{◌∙◌}
use Rattle.omf_module.proofs.WritingLemmas.{header_fits}
use Rattle.omf_module.proofs.writing.append_header.Goals as goal

pub never_too_long-requires : goal.never_too_long-requires
never_too_long-requires c e =
    header_fits c.name_bytes-name.result c.name.result.now c.deref.result.now c.segments.result.now c.args.source.now.segments
    c.name_bytes-name.ensures.value c.name_bytes-name.ensures.name (c.deref.ensures.value
    ∙ c.in_ok-entries.ensures) c.segments.ensures.value c.segments.ensures.few (c.put_header.ensures.too_long e)
