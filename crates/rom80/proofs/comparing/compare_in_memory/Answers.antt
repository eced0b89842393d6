use Rattle.std.proofs.Common.{◌∙◌, ap, length, List, ℕ}
use Rattle.std.proofs.lemmas.List.FromFn.{length-map-range_with_len}
use Rattle.rom80.specs.Rom.{byte_or}
use Rattle.rom80.proofs.comparing.compare_in_memory.Goals as goal

pub compare_bytes-requires-clause-same : goal.compare_bytes-requires-clause-same
compare_bytes-requires-clause-same c =
    ap (λ (l : List ℕ). length l) (c.deref.ensures.value ∙ c.in_ok-bytes.ensures.bytes)
    ∙ length-map-range_with_len (byte_or c.args.fill c.args.image.now.chunks) c.args.first (length c.args.dump.now)
