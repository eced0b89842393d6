use Rattle.std.specs.Prelude.{List, None, filter, slice_index}
use Rattle.std.specs.List.{last_or}
use Rattle.std.specs.Option.{option_map_or}
use Rattle.std.proofs.Common.{ap}
use Rattle.omf_model.specs.ImageByte.{ByteChunk, distance, chunk_covers}
use Rattle.link80.proofs.LinkLemmas.{linked_chunks}
use Rattle.link80.proofs.StartLemmas.{linked_start}
use Rattle.link80.proofs.laws.linking_keeps_bytes.Goals as goal

pub returns-clause-chunks : goal.returns-clause-chunks
returns-clause-chunks c =
    linked_chunks c.adding_twice_is_adding_once.ensures.two_passes c.parts_of_one_start_at_zero.ensures
    c.sound_modules_keep_rules.ensures

pub returns-clause-bytes : goal.returns-clause-bytes
returns-clause-bytes c = λ name modules bases are_modules no_fault keeps address.
    ap (λ (chunks : List ByteChunk). option_map_or (λ (k : ByteChunk). slice_index k.bytes (distance k.place address))
    (last_or None (filter (chunk_covers address) chunks)) 0)
    (linked_chunks c.adding_twice_is_adding_once.ensures.two_passes c.parts_of_one_start_at_zero.ensures
    c.sound_modules_keep_rules.ensures name modules bases are_modules no_fault keeps)

pub returns-clause-start : goal.returns-clause-start
returns-clause-start c = linked_start c.parts_of_one_start_at_zero.ensures c.sound_modules_keep_rules.ensures
