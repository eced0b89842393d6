use Rattle.std.proofs.Common.{refl}
use Rattle.decode80.proofs.Spellings.{sizes, prefix_free, one_spelling, first_bytes, unused_begins_none, round_trip, decodes, decoded_length, decoded_in_range}
use Rattle.decode80.proofs.laws.spelling_laws.Goals as goal

pub returns : goal.returns
returns c = record {
  rows = refl;
  sizes = sizes;
  prefix_free = prefix_free;
  one = one_spelling;
  first_bytes = first_bytes;
  unused = unused_begins_none;
  round_trip = round_trip;
  decodes = decodes;
  decoded_length = decoded_length;
  decoded_in_range = decoded_in_range;
}
