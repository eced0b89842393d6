use Rattle.omf_model.proofs.PatchLemmas.{low_twice, both_twice, high_twice}
use Rattle.omf_model.proofs.PatchedTwice.{patched_twice}
use Rattle.omf_model.proofs.TwoPasses.{two_passes_are_one}
use Rattle.omf_model.proofs.relocation_laws.adding_twice_is_adding_once.Goals as goal

pub returns : goal.returns
returns c = record { low = low_twice; both = both_twice; high = high_twice; in_bytes = patched_twice; two_passes = two_passes_are_one }
