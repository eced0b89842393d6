-- What is fetched is the same in memories with the same code.
use Rattle.std.specs.Prelude.{◌≡◌, ℕ, List, Some, Ok, slice_index}
use Rattle.std.specs.Result.{result_ok}
use Rattle.std.proofs.Common.{◌∙◌, ap, sym}
use Rattle.decode80.specs.declared.fetching.Fetched.{Fetched}
use Rattle.decode80.specs.Fetch.{FetchReadsCodeAlone}
use Rattle.image80.specs.Regions.{in_code}
use Rattle.image80.specs.Image.{Located, memory_of}
use Rattle.machine80.specs.Step.{fetch}
use Rattle.verify80.specs.LookLaws.{fetch_at}
use Rattle.verify80.proofs.StoreLemmas.{SameCode}

pub fetch_here : FetchReadsCodeAlone → (image : Located) (memory : List ℕ) (at : ℕ) (found : Fetched) → SameCode image.regions (memory_of image.chunks) memory →
    fetch_at image.regions (memory_of image.chunks) at ≡ Ok found → fetch image.regions memory at ≡ Some found
unfolding fetch
fetch_here law image memory at found same is =
    ap result_ok (sym (law (in_code image.regions) (λ place. slice_index (memory_of image.chunks) place) (λ place. slice_index memory place) same.bytes at) ∙ is)
