-- What is kept of an image while it is verified and run, so that a look at an address takes the same time for any number of
-- chunks and ranges. (This project's own.)
use Rattle.std.specs.Prelude.{◌≡◌, ℕ, List, length}
use Rattle.image80.specs.Image.{Located, memory_of}
use Rattle.image80.specs.RegionMap.{Maps}

-- the bytes are the image's memory, and the marks say which region each address is in
pub record IsKept (image : Located) (memory marks : List ℕ) : Type 0 where
  pub bytes : memory ≡ memory_of image.chunks
  pub whole : length memory ≡ 65536
  pub regions : Maps image.regions marks
