-- An instruction of which an image lacks a byte. (Intel 8080 Microcomputer Systems User's Manual: an instruction has one to three
-- bytes. That a range of the ROM bounds the code is this project's own.)
use Rattle.std.specs.Prelude.{◌≡◌, ℕ, List, Err, slice_index}
use Rattle.decode80.specs.declared.fetching.FetchFault.TheVariants.{Outside}
use Rattle.decode80.specs.Fetch.{fetch}
use Rattle.image80.specs.declared.range.Range.{Range}
use Rattle.image80.specs.Image.{Located, memory_of}
use Rattle.verify80_suggest.specs.Bytes.{may_be_code}

-- no instruction can be fetched at an address, even if all bytes are code that may be: the image has no byte there, or none of a later
-- byte of the instruction; or that byte isn't in a range of the ROM, if such ranges are given, or is past FFFF
abbrev pub LacksByte : Located → (rom : List Range) → ℕ → Type 0
LacksByte image rom at = fetch (may_be_code image.chunks rom) (λ place. slice_index (memory_of image.chunks) place) at ≡ Err Outside
