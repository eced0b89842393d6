-- What is said to be known of an image, and can't be. (This project's own.)
use Rattle.std.specs.Prelude.{◌≡◌, ◌&&◌, ℕ, Bool, false, true, nat_lt, List, All, Result, slice_index}
use Rattle.std.specs.Result.{is_ok}
use Rattle.decode80.specs.Fetch.{fetch}
use Rattle.decode80.specs.declared.{fetching.FetchFault.FetchFault, fetching.Fetched.Fetched}
use Rattle.image80.specs.{Case.DeclaredCase, Image.Located, Image.memory_of, declared.range.Range.Range}
use Rattle.verify80.specs.LookLaws.{fetch_at}
use Rattle.verify80_cases.specs.Suggested.{holds_pchl}
use Rattle.verify80_suggest.specs.Bytes.{may_be_code}
use Rattle.verify80_suggest.specs.declared.known.KnownFault.{KnownFault}
use Rattle.verify80_suggest.specs.declared.known.KnownFault.TheVariants.{NoInstruction, NotPchl}

-- whether an instruction begins at an address, all in the code
abbrev pub has_instruction : Located → ℕ → Bool
has_instruction image at = is_ok (fetch_at image.regions (memory_of image.chunks) at)

-- a fault that is there: no instruction begins at the address, or no PCHL is there
abbrev pub IsUnfit : Located → KnownFault → Type 0
IsUnfit image (NoInstruction at) = has_instruction image at ≡ false
IsUnfit image (NotPchl at) = holds_pchl (fetch_at image.regions (memory_of image.chunks) at) ≡ false

-- what is fetched at an address of an image, if these addresses are code
abbrev pub fetch_in : (code : ℕ → Bool) → Located → ℕ → Result Fetched FetchFault
fetch_in code image at = fetch code (λ place. slice_index (memory_of image.chunks) place) at

-- a PCHL is at the address of a case, and an instruction begins at each of its targets
pub record FitsCase (code : ℕ → Bool) (image : Located) (case : DeclaredCase) : Type 0 where
  pub pchl : holds_pchl (fetch_in code image case.at) ≡ true
  pub targets : All (λ at. is_ok (fetch_in code image at) ≡ true) case.targets

-- each case fits so, and an instruction begins at each entry
pub record FitsIn (code : ℕ → Bool) (image : Located) (entries : List ℕ) (cases : List DeclaredCase) : Type 0 where
  pub each_case : All (FitsCase code image) cases
  pub each_entry : All (λ at. is_ok (fetch_in code image at) ≡ true) entries

-- entries and cases fit an image if all its bytes are code that may be
abbrev pub Fits : Located → (rom : List Range) → (entries : List ℕ) → (cases : List DeclaredCase) → Type 0
Fits image rom entries cases = FitsIn (λ at. nat_lt at 65536 && may_be_code image.chunks rom at) image entries cases
