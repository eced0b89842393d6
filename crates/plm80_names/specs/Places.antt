-- What is at an address: an instruction, and a range of the regions.
-- (8080 Assembly Language Programming Manual: instructions of one to three bytes. The words for ranges are those of a regions text.)
use Rattle.std.specs.Prelude.{◌≡◌, ◌⊎◌, ℕ, ◌+◌, ◌%◌, true, false, Option, None, Some, MatchOption, option_map, List, codes, find}
use Rattle.decode80.specs.{declared.instr.Instr.Instr, Decoded.decoded}
use Rattle.image80.specs.{declared.range.Range.Range, Image.Located, Image.byte_at, Range.in_range, Regions.Areas}
use Rattle.plm80_names.specs.declared.refusal_words.{Place.Place, PlaceWords.PlaceWords}

-- the instruction that the image's bytes spell at an address; addresses go on at 0000 after FFFF
abbrev pub instr_at : Located → (at : ℕ) → Option Instr
instr_at image at = option_map (λ found. found.0)
    (decoded (byte_at image.chunks at) (byte_at image.chunks ((at + 1) % 65536)) (byte_at image.chunks ((at + 2) % 65536)))

abbrev has : (address : ℕ) → List Range → Range → Type 0
has address ranges range = find (λ r. in_range r address) ranges ≡ Some range

-- the range of code or of data that has the address, or the stack, with the word that begins its line
abbrev pub IsPlaceOf : Areas → (address : ℕ) → Place → Type 0
IsPlaceOf areas address place =
    ((place.word.now ≡ codes "CODE") × has address areas.code place.range)
    ⊎ (((place.word.now ≡ codes "DATA") × has address areas.data_ranges place.range)
    ⊎ ((place.word.now ≡ codes "STACK") × (place.range ≡ areas.stack) × (in_range areas.stack address ≡ true)))

-- no range has it
abbrev pub HasNone : (address : ℕ) → List Range → Type 0
HasNone address ranges = find (λ r. in_range r address) ranges ≡ None

abbrev pub IsInNoRange : Areas → (address : ℕ) → Type 0
IsInNoRange areas address =
    HasNone address areas.code × (HasNone address areas.data_ranges × (in_range areas.stack address ≡ false))

-- the address with its range, or without one that has it
abbrev pub ArePlaceWords : Areas → (address : ℕ) → PlaceWords → Type 0
ArePlaceWords areas address words =
    (words.address ≡ address) × MatchOption words.place (IsInNoRange areas address) (IsPlaceOf areas address)
