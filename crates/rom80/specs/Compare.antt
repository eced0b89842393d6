-- Where an image and a dump differ. (The form of the lines is this project's own.)
use Rattle.std.specs.Prelude.{◌≡◌, ℕ, ◌+◌, ◌-◌, ◌<◌, ◌≤◌, nat_lt, ◌==◌, Bool, not, ◌&&◌, if◌then◌else◌, List, [], ◌∷◌, ◌++◌, codes, length, take, drop, filter, min, slice_index}
use Rattle.std.specs.List.{AllByRecursion, AllPairs, list_any, flat_map, range_with_len}
use Rattle.std.specs.Fmt.{decimal}
use Rattle.text80.specs.Digits.{byte_text, word_text}
use Rattle.rom80.specs.declared.comparing.Difference.{Difference}
use Rattle.rom80.specs.Rom.{is_among}

-- the bytes at an address differ: it is one of those of the dump, which begins at `first`, and the image's bytes over the same
-- addresses have another byte there
abbrev pub differs_at : (image dump : List ℕ) → (first address : ℕ) → Bool
differs_at image dump first address =
    is_among first (length dump) address && not (slice_index image (address - first) == slice_index dump (address - first))

-- the address is one of the range
abbrev pub in_difference : ℕ → Difference → Bool
in_difference address d = is_among d.first d.length address

-- ranges of addresses: an address is in one of them exactly if the bytes differ there, each has an address, and each ends before
-- the next begins, with an address between them
pub record AreDifferences (image dump : List ℕ) (first : ℕ) (ranges : List Difference) : Type 0 where
  pub covered : (address : ℕ) → list_any (in_difference address) ranges ≡ differs_at image dump first address
  pub filled : AllByRecursion (λ (d : Difference). 0 < d.length) ranges
  pub apart : AllPairs (λ (d e : Difference). d.first + d.length < e.first) ranges

-- a range lies within `count` addresses from `first` on
pub record LieWithin (first count : ℕ) (d : Difference) : Type 0 where
  pub begins : first ≤ d.first
  pub ends : d.first + d.length ≤ first + count

-- the range of a given number of addresses that ends before an address, if there are any
abbrev pub run_of : («end» run : ℕ) → List Difference
run_of «end» run = if nat_lt 0 run then record { first = «end» - run; length = run } ∷ [] else []

-- how many bytes are the same
abbrev pub same_count : (image dump : List ℕ) → ℕ
same_count image dump = length (filter (λ k. slice_index image k == slice_index dump k) (range_with_len 0 (length dump)))

-- up to eight of the bytes of a range
abbrev pub shown_bytes : (first : ℕ) → Difference → List ℕ → List ℕ
shown_bytes first d bytes = flat_map byte_text (take (min 8 d.length) (drop (d.first - first) bytes))

-- a length in four digits, and that of all memory in five
abbrev pub length_text : ℕ → List ℕ
length_text n = if n == 65536 then codes "10000" else word_text n

-- a range: its first address and its length
abbrev pub range_text : Difference → List ℕ
range_text d = codes "DIFFERS " ++ (word_text d.first ++ 32 ∷ length_text d.length)

-- the line of a range: the range, and its first bytes in the image and in the dump
abbrev pub difference_line : (image dump : List ℕ) → (first : ℕ) → Difference → List ℕ
difference_line image dump first d =
    range_text d ++ 32 ∷ (shown_bytes first d image ++ 32 ∷ (shown_bytes first d dump ++ 10 ∷ []))

-- the last line: how many bytes are the same, of how many
abbrev pub same_line : (same count : ℕ) → List ℕ
same_line same count = codes "SAME " ++ (decimal same ++ (codes " OF " ++ (decimal count ++ 10 ∷ [])))

-- a line for each range, and the last one
abbrev pub comparison_text : (image dump : List ℕ) → (first : ℕ) → List Difference → List ℕ
comparison_text image dump first ranges =
    flat_map (difference_line image dump first) ranges ++ same_line (same_count image dump) (length dump)
