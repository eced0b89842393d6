-- What a page shows of an image's memory: its ranges, and the sums of its ROMs. (The words are those of a regions text; the form of the
-- lines is this project's own.)
use Rattle.std.specs.Prelude.{ℕ, nat_le, if◌then◌else◌, List, [], ◌∷◌, ◌++◌, codes, length}
use Rattle.std.specs.List.{flat_map}
use Rattle.text80.specs.Digits.{byte_text, word_text}
use Rattle.image80.specs.declared.range.Range.{Range}
use Rattle.image80.specs.Image.{PlacedBytes}
use Rattle.image80.specs.Regions.{Areas}
use Rattle.image80.specs.RegionsText.{range_text}
use Rattle.page80.specs.Scales.{scale_text}
use Rattle.rom80.specs.Rom.{bytes_over, sum_line}

-- a range, behind its word
abbrev pub range_line : (word : List ℕ) → Range → List ℕ
range_line word range = word ++ range_text range

-- the same, as a line
abbrev pub range_label : (word : List ℕ) → Range → List ℕ
range_label word range = range_line word range ++ 10 ∷ []

-- the picture of memory: each range of the code, the stack, and each range of the data; and a scale
abbrev pub map_text : Areas → List ℕ
map_text areas =
    flat_map (range_label (codes "CODE ")) areas.code
    ++ (range_label (codes "STACK ") areas.stack ++ (flat_map (range_label (codes "DATA ")) areas.data_ranges ++ scale_text))

-- which byte stands where an image has none
abbrev pub fill_text : (fill : ℕ) → List ℕ
fill_text fill = codes " FILL " ++ (byte_text fill ++ 32 ∷ [])

-- the sum of the bytes over a range, with the byte that stands where the image has none
abbrev pub rom_line : List PlacedBytes → (fill : ℕ) → Range → List ℕ
rom_line chunks fill range =
    range_line (codes "ROM ") range
    ++ (fill_text fill ++ sum_line (bytes_over fill chunks range.first range.length))

-- the sums of each range of the code: with the bytes of an erased PROM, and with 00; none if there are more than as many as PROMs of 1,024
-- bytes fill memory
abbrev pub sums_text : List PlacedBytes → List Range → List ℕ
sums_text chunks code =
    if nat_le (length code) 64 then flat_map (rom_line chunks 0xFF) code ++ flat_map (rom_line chunks 0) code else []
