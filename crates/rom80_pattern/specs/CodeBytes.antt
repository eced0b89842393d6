-- The bytes of a module's code if each target has a value.
-- (8080 Object Module Formats: relocation, intersegment and external reference records.)
use Rattle.std.specs.Prelude.{ℕ, ◌+◌, ◌/◌, ◌%◌, ◌==◌, ◌&&◌, nat_le, nat_lt, not, Bool, true, false}
use Rattle.omf_model.specs.declared.fixup.Target.{Target}
use Rattle.omf_model.specs.declared.fixup.Target.TheVariants as target
use Rattle.rom80_pattern.specs.declared.code_byte.Half.{Half}
use Rattle.rom80_pattern.specs.declared.code_byte.Half.TheVariants.{Low, High}
use Rattle.rom80_pattern.specs.declared.code_byte.CodeByte.{CodeByte}

-- the number of a target, by which tables of values are indexed: a segment's id, and 256 plus an external's index
abbrev pub number_of : Target → ℕ
number_of (target.Segment id) = id
number_of (target.External index) = 256 + index

-- the target is a segment with an id below 256, or an external; no two of these have one number
abbrev pub has_small_id : Target → Bool
has_small_id (target.Segment id) = nat_lt id 256
has_small_id (target.External index) = true

-- a half of a word
abbrev pub half_of : Half → ℕ → ℕ
half_of Low word = word % 256
half_of High word = word / 256 % 256

-- the byte, if each target has the value of its number
abbrev pub byte_by : (value : ℕ → ℕ) → CodeByte → ℕ
byte_by value b = half_of b.half ((value (number_of b.target) + b.addend) % 65536)

-- the half is the low byte
abbrev pub is_low : Half → Bool
is_low Low = true
is_low High = false

-- a byte outside fixups: the low half of absolute 0 plus an addend
abbrev pub is_plain : CodeByte → Bool
is_plain b = is_low b.half && number_of b.target == 0

-- a byte in a fixup of a value other than the two known ones, absolute 0 and CODE's base
abbrev pub is_free : CodeByte → Bool
is_free b = nat_le 2 (number_of b.target)

-- a byte in a fixup of one of the two known values, absolute 0 and CODE's base
abbrev pub is_known_fixup : CodeByte → Bool
is_known_fixup b = not (is_plain b) && not (is_free b)
