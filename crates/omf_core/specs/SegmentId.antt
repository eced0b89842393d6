-- The ids of segments. (8080 Object Module Formats, segment ids; those of commons are this project's choice among them.)
use Rattle.std.specs.Prelude.{ℕ, ◌==◌, Bool, ◌&&◌, nat_le, if◌then◌else◌, List, codes}

-- bytes whose offsets are addresses
abbrev pub absolute_id : ℕ
absolute_id = 0

abbrev pub code_id : ℕ
code_id = 1

abbrev pub data_id : ℕ
data_id = 2

abbrev pub stack_id : ℕ
stack_id = 3

abbrev pub memory_id : ℕ
memory_id = 4

-- those of named commons
abbrev pub is_common_id : ℕ → Bool
is_common_id id = nat_le 6 id && nat_le id 254

abbrev pub unnamed_common_id : ℕ
unnamed_common_id = 255

-- the word of a segment in printed lines, which is this project's own
abbrev pub segment_word : ℕ → List ℕ
segment_word id =
    if id == absolute_id then codes "ABSOLUTE"
    else if id == code_id then codes "CODE"
    else if id == data_id then codes "DATA"
    else if id == stack_id then codes "STACK"
    else if id == memory_id then codes "MEMORY"
    else codes "COMMON"
