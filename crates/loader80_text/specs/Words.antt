-- What a word `pp=item,item..` names: bytes that wait at a port. An item is a byte, or a count, a star and a byte. (This project's
-- own.)
use Rattle.std.specs.Prelude.{◌==◌, ◌&&◌, nat_lt, ℕ, ◌-◌, ◌^◌, Bool, Option, None, Some, List, [], ◌∷◌, length, map, take, drop, slice_index, if◌then◌else◌}
use Rattle.std.specs.List.{slice_split, list_all}
use Rattle.std.specs.Char.{digit_value}
use Rattle.std.specs.Str.Parse.{digits_value}
use Rattle.loader80.specs.HexText.{bytes_spelled}
use Rattle.loader80_text.specs.declared.inputs.repeated.Repeated.{Repeated}

-- one decimal digit or more, of a number from 1 on that 64 bits hold
abbrev pub is_count : List ℕ → Bool
is_count digits = nat_lt 0 (length digits) && (list_all (λ digit. nat_lt (digit_value digit) 10) digits
    && (nat_lt 0 (digits_value 10 digits) && nat_lt (digits_value 10 digits) (2 ^ 64)))

-- the number that they write
abbrev pub count_spelled : List ℕ → Option ℕ
count_spelled digits = if is_count digits then Some (digits_value 10 digits) else None

-- what stands before an item's byte says how many times it waits: once if nothing does, else a count and a star
abbrev pub times : List ℕ → Option ℕ
times before =
    if length before == 0 then Some 1
    else (if slice_index before (length before - 1) == 42 then count_spelled (take (length before - 1) before) else None)

-- one byte a given number of times at a port
abbrev pub repeated : ℕ → Option ℕ → Option (List ℕ) → Option Repeated
repeated port (Some count) (Some (byte ∷ [])) = Some (record { port = port; count = count; byte = byte })
repeated port count bytes = None

-- what an item of a port's word names: its last two characters are the byte
abbrev pub item_of : ℕ → List ℕ → Option Repeated
item_of port item = repeated port (times (take (length item - 2) item)) (bytes_spelled (drop (length item - 2) item))

-- all of them, if each is there
abbrev pub with_first : Option Repeated → Option (List Repeated) → Option (List Repeated)
with_first (Some first) (Some later) = Some (first ∷ later)
with_first first later = None

abbrev pub all_of : List (Option Repeated) → Option (List Repeated)
all_of [] = Some []
all_of (first ∷ later) = with_first first (all_of later)

-- what the items of a port name, which are separated by commas
abbrev pub items_of : ℕ → List ℕ → Option (List Repeated)
items_of port items = all_of (map (item_of port) (slice_split (λ character. character == 44) items))

-- the items of the port that these bytes are
abbrev pub at_port : Option (List ℕ) → List ℕ → Option (List Repeated)
at_port (Some (port ∷ [])) items = items_of port items
at_port port items = None

-- what a word names, None if it has another form: two digits of a port, an equals sign, and items
abbrev pub word_of : List ℕ → Option (List Repeated)
word_of word = if slice_index word 2 == 61 then at_port (bytes_spelled (take 2 word)) (drop 3 word) else None
