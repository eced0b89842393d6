-- What the text of a run's inputs spells: lines `pp hh..`, a port and the bytes that wait there.
use Rattle.std.specs.Prelude.{◌≡◌, ◌==◌, ℕ, ◌+◌, Option, None, Some, unwrap_or, is_some, List, [], ◌∷◌, length, map, take, drop, slice_index, if◌then◌else◌}
use Rattle.std.specs.List.{flat_map}
use Rattle.image80.specs.Lines.{parts}
use Rattle.loader80.specs.HexText.{bytes_spelled}
use Rattle.loader80.specs.declared.inputs.InputsFault.{InputsFault}
use Rattle.loader80.specs.declared.inputs.InputsFault.TheVariants.{BadLine, Memory}

-- the port beside each of its bytes
abbrev pub pairs_of : ℕ → List ℕ → List (ℕ × ℕ)
pairs_of port bytes = map (λ byte. (port, byte)) bytes

-- one port, and at least one byte
abbrev pub input_from : Option (List ℕ) → Option (List ℕ) → Option (List (ℕ × ℕ))
input_from (Some (port ∷ [])) (Some (byte ∷ bytes)) = Some (pairs_of port (byte ∷ bytes))
input_from _ _ = None

-- what a line `pp hh..` spells, None if it has another form
abbrev pub line_input : List ℕ → Option (List (ℕ × ℕ))
line_input line =
    if slice_index line 2 == 32 then input_from (bytes_spelled (take 2 line)) (bytes_spelled (drop 3 line)) else None

-- what all lines of a text spell, in order
abbrev pub inputs_of : List ℕ → List (ℕ × ℕ)
inputs_of text = flat_map (λ line. unwrap_or (line_input line) []) (parts text)

-- the number of the first part that is no line of inputs, if the first part has the number n: one of another form,
-- or the last one, which has no line feed, unless it is empty
abbrev pub bad_part : ℕ → List (List ℕ) → Option ℕ
bad_part n [] = None
bad_part n (last ∷ []) = if length last == 0 then None else Some n
bad_part n (line ∷ next ∷ lines) = if is_some (line_input line) then bad_part (n + 1) (next ∷ lines) else Some n

-- the number of the first line that is no line of inputs, counted from 1
abbrev pub bad_line : List ℕ → Option ℕ
bad_line text = bad_part 1 (parts text)

-- the fault holds of the text; memory may run out at any
abbrev pub InputsFaultHolds : List ℕ → InputsFault → Type 0
InputsFaultHolds text (BadLine n) = bad_line text ≡ Some n
InputsFaultHolds text Memory = Unit {0}

-- the numbers of the faults
abbrev pub inputs_fault_code : InputsFault → ℕ
inputs_fault_code (BadLine n) = 1
inputs_fault_code Memory = 2
