-- What is printed of the stores of a program. (The text of an instruction is that of the Intel 8080 Assembly Language Programming
-- Manual; the lines are this project's own.)
use Rattle.std.specs.Prelude.{ℕ, ◌-◌, ◌==◌, Bool, true, false, List, [], ◌∷◌, ◌++◌, length, codes, if◌then◌else◌}
use Rattle.std.specs.Fmt.{decimal}
use Rattle.std.specs.List.{flat_map}
use Rattle.text80.specs.Digits.{word_text}
use Rattle.decode80.specs.Text.{text}
use Rattle.image80.specs.declared.range.Range.{Range}
use Rattle.verify80_stores.specs.declared.stores.OpenStore.{OpenStore}

-- how many of the stores are shown to stay in data
abbrev pub count_line : (shown all : ℕ) → List ℕ
count_line shown all = codes "STORES " ++ decimal shown ++ (codes " OF " ++ decimal all ++ 10 ∷ [])

-- how many of the PCHLs are shown to go to declared targets, if there is one
abbrev pub jumps_line : (shown all : ℕ) → List ℕ
jumps_line shown all = if all == 0 then [] else codes "JUMPS " ++ decimal shown ++ (codes " OF " ++ decimal all ++ 10 ∷ [])

-- an open store: its address, its instruction, and the first and the last address that it may have
unfoldable pub store_line : OpenStore → List ℕ
store_line store =
    codes "STORE " ++ (word_text store.at ++ 32 ∷ (text store.instr ++ 32 ∷ (word_text store.span.first ++ 32 ∷ (word_text store.span.last ++ 10 ∷ []))))

-- an open PCHL
abbrev pub jump_line : ℕ → List ℕ
jump_line at = codes "JUMP " ++ (word_text at ++ 10 ∷ [])

-- the line of a program that may use SP before it is set
abbrev pub stack_line : (sets_stack : Bool) → List ℕ
stack_line true = []
stack_line false = codes "SP NOT SET\n"

-- a range of addresses that only the program writes, and the line of a program that begins elsewhere than a board does
abbrev pub quiet_line : Range → List ℕ
quiet_line range = codes "QUIET " ++ (word_text range.first ++ 32 ∷ (word_text range.length ++ 10 ∷ []))

abbrev pub start_line : (start : ℕ) → List ℕ
start_line start = if start == 0 then [] else codes "START " ++ (word_text start ++ 10 ∷ [])

-- the lines of what a list rests on
abbrev pub premise_lines : (sets_stack : Bool) → (quiet : List Range) → (start : ℕ) → List ℕ
premise_lines sets_stack quiet start = stack_line sets_stack ++ (flat_map quiet_line quiet ++ start_line start)

-- all lines
abbrev pub stores_text_of : (start : ℕ) → (quiet : List Range) → (sets_stack : Bool) → (addresses : List ℕ) → (open_stores : List OpenStore) →
    (jumps open_jumps : List ℕ) → List ℕ
stores_text_of start quiet sets_stack addresses open_stores jumps open_jumps =
    count_line (length addresses - length open_stores) (length addresses)
    ++ (jumps_line (length jumps - length open_jumps) (length jumps)
    ++ (premise_lines sets_stack quiet start ++ (flat_map store_line open_stores ++ flat_map jump_line open_jumps)))
