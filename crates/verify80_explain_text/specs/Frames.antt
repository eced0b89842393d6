-- What is printed of a frame: the words of the stack, the pairs that hold the return address, and how many words were taken from
-- beneath it. (This project's own.)
use Rattle.std.specs.Prelude.{ℕ, List, [], ◌++◌, ◌==◌, codes, if◌then◌else◌, reverse}
use Rattle.std.specs.Fmt.{decimal}
use Rattle.std.specs.List.{flat_map}
use Rattle.frames80.specs.declared.word.Word.{Word}
use Rattle.frames80.specs.declared.word.Word.TheVariants.{Own, Any}
use Rattle.frames80.specs.StackFrame.{Pairs, StackFrame}

-- a word of the stack: the return address, or any other
abbrev pub word_shown : Word → List ℕ
word_shown Own = codes " RET"
word_shown Any = codes " .."

-- a pair that holds the return address
abbrev pub pair_shown : (name : List ℕ) → Word → List ℕ
pair_shown name Own = name
pair_shown name Any = []

abbrev pub pairs_shown : Pairs → List ℕ
pairs_shown pairs =
    pair_shown (codes " BC=RET") pairs.bc ++ (pair_shown (codes " DE=RET") pairs.de ++ pair_shown (codes " HL=RET") pairs.hl)

-- how many words were taken, if any were
abbrev pub taken_shown : ℕ → List ℕ
taken_shown taken = if taken == 0 then [] else codes " TAKEN " ++ decimal taken

-- a frame, its words from bottom to top
abbrev pub frame_text : StackFrame → List ℕ
frame_text frame = flat_map word_shown (reverse frame.words) ++ (pairs_shown frame.pairs ++ taken_shown frame.taken)
