-- What is printed of a program that is followed. (The lines are this project's own.)
use Rattle.std.specs.Prelude.{ℕ, ◌+◌, Bool, true, false, List, [], ◌∷◌, ◌++◌, codes}
use Rattle.std.specs.List.{flat_map}
use Rattle.std.specs.Fmt.{decimal}
use Rattle.text80.specs.Digits.{word_text}
use Rattle.image80.specs.declared.range.Range.{Range}
use Rattle.verify80_follow.specs.declared.{followed.Way.Way, handling.Handler.Handler}

-- what is said of the handlers of a program that is interrupted: what they use isn't counted, and what they do isn't known
abbrev pub handlers_line : (interrupted : Bool) → List ℕ
handlers_line true = codes "HANDLERS NOT VERIFIED\n"
handlers_line false = []

-- how many states there are; how many bytes the stack has at most, of how many; and what is said of handlers
abbrev pub bounds_lines : (interrupted : Bool) → (states bytes room : ℕ) → List ℕ
bounds_lines interrupted states bytes room =
    codes "FOLLOWED " ++ (decimal states ++ (codes " STATES\nSTACK " ++ (decimal bytes ++ (codes " OF " ++ (decimal room ++ (codes " AT MOST\n" ++ handlers_line interrupted))))))

-- where a handler is entered, and how many bytes it has on the stack at most, the two of the interrupt among them
unfoldable pub handler_line : Handler → List ℕ
handler_line handler = codes "HANDLER " ++ (word_text handler.at ++ (codes " STACK " ++ (decimal handler.table.bytes ++ codes "\n")))

-- a line of two numbers behind a word
unfoldable pub pair_line : (word : List ℕ) → (first second : ℕ) → List ℕ
pair_line word first second = word ++ (word_text first ++ 32 ∷ (word_text second ++ 10 ∷ []))

-- data that handlers write: the first address and the length
abbrev pub written_line : Range → List ℕ
written_line range = pair_line (codes "WRITES ") range.first range.length

-- the same of a program with handlers that were followed too: its bytes and the most that a handler has are those of the stack, and behind that stand the
-- handlers, and the data that they write
abbrev pub live_lines : (handlers : List Handler) → (writes : List Range) → (states bytes room most : ℕ) → List ℕ
live_lines handlers writes states bytes room most =
    (codes "FOLLOWED " ++ (decimal states ++ (codes " STATES\nSTACK " ++ (decimal (bytes + most) ++ (codes " OF " ++ (decimal room ++ codes " AT MOST\n"))))))
    ++ (flat_map handler_line handlers ++ flat_map written_line writes)

-- a way that goes to no address behind a call: a return or a PCHL, and where it goes
abbrev pub way_line : Way → List ℕ
way_line way = pair_line (codes "WAY ") way.at way.to

-- those of a program's table, and of its handlers' tables
abbrev pub ways_lines : List Way → List Handler → List ℕ
ways_lines ways handlers = flat_map way_line ways ++ flat_map (λ handler. flat_map way_line handler.table.ways.items) handlers
