-- What is printed of a run on a board. (This project's own.)
use Rattle.std.specs.Prelude.{◌≡◌, ℕ, List, [], ◌∷◌, ◌++◌, Option, None, Some, codes}
use Rattle.std.specs.List.{flat_map}
use Rattle.text80.specs.Digits.{byte_text, word_text}
use Rattle.board80.specs.{BoardText.source_text, declared.line.Line.Line}
use Rattle.image80.specs.Image.{Located}
use Rattle.loader80.specs.TranscriptText.{after_steps, end_line, stack_line}
use Rattle.loader80_trace.specs.declared.limits.Limits.{Limits}
use Rattle.machine80_board.specs.BoardRun.{board_start}
use Rattle.machine80_board.specs.declared.output.Output.{Output}
use Rattle.machine80_board.specs.declared.end.BoardEnd.{BoardEnd}
use Rattle.machine80_board.specs.declared.end.BoardEnd.TheVariants.{OfMachine, CellEmpty, CellRefused}
use Rattle.loader80_board.specs.{BoardStates.EndsSo, declared.ended.BoardEnded.BoardEnded}

-- one output: the port or the address, and the byte
abbrev pub output_line : Output → List ℕ
output_line output = codes "OUT " ++ (source_text output.place ++ (32 ∷ (byte_text output.byte ++ 10 ∷ [])))

-- how the run ended, None if the steps were used up
abbrev pub board_end_line : Option BoardEnd → (at steps : ℕ) → List ℕ
board_end_line None at steps = end_line None at steps
board_end_line (Some (OfMachine e)) at steps = end_line (Some e) at steps
board_end_line (Some (CellEmpty address)) at steps = codes "INPUT " ++ (word_text address ++ after_steps steps)
board_end_line (Some (CellRefused address)) at steps = codes "OUTPUT " ++ (word_text address ++ after_steps steps)

-- the transcript of a run: the stack bytes, the outputs in order, and the end, where `at` is the pc
abbrev pub board_transcript : (stack_bytes : ℕ) → List Output → Option BoardEnd → (at steps : ℕ) → List ℕ
board_transcript stack_bytes outputs ending at steps =
    stack_line stack_bytes ++ (flat_map output_line outputs ++ board_end_line ending at steps)

-- an image's run on a board ends so, and the text is its transcript
pub record IsRunTranscript (lines : List Line) (image : Located) (stack_bytes : ℕ) (limits : Limits) (ended : BoardEnded) (text : List ℕ) : Type 0 where
  pub run : EndsSo lines image.regions (board_start image) limits ended
  pub spells : text ≡ board_transcript stack_bytes run.last.outputs ended.end ended.at ended.steps
