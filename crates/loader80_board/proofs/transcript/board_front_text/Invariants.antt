use Rattle.std.proofs.Common.{◌≡◌, ◌++◌, take, string_bytes}
use Rattle.std.specs.List.{flat_map}
use Rattle.loader80.specs.TranscriptText.{stack_line}
use Rattle.loader80_board.specs.BoardTranscript.{output_line}
use Rattle.loader80_board.proofs.transcript.board_front_text.Given as goal

abbrev pub invariant-loop-output : goal.invariant-loop-output
invariant-loop-output l = string_bytes l.text ≡ stack_line l.fn.stack_bytes ++ flat_map output_line (take l.output-index l.outputs)
