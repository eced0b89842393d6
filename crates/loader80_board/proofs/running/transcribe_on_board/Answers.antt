use Rattle.std.proofs.Common.{List, ap, ◌∙◌}
use Rattle.machine80.specs.declared.cpu.Cpu.{Cpu}
use Rattle.machine80_board.specs.declared.output.Output.{Output}
use Rattle.loader80_board.specs.BoardTranscript.{board_transcript}
use Rattle.loader80_board.proofs.running.transcribe_on_board.Goals as goal

pub returns : goal.returns
returns c =
    let ran = c.in_ok-ran.ran in
    let is = c.in_ok-ran.ensures in
    record {
      run = record { last = is.last; run = is.is; at = c.pc.ensures ∙ ap (λ (cpu : Cpu). cpu.pc) is.cpu };
      spells = c.in_ok-text.ensures
          ∙ ap (λ (outputs : List Output). board_transcript c.args.stack_bytes outputs ran.end c.pc.result ran.steps) (c.deref.ensures.value ∙ is.outputs);
    }
