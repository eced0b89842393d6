use Rattle.std.proofs.Common.{◌≡◌, ◌++◌, take}
use Rattle.machine80_board.specs.Keeping.{AreWhole, HaveSeen, IsSameMachine}
use Rattle.machine80_board.proofs.stepping.take_outputs.Given as goal

abbrev pub invariant-loop-output : goal.invariant-loop-output
invariant-loop-output l = record {
  whole : AreWhole l.running;
  taken : l.running.outputs.items ≡ l.fn.running.outputs.items ++ take l.output-index l.outputs;
  seen : HaveSeen l.fn.running.last.items l.fn.running.outputs.items → HaveSeen l.running.last.items l.running.outputs.items;
  same : IsSameMachine l.fn.running l.running;
}
