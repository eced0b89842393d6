use Rattle.frames80_interned.specs.Frames.{frame_at, StayNumbered}
use Rattle.verify80_flow.specs.Known.{GoesToFirst}
use Rattle.verify80_flow.proofs.table.Table.go_to_each.Given as goal

abbrev pub invariant-loop-to : goal.invariant-loop-to
invariant-loop-to l = record {
  goes : GoesToFirst l.fn.self.known l.self.known l.site.procedure (frame_at l.fn.self.frames l.site.frame) l.targets l.to-index l.changed;
  stays : StayNumbered l.fn.self.frames l.self.frames;
}
