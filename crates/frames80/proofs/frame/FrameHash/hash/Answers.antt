use Rattle.std.proofs.Common.{◌≡◌, subst}
use Rattle.std.specs.List.{fold}
use Rattle.frames80.specs.StackFrame.{StackFrame}
use Rattle.frames80.specs.FrameEquality.{frame_writes}
use Rattle.frames80.proofs.HashLemmas.{written}
use Rattle.frames80.proofs.frame.FrameHash.hash.Goals as goal

pub returns : goal.returns
returns g c =
    subst (λ (f : StackFrame). c.hash-4.new.state ≡ fold g.H.Hasher.write c.args.state.now (frame_writes f)) c.self.view_is
    (written g.H.Hasher.write c.args.state.now c.write_u32.new.self c.hash.new.state c.hash-2.new.state c.hash-3.new.state c.hash-4.new.state
    c.self.inside.words.items c.self.inside.taken c.self.inside.bc c.self.inside.de c.self.inside.hl
    c.write_u32.ensures c.hash.ensures c.hash-2.ensures c.hash-3.ensures c.hash-4.ensures)
