-- What was read when memory ran out was still taken.
use Rattle.std.proofs.Common.{◌+◌, ◌≤◌, length, take, arith, ◌++◌, vec_len, length-append, length-take}
use Rattle.std.proofs.KnownBytes.{Consumes-trans}
use Rattle.stream80.proofs.whole.read_all.Goals as goal

pub returns-in_err-extend_from_slice-clause-taken : goal.returns-in_err-extend_from_slice-clause-taken
returns-in_err-extend_from_slice-clause-taken g c =
    let kept : length (take c.in_ok-count.count c.read.new.buffer) ≤ c.in_ok-count.count =
    omega (arith, length-take c.in_ok-count.count c.read.new.buffer) in
    let room : c.in_ok-count.count + vec_len c.loop-piece.bytes ≤ c.args.limit + 1 =
    let bound = c.in_ok-count.ensures.bound in
    let same = simp length-take at c.read.auto.buffer in omega (arith, bound, same) in (
      c.loop-piece.bytes.items ++ take c.in_ok-count.count c.read.new.buffer,
      omega (arith, length-append c.loop-piece.bytes.items (take c.in_ok-count.count c.read.new.buffer), c.loop-piece.bytes.ok.0),
      Consumes-trans _ _ _ _ _ c.loop-piece.invariant.front c.in_ok-count.ensures.bytes.0,
    )
