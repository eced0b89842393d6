use Rattle.std.proofs.Common.{arith}
use Rattle.board80.proofs.WordLemmas.{no_space, space_at}
use Rattle.board80.proofs.digits.space.Goals as goal

pub returns-then-byte-eq32-clause-place : goal.returns-then-byte-eq32-clause-place
returns-then-byte-eq32-clause-place c = space_at c.args.text.now c.loop-place.place c.loop-place-test.true c.if-byte-eq32.true c.loop-place.invariant

pub returns-clause-place : goal.returns-clause-place
returns-clause-place c = no_space c.args.text.now (λ k below. c.loop-place.invariant k (omega arith))
