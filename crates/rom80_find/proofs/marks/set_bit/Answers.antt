use Rattle.std.proofs.Common.{arith}
use Rattle.rom80_find.proofs.BitLemmas.{bit_set}
use Rattle.rom80_find.proofs.marks.set_bit.Goals as goal

pub returns-clause-each : goal.returns-clause-each
returns-clause-each c = λ k. bit_set c.args.words.now c.args.bit k (omega (arith, c.requires))
