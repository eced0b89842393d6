use Rattle.std.proofs.Common.{arith, ◌/◌}
use Rattle.rom80_find.proofs.BitLemmas.{bits_from}
use Rattle.rom80_find.proofs.marks.bits_from.Goals as goal

pub returns : goal.returns
returns c = λ i lt. bits_from c.args.words.now c.args.first i (omega (arith, c.type_inv.words (c.args.first / 64))) lt
