use Rattle.board80.proofs.DigitLemmas.{no_byte_read}
use Rattle.board80.proofs.digits.read_byte.Goals as goal

pub returns-in_default-clause-none : goal.returns-in_default-clause-none
returns-in_default-clause-none c = no_byte_read c.args.text.now c.in_default.ensures.none
