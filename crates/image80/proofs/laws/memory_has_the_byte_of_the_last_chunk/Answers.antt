use Rattle.image80.specs.Memory.{length-memory_of, memory_of-at, byte_at-snoc}
use Rattle.image80.proofs.laws.memory_has_the_byte_of_the_last_chunk.Goals as goal

pub returns-clause-whole : goal.returns-clause-whole
returns-clause-whole c = length-memory_of

pub returns-clause-at_address : goal.returns-clause-at_address
returns-clause-at_address c = memory_of-at

pub returns-clause-later_hides : goal.returns-clause-later_hides
returns-clause-later_hides c = byte_at-snoc
