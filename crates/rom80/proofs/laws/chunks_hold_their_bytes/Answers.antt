use Rattle.rom80.proofs.ChunkLemmas.{chunks_hold, taken_out}
use Rattle.rom80.proofs.laws.chunks_hold_their_bytes.Goals as goal

pub returns-clause-memory : goal.returns-clause-memory
returns-clause-memory c = chunks_hold

pub returns-clause-range : goal.returns-clause-range
returns-clause-range c = taken_out
