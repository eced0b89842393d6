use Rattle.std.proofs.Common.{ap, ◌∙◌, List}
use Rattle.image80.specs.Image.{PlacedBytes, byte_at}
use Rattle.rom80.specs.Rom.{is_covered}
use Rattle.rom80.proofs.ChunkLemmas.{byte_or-chunks, covered-chunks}
use Rattle.rom80.proofs.dumps.Dumps.add.Goals as goal

pub returns-in-Ok-clause-memory : goal.returns-in-Ok-clause-memory
returns-in-Ok-clause-memory c = λ address.
    ap (λ (l : List PlacedBytes). byte_at l address) c.in-Ok.ensures.added ∙ byte_or-chunks 0 c.args.self.now c.args.first c.args.bytes.now address

pub returns-in-Ok-clause-covered : goal.returns-in-Ok-clause-covered
returns-in-Ok-clause-covered c = λ address.
    ap (λ (l : List PlacedBytes). is_covered l address) c.in-Ok.ensures.added ∙ covered-chunks c.args.self.now c.args.first c.args.bytes.now address
