use Rattle.std.proofs.Common.{arith, refl}
use Rattle.image80_source.proofs.PlaceLemmas.{instruction_marked}
use Rattle.image80_source.proofs.contents.instruction_at.Goals as goal

pub all_marked-requires-clause-few : goal.all_marked-requires-clause-few
all_marked-requires-clause-few c =
    let found = (c.in_ok-instr.ensures.found c.in_ok-instr.instr c.in_ok-instr.length).0 refl in
    omega (arith, found.1, (c.spelling_laws.ensures.sizes c.in_ok-instr.instr).1)

pub returns-then-all_marked-clause-marked : goal.returns-then-all_marked-clause-marked
returns-then-all_marked-clause-marked c =
    let found = (c.in_ok-instr.ensures.found c.in_ok-instr.instr c.in_ok-instr.length).0 refl in
    instruction_marked c.args.contents.covered.now c.args.contents.memory.now c.args.at c.bytes_at.result c.in_ok-instr.instr
    c.bytes_at.ensures.first c.bytes_at.ensures.second c.bytes_at.ensures.third found.0 (c.spelling_laws.ensures.sizes c.in_ok-instr.instr).1
    (λ k inside. c.all_marked.ensures c.if-all_marked.true k (omega (arith, found.1, inside)))
