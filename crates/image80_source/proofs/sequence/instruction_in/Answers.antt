use Rattle.std.proofs.Common.{◌≤◌, subst, sym, refl, ℕ}
use Rattle.image80_source.proofs.sequence.instruction_in.Goals as goal

pub returns-then-length-room : goal.returns-then-length-room
returns-then-length-room c =
    let found = (c.in_ok-instr.ensures.found c.in_ok-instr.instr c.in_ok-instr.length).0 refl in
    subst (λ (n : ℕ). (1 ≤ n) × (n ≤ 3)) (sym found.1) (c.spelling_laws.ensures.sizes c.in_ok-instr.instr)
