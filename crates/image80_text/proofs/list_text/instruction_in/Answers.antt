use Rattle.std.proofs.Common.{◌≤◌, subst, sym, refl, ℕ}
use Rattle.image80_text.proofs.list_text.instruction_in.Goals as goal

pub returns-then-length-left-clause-length : goal.returns-then-length-left-clause-length
returns-then-length-left-clause-length c =
    let found = (c.in_ok-instr.ensures.found c.in_ok-instr.instr c.in_ok-instr.length).0 refl in
    subst (λ (n : ℕ). (1 ≤ n) × (n ≤ 3)) (sym found.1) (c.spelling_laws.ensures.sizes c.in_ok-instr.instr)
