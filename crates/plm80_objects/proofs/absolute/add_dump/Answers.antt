use Rattle.std.specs.Prelude.{◌≤◌}
use Rattle.rom80.specs.Rom.{ShareAnAddress}
use Rattle.plm80_objects.proofs.Names.{ℕ, List, ◌+◌, ◌<◌, length, arith, subst, sym}
use Rattle.plm80_objects.proofs.absolute.add_dump.Goals as goal

not_past : (n : ℕ) → (65536 < n → ⊥) → n ≤ 65536
not_past n none = omega (arith, none)

pub returns-in-Ok-clause-apart : goal.returns-in-Ok-clause-apart
returns-in-Ok-clause-apart c = λ share.
    let bytes = c.deref.result.now in
    let none : 65536 < c.args.first + length bytes → ⊥ = λ past. cc (c.in-Ok.ensures.past.1 past) in
    let own : ShareAnAddress c.args.dumps.now c.args.first (length bytes) =
    subst (λ (bs : List ℕ). ShareAnAddress c.args.dumps.now c.args.first (length bs)) (sym c.deref.ensures.value) share in
    cc (c.in-Ok.ensures.overlap.1 (not_past (c.args.first + length bytes) none, own))
