-- the references so far, and the cases that are left
use Rattle.std.specs.Prelude.{◌≡◌, ◌++◌, drop, map}
use Rattle.verify80_cases.proofs.adding.add_references.Given as goal

abbrev pub invariant-loop-case : goal.invariant-loop-case
invariant-loop-case l = map (λ k. k.now) l.all.items ++ drop l.case-index l.cases ≡ map (λ k. k.now) l.initial.all.items ++ l.cases
