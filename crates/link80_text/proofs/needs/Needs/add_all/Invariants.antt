-- the names so far
use Rattle.std.proofs.Common.{ℕ, List, [], take}
use Rattle.link80_text.specs.Needs.{AreWith}
use Rattle.link80_text.proofs.needs.Needs.add_all.Given as goal

abbrev pub invariant-loop-name : goal.invariant-loop-name
invariant-loop-name l = (rest : List ℕ → List ℕ) → AreWith [] l.number rest l.initial.self → AreWith (take l.name-index l.names) l.number rest l.self
