use Rattle.std.proofs.Common.{◌≡◌, ◌++◌, take}
use Rattle.std.specs.List.{flat_map}
use Rattle.place80_text.proofs.reading.append_publics.Given as goal

abbrev pub invariant-loop-from : goal.invariant-loop-from
invariant-loop-from l = l.publics.items ≡ l.fn.publics.items ++ flat_map (λ m. m.publics) (take l.from-index l.modules)
