-- the handlers so far
use Rattle.std.specs.Prelude.{◌≡◌, map, take}
use Rattle.plm80_programs.proofs.finding.find_handlers.Given as goal

abbrev pub invariant-loop-at : goal.invariant-loop-at
invariant-loop-at l = map (λ handler. handler.at) l.handlers.items ≡ take l.at-index l.addresses
