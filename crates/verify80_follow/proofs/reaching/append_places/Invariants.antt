use Rattle.std.specs.Prelude.{◌≡◌, ◌++◌, map, take}
use Rattle.verify80_follow.proofs.reaching.append_places.Given as goal

abbrev pub invariant-loop-state : goal.invariant-loop-state
invariant-loop-state l = l.places.items ≡ l.initial.places.items ++ map (λ s. s.at) (take l.state-index l.states)
