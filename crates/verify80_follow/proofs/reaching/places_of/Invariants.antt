use Rattle.std.specs.Prelude.{◌≡◌, ◌++◌, map, take}
use Rattle.std.specs.List.{flat_map}
use Rattle.verify80_follow.proofs.reaching.places_of.Given as goal

abbrev pub invariant-loop-handler : goal.invariant-loop-handler
invariant-loop-handler l = l.places.items ≡ map (λ s. s.at) l.table.states.items ++ (flat_map (λ summary. map (λ s. s.at) summary.states.items) l.table.summaries.items ++ flat_map (λ handler. map (λ s. s.at) handler.table.states.items) (take l.handler-index l.handlers))
