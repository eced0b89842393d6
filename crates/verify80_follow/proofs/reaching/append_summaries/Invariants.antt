use Rattle.std.specs.Prelude.{◌≡◌, ◌++◌, map, take}
use Rattle.std.specs.List.{flat_map}
use Rattle.verify80_follow.proofs.reaching.append_summaries.Given as goal

abbrev pub invariant-loop-summary : goal.invariant-loop-summary
invariant-loop-summary l = l.places.items ≡ l.initial.places.items ++ flat_map (λ summary. map (λ s. s.at) summary.states.items) (take l.summary-index l.summaries)
