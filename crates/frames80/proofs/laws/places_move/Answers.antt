use Rattle.frames80.proofs.PlaceLemmas.{returns_by_places, meets_by_places}
use Rattle.frames80.proofs.laws.places_move.Goals as goal

pub returns-clause-call : goal.returns-clause-call
returns-clause-call c = returns_by_places

pub returns-clause-meet : goal.returns-clause-meet
returns-clause-meet c = meets_by_places
