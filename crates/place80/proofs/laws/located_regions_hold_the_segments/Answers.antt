use Rattle.place80.proofs.LocatedRegions.{located_regions_hold}
use Rattle.place80.proofs.laws.located_regions_hold_the_segments.Goals as goal

pub returns : goal.returns
returns c = located_regions_hold
