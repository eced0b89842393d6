use Rattle.std.proofs.Common.{ap, subst}
use Rattle.verify80_flow.specs.Points.{AreApart, AreAddresses, StoredPoints}
use Rattle.verify80_flow.proofs.PointLemmas.{AreApart-stored, AreAddresses-stored}
use Rattle.verify80_flow.proofs.points.Points.len.Goals as goal

pub returns-clause-apart : goal.returns-clause-apart
returns-clause-apart c =
    let fields = c.self.inside in
    subst AreApart (ap (λ (s : StoredPoints). s.points) c.self.view_is) (AreApart-stored fields.frames fields.stored.items fields.numbers c.self.invariant)

pub returns-clause-addresses : goal.returns-clause-addresses
returns-clause-addresses c =
    let fields = c.self.inside in
    subst AreAddresses (ap (λ (s : StoredPoints). s.points) c.self.view_is) (AreAddresses-stored fields.frames fields.stored.items fields.numbers c.self.invariant c.numbers_are_of_addresses.ensures)
