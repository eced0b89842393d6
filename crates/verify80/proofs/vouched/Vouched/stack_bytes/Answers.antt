use Rattle.std.proofs.Common.{subst}
use Rattle.verify80.specs.Starts.{NeverGoesWrongFromPowerOn}
use Rattle.verify80.specs.Vouched.{Voucher}
use Rattle.verify80.proofs.vouched.Vouched.stack_bytes.Goals as goal

pub returns-clause-from_power_on : goal.returns-clause-from_power_on
returns-clause-from_power_on c =
    let known = c.self.invariant.0 in
    subst (λ (v : Voucher). NeverGoesWrongFromPowerOn v.image c.self.inside.stack_bytes) c.self.view_is
    (c.runs_as_verified.ensures.from_power_on c.self.inside.stack_bytes known.accepted.fitted known.accepted.within)
