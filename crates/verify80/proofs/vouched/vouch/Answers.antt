use Rattle.verify80.specs.Vouched.{IsVouched}
use Rattle.verify80.proofs.vouched.vouch.Goals as goal

pub returns-in-Ok-clause-from_power_on : goal.returns-in-Ok-clause-from_power_on
returns-in-Ok-clause-from_power_on c =
    let known : IsVouched c.args.image c.new.result.rows c.new.result.stack_bytes = c.new.ensures.vouched in
    c.runs_as_verified.ensures.from_power_on c.new.result.stack_bytes known.accepted.fitted known.accepted.within
