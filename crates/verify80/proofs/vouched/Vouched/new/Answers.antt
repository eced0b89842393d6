use Rattle.verify80.proofs.vouched.Vouched.new.Goals as goal

pub invariant_of-result : goal.invariant_of-result
invariant_of-result c = (record { accepted = c.requires.accepted; never_goes_wrong = c.runs_as_verified.ensures.watched c.args.verified.report.stack_bytes c.requires.accepted.fitted c.requires.accepted.within }, c.requires.kept, c.requires.points)

pub returns-clause-vouched : goal.returns-clause-vouched
returns-clause-vouched c = record { accepted = c.requires.accepted; never_goes_wrong = c.runs_as_verified.ensures.watched c.args.verified.report.stack_bytes c.requires.accepted.fitted c.requires.accepted.within }
