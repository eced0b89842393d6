use Rattle.frames80_interned.proofs.StackLemmas.{within-stays}
use Rattle.frames80_interned.proofs.MetLemmas.{met-answered}
use Rattle.frames80_interned.proofs.meets.meet_beneath.Goals as goal

pub keep_met-requires-clause-one : goal.keep_met-requires-clause-one
keep_met-requires-clause-one c = within-stays c.args.stacks.now c.meet_to_kept.new.stacks c.in_ok-number.ensures.stays c.beneath-lower.result.one c.beneath-lower.ensures.one.there

pub keep_met-requires-clause-other : goal.keep_met-requires-clause-other
keep_met-requires-clause-other c = within-stays c.args.stacks.now c.meet_to_kept.new.stacks c.in_ok-number.ensures.stays c.beneath-lower.result.other c.beneath-lower.ensures.other.there

pub keep_met-requires-clause-met : goal.keep_met-requires-clause-met
keep_met-requires-clause-met c =
    met-answered c.args.stacks.now c.meet_to_kept.new.stacks c.in_ok-number.ensures.stays c.beneath-lower.result c.in_ok-number.number c.beneath-lower.ensures.one.there c.beneath-lower.ensures.other.there
    c.in_ok-number.ensures.met c.in_ok-number.ensures.unchanged
