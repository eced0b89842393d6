use Rattle.machine80_board.proofs.PlacingLemmas.{all_offsets}
use Rattle.machine80_board.proofs.placing.is_in_data.Goals as goal

pub returns-clause-inside : goal.returns-clause-inside
returns-clause-inside c = λ done address inside. all_offsets c.args.range c.args.regions.now c.loop-offset.offset c.loop-offset-test.false c.loop-offset.invariant address inside
