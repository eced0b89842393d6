use Rattle.std.proofs.Common.{rules}
use Rattle.decode80.specs.Decoded.{decoded}
use Rattle.decode80.proofs.Decoded.{found_clause, none_clause}
use Rattle.decode80.proofs.Unused.{unused_clause}
use Rattle.decode80.proofs.decoding.decode.Goals as goal

pub returns-clause-value : goal.returns-clause-value
unfolding decoded
returns-clause-value c = search rules

pub returns-clause-found : goal.returns-clause-found
returns-clause-found c = found_clause c.args.bytes _ (search rules) (search rules) (returns-clause-value c)

pub returns-clause-none : goal.returns-clause-none
returns-clause-none c = none_clause c.args.bytes _ (search rules) (search rules) (returns-clause-value c)

pub returns-clause-unused : goal.returns-clause-unused
returns-clause-unused c = unused_clause _ _ _ _ (search rules) (returns-clause-value c)
