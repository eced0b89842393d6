use Rattle.rom80_find.proofs.SieveLemmas.{all_set}
use Rattle.rom80_find.proofs.sieve.all_addresses.Goals as goal

pub returns-clause-each : goal.returns-clause-each
returns-clause-each c = λ a lt. all_set c.in_ok-alive.alive.items c.args.count c.in_ok-alive.ensures.whole c.in_ok-alive.ensures.each a lt
