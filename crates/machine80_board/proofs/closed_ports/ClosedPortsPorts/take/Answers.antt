use Rattle.std.proofs.Common.{ap}
use Rattle.std.specs.Prelude.{Some, List, [], ℕ}
use Rattle.machine80_board.proofs.StepLemmas.{inputs_whole, none_taken, none_waits}
use Rattle.machine80_board.proofs.closed_ports.ClosedPortsPorts.take.Goals as goal

pub returns-clause-byte : goal.returns-clause-byte
returns-clause-byte c = none_waits c.args._port

pub returns-clause-taken : goal.returns-clause-taken
returns-clause-taken c = ap (λ (l : List (List ℕ)). record { inputs = l; outputs = []; refused = c.args.self.now.refused; limit = Some 0; room = 0 }) (none_taken c.args._port)

pub returns-clause-whole : goal.returns-clause-whole
returns-clause-whole c = inputs_whole
