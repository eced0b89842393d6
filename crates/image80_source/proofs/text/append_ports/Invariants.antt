use Rattle.std.proofs.Common.{◌≡◌, ◌-◌, ◌++◌}
use Rattle.image80_source.specs.SourceText.{port_equate, port_equates}
use Rattle.image80_source.proofs.RestLemmas.{rest_of}
use Rattle.image80_source.proofs.text.append_ports.Given as goal

abbrev pub invariant-loop-port : goal.invariant-loop-port
invariant-loop-port l = l.out.items ++ rest_of (port_equate l.labels) l.port (256 - l.port) ≡ l.initial.out.items ++ port_equates l.labels
