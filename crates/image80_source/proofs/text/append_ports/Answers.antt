use Rattle.std.proofs.Common.{◌++◌, ◌-◌, ap, arith, ℕ, List}
use Rattle.image80_source.specs.SourceText.{port_equate}
use Rattle.image80_source.proofs.RestLemmas.{all_ports, rest_more, rest_none}
use Rattle.image80_source.proofs.text.append_ports.Goals as goal

pub loop-port-init : goal.loop-port-init
loop-port-init c = ap (λ (l : List ℕ). c.args.out.now.items ++ l) (all_ports c.args.labels.now)

pub loop-port-preserved : goal.loop-port-preserved
loop-port-preserved c =
    rest_more (port_equate c.args.labels.now) 256 c.loop-port.port c.loop-port.out.items _ _ c.loop-port-test.true c.loop-port.invariant c.in_ok-append_port_equate.ensures

pub returns : goal.returns
returns c =
    rest_none (port_equate c.args.labels.now) c.loop-port.port (256 - c.loop-port.port) c.loop-port.out.items _ (omega (arith, c.loop-port-test.false)) c.loop-port.invariant
