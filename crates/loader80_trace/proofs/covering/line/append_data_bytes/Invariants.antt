use Rattle.std.proofs.Common.{◌≡◌, ◌++◌, ◌+◌, ◌-◌}
use Rattle.std.specs.List.{flat_map}
use Rattle.text80.specs.Digits.{byte_text}
use Rattle.loader80_trace.specs.Cover.{data_from, is_data}
use Rattle.loader80_trace.proofs.covering.line.append_data_bytes.Given as goal

abbrev pub invariant-loop-offset : goal.invariant-loop-offset
invariant-loop-offset l =
    l.lines.items ++ flat_map byte_text (data_from (is_data l.layout.regions.now l.layout.reached.now) l.layout.memory.now (8 - l.offset) (l.first + l.offset))
    ≡ l.initial.lines.items ++ flat_map byte_text (data_from (is_data l.layout.regions.now l.layout.reached.now) l.layout.memory.now 8 l.first)
