-- what is written
use Rattle.std.proofs.Common.{◌≡◌, ◌++◌, take, map}
use Rattle.std.specs.List.{flat_map}
use Rattle.omf_body.specs.Bodies.{record_bytes}
use Rattle.omf_module.specs.Writing.{common_body}
use Rattle.omf_module.proofs.writing.append_commons.Given as goal

abbrev pub invariant-loop-common : goal.invariant-loop-common
invariant-loop-common l =
    l.out.items ≡ l.initial.out.items ++ flat_map record_bytes (map common_body (take l.common-index l.commons))
