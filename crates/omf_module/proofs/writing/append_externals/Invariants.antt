-- what is written
use Rattle.std.proofs.Common.{◌≡◌, ◌++◌, take, map}
use Rattle.std.specs.List.{flat_map}
use Rattle.omf_body.specs.Bodies.{record_bytes}
use Rattle.omf_module.specs.Writing.{external_body}
use Rattle.omf_module.proofs.writing.append_externals.Given as goal

abbrev pub invariant-loop-name : goal.invariant-loop-name
invariant-loop-name l =
    l.out.items ≡ l.initial.out.items ++ flat_map record_bytes (map external_body (take l.name-index l.externals))
