-- what is written
use Rattle.std.proofs.Common.{◌≡◌, ◌++◌, take, map}
use Rattle.std.specs.List.{flat_map}
use Rattle.omf_body.specs.Bodies.{record_bytes}
use Rattle.omf_module.specs.Writing.{public_body}
use Rattle.omf_module.proofs.writing.append_publics.Given as goal

abbrev pub invariant-loop-public : goal.invariant-loop-public
invariant-loop-public l =
    l.out.items ≡ l.initial.out.items ++ flat_map record_bytes (map public_body (take l.public-index l.publics))
