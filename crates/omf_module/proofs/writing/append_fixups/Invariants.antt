-- what is written
use Rattle.std.proofs.Common.{◌≡◌, ◌++◌, take, map}
use Rattle.std.specs.List.{flat_map}
use Rattle.omf_body.specs.Bodies.{record_bytes}
use Rattle.omf_module.specs.Writing.{fixup_body}
use Rattle.omf_module.proofs.writing.append_fixups.Given as goal

abbrev pub invariant-loop-fixup : goal.invariant-loop-fixup
invariant-loop-fixup l =
    l.out.items ≡ l.initial.out.items ++ flat_map record_bytes (map (fixup_body l.own) (take l.fixup-index l.fixups))
