use Rattle.std.proofs.Common.{◌≡◌, ◌≤◌, ◌++◌, drop}
use Rattle.omf_model.specs.Place.{starts_from}
use Rattle.link80.specs.Linked.{parts_end}
use Rattle.link80.proofs.starts.LaidOut.new.Given as goal

-- the starts so far, and those of the modules that are left; and the end of them all
abbrev pub invariant-loop-number : goal.invariant-loop-number
invariant-loop-number l =
    (l.starts.items ++ starts_from l.id l.end (drop l.number l.modules) ≡ starts_from l.id 0 l.modules)
    × (parts_end l.id l.end (drop l.number l.modules) ≡ parts_end l.id 0 l.modules)
    × (l.end ≤ 65535)
