use Rattle.std.proofs.Common.{◌≡◌, drop}
use Rattle.link80_text.specs.Words.{named_part}
use Rattle.link80_text.proofs.named.named_part.Given as goal

-- the part by the commons that are left is that by all
abbrev pub invariant-loop-common : goal.invariant-loop-common
invariant-loop-common l =
    named_part l.source.segments (drop l.common-index l.common-items) l.name ≡ named_part l.source.segments l.source.commons l.name
