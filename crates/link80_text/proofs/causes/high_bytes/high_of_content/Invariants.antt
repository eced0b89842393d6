use Rattle.std.proofs.Common.{◌≡◌, drop}
use Rattle.link80_text.specs.HighBytes.{first_given, high_of_fixup}
use Rattle.link80_text.proofs.causes.high_bytes.high_of_content.Given as goal

-- the first of the fixups that are left is the first of all
abbrev pub invariant-loop-fixup : goal.invariant-loop-fixup
invariant-loop-fixup l =
    first_given (high_of_fixup l.starts.0 l.number l.content) (drop l.fixup-index l.content.fixups)
    ≡ first_given (high_of_fixup l.starts.0 l.number l.content) l.content.fixups
