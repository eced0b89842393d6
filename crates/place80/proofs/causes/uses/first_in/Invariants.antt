use Rattle.std.proofs.Common.{◌≡◌, drop}
use Rattle.omf_model.specs.HighReferences.{loses_with}
use Rattle.place80.specs.Locating.{word_among}
use Rattle.place80.specs.Uses.{first_given, use_of, first_use_in}
use Rattle.place80.proofs.causes.uses.first_in.Given as goal

-- the first of the fixups that are left is the first of all
abbrev pub invariant-loop-fixup : goal.invariant-loop-fixup
invariant-loop-fixup l =
    first_given (use_of (word_among l.segments) (loses_with (word_among l.segments)) l.content) (drop l.fixup-index l.content.fixups)
    ≡ first_use_in (word_among l.segments) (loses_with (word_among l.segments)) l.content
