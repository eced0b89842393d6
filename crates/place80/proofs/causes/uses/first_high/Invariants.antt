use Rattle.std.proofs.Common.{◌≡◌, drop}
use Rattle.omf_model.specs.HighReferences.{loses_with}
use Rattle.place80.specs.Locating.{word_among}
use Rattle.place80.specs.Uses.{first_use, first_high}
use Rattle.place80.proofs.causes.uses.first_high.Given as goal

-- the first of the contents that are left is the first of all
abbrev pub invariant-loop-content : goal.invariant-loop-content
invariant-loop-content l =
    first_use (word_among l.segments) (loses_with (word_among l.segments)) (drop l.content-index l.program.contents)
    ≡ first_high l.segments l.program
