use Rattle.std.proofs.Common.{◌≡◌, ◌++◌, ◌<◌, length}
use Rattle.std.specs.Prelude.{All}
use Rattle.image80.specs.RegionsText.{targets_text}
use Rattle.image80.proofs.case_line.put_targets.Given as goal

-- the targets so far, and the text that is left
abbrev pub invariant-loop-target : goal.invariant-loop-target
invariant-loop-target l = record {
  spelled : l.fn.text ≡ targets_text l.targets.items ++ l.rest;
  words : All (λ target. target < 65536) l.targets.items;
}

abbrev pub decreases-loop-target : goal.decreases-loop-target
decreases-loop-target l = length l.rest
