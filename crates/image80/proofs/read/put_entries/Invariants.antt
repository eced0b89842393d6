use Rattle.std.proofs.Common.{◌≡◌, ◌∷◌, ℕ, List, length}
use Rattle.image80.specs.Lines.{parts}
use Rattle.image80.specs.Reading.{HasSeen}
use Rattle.image80.specs.RegionsText.{heading, GoodStart}
use Rattle.image80.proofs.read.put_entries.Given as goal

abbrev pub invariant-loop-line : goal.invariant-loop-line
invariant-loop-line l = record {
  good : (text : List ℕ) → parts text ≡ heading l.version ∷ parts l.fn.lines → GoodStart l.version text l.entries.items (parts l.rest);
  seen : HasSeen l.seen l.entries.items;
}

abbrev pub decreases-loop-line : goal.decreases-loop-line
decreases-loop-line l = length l.rest
