-- the targets so far come before those of the text that is left
use Rattle.std.specs.Prelude.{ℕ, List, ◌++◌, ◌<◌, All, length}
use denote.Shadow.{shadow}
use denote.Text.{Utf8}
use Rattle.plm80_regions.specs.CaseTexts.{AreTargetTexts}
use Rattle.plm80_regions.proofs.case_texts.targets_of.Given as goal

abbrev pub invariant-loop-first : goal.invariant-loop-first
invariant-loop-first l = record {
  is_text : shadow (Utf8 l.rest);
  left : (others : List ℕ) → AreTargetTexts l.rest others → AreTargetTexts l.fn.text (l.targets.items ++ others);
  whole : (others : List ℕ) → AreTargetTexts l.fn.text others → (left : List ℕ) × AreTargetTexts l.rest left;
  words : All (λ target. target < 65536) l.targets.items;
}

abbrev pub decreases-loop-first : goal.decreases-loop-first
decreases-loop-first l = length l.rest
