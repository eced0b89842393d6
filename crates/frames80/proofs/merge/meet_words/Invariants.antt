use Rattle.std.proofs.Common.{◌≡◌, ◌↔◌, false}
use Rattle.frames80.proofs.Meeting.{met_to}
use Rattle.frames80.proofs.merge.meet_words.Given as goal

abbrev pub invariant-loop-i : goal.invariant-loop-i
invariant-loop-i l = record {
  met : l.words.items ≡ met_to l.i l.fn.words.items l.others.items;
  changed : (l.changed ≡ false) ↔ (l.words.items ≡ l.fn.words.items);
}
