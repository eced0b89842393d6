use Rattle.std.proofs.Common.{◌≡◌, ◌≤◌, ◌++◌, ℕ, List, drop}
use Rattle.std.specs.Prelude.{slice_get}
use Rattle.board80.specs.Answers.{items_bytes}
use Rattle.board80.proofs.byte_list.ByteList.byte_at.Given as goal

-- what is left of the index among the items that are left
abbrev pub invariant-loop-item : goal.invariant-loop-item
invariant-loop-item l = record {
  below : l.left ≤ l.index;
  same : (tail : List ℕ) → slice_get (items_bytes (drop l.item-index l.self.items) ++ tail) l.left ≡ slice_get (items_bytes l.self.items ++ tail) l.index;
}
