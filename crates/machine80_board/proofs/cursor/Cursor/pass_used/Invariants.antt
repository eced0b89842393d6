use Rattle.std.proofs.Common.{length, ◌-◌, ◌≡◌, ℕ}
use Rattle.board80.specs.ByteList.{ListedBytes}
use Rattle.machine80_board.specs.Cursor.{IsAt}
use Rattle.machine80_board.proofs.cursor.Cursor.pass_used.Given as goal

abbrev pub invariant-loop-self : goal.invariant-loop-self
invariant-loop-self l = (list : ListedBytes) (given : ℕ) → list.items ≡ l.items → IsAt list l.fn.self given → IsAt list l.self given

abbrev pub decreases-loop-self : goal.decreases-loop-self
decreases-loop-self l = length l.items - l.self.item
