use Rattle.std.proofs.Common.{◌≡◌, ◌<◌, ◌≤◌, List, length, get_or, refl, subst, sym}
use Rattle.board80.specs.declared.byte_list.Item.{Item}
use Rattle.machine80_board.proofs.CursorLemmas.{passes}
use Rattle.machine80_board.proofs.cursor.Cursor.pass_used.Goals as goal

pub loop-self-preserved : goal.loop-self-preserved
loop-self-preserved c = λ list given same at.
    passes list c.loop-self.self _ given c.index-items-self.result
    (subst (λ (xs : List Item). c.loop-self.self.item < length xs) (sym same) c.loop-self-test.true)
    (subst (λ (xs : List Item). c.index-items-self.result ≡ get_or xs c.loop-self.self.item c.index-items-self.result) (sym same) c.index-items-self.is)
    (subst (λ (x : Item). x.times ≤ c.loop-self.self.turn) (sym c.index-items-self.is) c.if-items-self.true) refl refl refl (c.loop-self.invariant list given same at)
