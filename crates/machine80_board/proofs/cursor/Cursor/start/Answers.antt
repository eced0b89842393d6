use Rattle.std.proofs.Common.{refl}
use Rattle.machine80_board.proofs.CursorLemmas.{starts}
use Rattle.machine80_board.proofs.cursor.Cursor.start.Goals as goal

pub returns : goal.returns
returns c = λ list. starts list _ refl refl refl
