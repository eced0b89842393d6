use Rattle.std.proofs.Common.{Result, Ok, Err, IfOk}
use Rattle.plm80_boards.proofs.given_board.GivenBoard.quiet.Goals as goal

both_ok : {A E : Type 0} (P Q : A → Type 0) (r : Result A E) → IfOk r P → IfOk r Q → IfOk r (λ x. P x × Q x)
both_ok P Q (Ok x) p q = (p, q)
both_ok P Q (Err e) p q = tt

pub returns-in-Some : goal.returns-in-Some
returns-in-Some c = rw c.in-Some.is (both_ok _ _ c.quiet_of.result c.quiet_of.ensures.ram c.quiet_of.ensures.none)
