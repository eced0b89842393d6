use Rattle.std.proofs.Common.{sym, subst, refl}
use Rattle.machine80_board.specs.Keeping.{HaveSeen}
use Rattle.machine80_board.proofs.CellLemmas.{cell_answers}
use Rattle.machine80_board.proofs.stepping.answer_byte.Goals as goal

pub returns-in-Answer-clause-answers : goal.returns-in-Answer-clause-answers
returns-in-Answer-clause-answers c = λ s now.
    let a = c.in-Answer.ensures.answer in
    let both = a.1.1 s.reads s.outputs now.given (subst (λ l. HaveSeen l s.outputs) (sym c.deref.ensures.value) now.seen) in
    cell_answers c.args.rules.now.lines.now c.args.address c.in-Answer.byte s c.args.running.now _ now a.0 a.1.0 both.0 both.1 refl c.store.ensures.stored
