use Rattle.std.proofs.Common.{◌≡◌, ◌∙◌, ◌++◌, ◌∷◌, [], ℕ, Option, Some, get_or, ap, sym, subst}
use Rattle.std.specs.Prelude.{slice_set}
use Rattle.board80.specs.declared.answers.Answers.{Answers}
use Rattle.board80.specs.declared.answers.Answers.TheVariants.{Listed}
use Rattle.machine80_board.specs.declared.cursor.Cursor.{Cursor}
use Rattle.machine80_board.specs.Cursor.{IsAt}
use Rattle.machine80_board.specs.Exchanges.{answer_of, answers_at, times_read}
use Rattle.machine80_board.specs.Keeping.{HaveGiven}
use Rattle.machine80_board.proofs.PlaceLemmas.{given_by, given_more}
use Rattle.machine80_board.proofs.CellLemmas.{some_then}
use Rattle.machine80_board.proofs.answering.take_answer.Goals as goal

pub returns-in-Listed-clause-answer : goal.returns-in-Listed-clause-answer
returns-in-Listed-clause-answer c = λ reads outputs given seen.
    let is : answers_at c.args.lines.now c.args.place ≡ Some (Listed c.in-Listed.list) = c.in_ok-list.ensures.found ∙ ap (λ (a : Answers). Some a) c.in-Listed.is in
    let n : ℕ = times_read c.args.place reads in
    let at : IsAt c.in-Listed.list c.index.result.now n = subst (λ (x : Cursor). IsAt c.in-Listed.list x n) (sym (c.index.ensures ∙ ap (λ (i : ℕ). get_or c.args.cursors.now.items i c.index.result.now) c.slot-at.ensures.slot))
    (given.given c.args.place c.in-Listed.list c.slot-at.ensures.place is c.index.result.now) in
    c.next-byte.ensures.byte n at ∙ sym (ap (λ (o : Option Answers). answer_of o n outputs) is)

pub returns-in-Listed-clause-given : goal.returns-in-Listed-clause-given
returns-in-Listed-clause-given c = λ reads given.
    let is : answers_at c.args.lines.now c.args.place ≡ Some (Listed c.in-Listed.list) = c.in_ok-list.ensures.found ∙ ap (λ (a : Answers). Some a) c.in-Listed.is in
    let n : ℕ = times_read c.args.place reads in
    let at : IsAt c.in-Listed.list c.index.result.now n = subst (λ (x : Cursor). IsAt c.in-Listed.list x n) (sym (c.index.ensures ∙ ap (λ (i : ℕ). get_or c.args.cursors.now.items i c.index.result.now) c.slot-at.ensures.slot))
    (given.given c.args.place c.in-Listed.list c.slot-at.ensures.place is c.index.result.now) in
    some_then c.next-byte.result (λ moved. subst (λ (i : ℕ). HaveGiven c.args.lines.now (slice_set c.args.cursors.now.items i c.next-byte.new.self) (reads ++ c.args.place ∷ [])) (sym c.slot-at.ensures.slot)
    (given_more c.args.lines.now c.args.cursors.now.items reads c.args.place c.in-Listed.list c.next-byte.new.self c.requires.cursors c.slot-at.ensures.place is moved given)) (c.next-byte.ensures.moved n at)

pub returns-in-By-clause-given : goal.returns-in-By-clause-given
returns-in-By-clause-given c = λ reads given.
    given_by c.args.lines.now c.args.cursors.now.items reads c.args.place c.in-By.table (c.in_ok-list.ensures.found ∙ ap (λ (a : Answers). Some a) c.in-By.is) given
