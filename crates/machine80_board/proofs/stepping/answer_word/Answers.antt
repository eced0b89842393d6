use Rattle.std.proofs.Common.{◌∷◌, [], ℕ, subst}
use Rattle.decode80.specs.Fetch.{ahead}
use Rattle.machine80_board.specs.Keeping.{HaveAnswered, answering_cells}
use Rattle.machine80_board.proofs.CellLemmas.{apart, between, is_between, word_answers}
use Rattle.machine80_board.proofs.stepping.answer_word.Goals as goal

pub returns-clause-answers : goal.returns-clause-answers
returns-clause-answers c = λ s now.
    let lines = c.args.rules.now.lines.now in
    let a : ℕ = c.args.address in
    let mid = c.answer_byte.new.running in
    let one = c.in_ok-answer_byte.ensures.answers s now in
    let same = c.in_ok-answer_byte.ensures.same in
    let there = between s (answering_cells lines (a ∷ [])) mid in
    let two = c.answer_byte-2.ensures.answers there (is_between lines (answering_cells lines (a ∷ [])) s c.args.running.now mid now one same) in
    word_answers lines a (ahead a 1) s c.args.running.now mid c.answer_byte-2.new.running c.answer_byte-2.result (apart a c.ranges.address.fits) one
    (subst (λ (b : ℕ). HaveAnswered lines (answering_cells lines (b ∷ [])) there mid c.answer_byte-2.new.running c.answer_byte-2.result) c.ahead.ensures two)
