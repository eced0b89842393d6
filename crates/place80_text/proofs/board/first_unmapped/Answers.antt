use Rattle.std.specs.Prelude.{◌≡◌, None}
use Rattle.std.proofs.Common.{◌∙◌, sym}
use Rattle.place80.specs.PlaceFault.{absolute_places}
use Rattle.place80_text.specs.Board.{first_unmapped, places_of, restart_places}
use Rattle.place80_text.proofs.BoardLemmas.{are_mapped, none_unmapped, of_all}
use Rattle.place80_text.proofs.board.first_unmapped.Goals as goal

first : goal.returns-clause-first
first c =
    let board = c.args.board in
    let all = of_all board.rom.now board.ram.now c.args.segments.now (absolute_places c.args.program.now.contents) (restart_places c.args.restart) in
    cc (all, c.or-2.ensures, c.or.ensures, c.first_of_segments.ensures, c.first_of_contents.ensures, c.first_of_restart.ensures, c.contents.ensures.value)

pub returns-clause-first : goal.returns-clause-first
returns-clause-first c = first c

pub returns-clause-exact : goal.returns-clause-exact
returns-clause-exact c =
    let board = c.args.board in
    let places = places_of c.args.program.now c.args.segments.now c.args.restart in
    (λ none. are_mapped board.rom.now board.ram.now places (sym (first c) ∙ none), λ all. first c ∙ none_unmapped board.rom.now board.ram.now places all)
