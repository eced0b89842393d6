use Rattle.std.proofs.Common.{◌≡◌, drop}
use Rattle.place80.specs.PlaceFault.{absolute_places}
use Rattle.place80_text.specs.Board.{first_unmapped}
use Rattle.place80_text.proofs.board.first_of_contents.Given as goal

-- the first of the contents that are left is the first of all
abbrev pub invariant-loop-content : goal.invariant-loop-content
invariant-loop-content l =
    first_unmapped l.board.rom.now l.board.ram.now (absolute_places (drop l.content-index l.contents))
    ≡ first_unmapped l.board.rom.now l.board.ram.now (absolute_places l.contents)
