use Rattle.std.proofs.Common.{◌≡◌, drop}
use Rattle.place80_text.specs.Board.{first_unmapped}
use Rattle.place80_text.proofs.board.first_of_segments.Given as goal

-- the first of the segments that are left is the first of all
abbrev pub invariant-loop-placed : goal.invariant-loop-placed
invariant-loop-placed l =
    first_unmapped l.board.rom.now l.board.ram.now (drop l.placed-index l.segments) ≡ first_unmapped l.board.rom.now l.board.ram.now l.segments
