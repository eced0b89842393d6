use Rattle.std.specs.Prelude.{◌≡◌, ◌+◌, ◌-◌, find, not}
use Rattle.std.specs.List.{range_with_len}
use Rattle.place80_text.specs.Board.{is_mapped}
use Rattle.place80_text.proofs.board.unmapped_from.Given as goal

-- the first of the addresses that are left is the first of all
abbrev pub invariant-loop-address : goal.invariant-loop-address
invariant-loop-address l =
    find (λ address. not (is_mapped l.board.rom.now l.board.ram.now l.segment address)) (range_with_len l.address (l.first + l.count - l.address))
    ≡ find (λ address. not (is_mapped l.board.rom.now l.board.ram.now l.segment address)) (range_with_len l.first l.count)
