-- The exit status of a run on a board. (This project's own.)
use Rattle.std.specs.Prelude.{ℕ, Option, None, Some}
use Rattle.machine80_board.specs.declared.end.BoardEnd.{BoardEnd}
use Rattle.machine80_board.specs.declared.end.BoardEnd.TheVariants.{OfMachine}
use Rattle.plm80_bundles.specs.Status.{end_status}

-- of a run on a board: at a cell of a device it ends as at a port
abbrev pub board_end_status : Option BoardEnd → ℕ
board_end_status None = 4
board_end_status (Some (OfMachine ending)) = end_status (Some ending)
board_end_status (Some _) = 3
